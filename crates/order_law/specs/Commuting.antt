-- When a reply may as well be taken before another request is read.
use Rattle.std.specs.Prelude.{◌≡◌, ℕ, ◌%◌, false, Option, Some, None, nat_eq, slice_get}
use Rattle.fuse_spec.specs.declared.Purpose.{Purpose}
use Rattle.fuse_spec.specs.declared.Purpose.TheVariants as purpose
use Rattle.fuse_spec.specs.Kernel.Kernel.{Kernel, is_for}
use Rattle.fuse_spec.specs.Kernel.QueueCalls.{pending_at, waiting}
use Rattle.fuse_spec.specs.World.Events.{Outcome, read_pending, write}
use Rattle.fuse_spec.specs.World.Steps.{Happens}
use Rattle.fuse_spec.specs.World.Worlds.{World, Sent}

-- What a request serves is apart from what awaits a reply: the reply ends no INIT, and no request of the same call.
abbrev pub IsApart : Purpose → Option Purpose → Type 0
IsApart read None = Unit {0}
IsApart read (Some purpose.Init) = ⊥
IsApart read (Some (purpose.Release opened)) = Unit {0}
IsApart read (Some (purpose.Call call)) = is_for call read ≡ false

-- The reply is none to an INTERRUPT, nor to the request that is pending at this place, and ends another call's request,
-- a RELEASE, or none.
pub record IsReplyToAnother (k : Kernel) (place unique : ℕ) : Type 0 where
  pub number : ℕ
  pub serves : Purpose
  pub pending : pending_at k.queues place ≡ Some (number, serves)
  pub other : nat_eq unique number ≡ false
  pub to_request : nat_eq (unique % 2) 1 ≡ false
  pub apart : IsApart serves (waiting k.queues unique)

-- Where a pending request is read and then the reply to another one is taken, the reply may be taken first, and then the
-- request read, which is pending at the same place: with the same outcomes, and to the same world.
abbrev pub RepliesCommute : Type 0
RepliesCommute = (w mid last : World) (place k : ℕ) (sent : Sent) (read written : Outcome)
    → slice_get w.replies k ≡ Some sent → IsReplyToAnother w.kernel place sent.unique
    → Happens w (read_pending place) read mid → Happens mid (write k) written last
    → (first : World) × Happens w (write k) written first × Happens first (read_pending place) read last
