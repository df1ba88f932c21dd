-- How often a file handle occurs, whatever happened.
use Rattle.std.specs.Prelude.{◌≡◌, ◌≢◌, ◌≤◌, ◌<◌, ◌⊎◌, ℕ, true, Some, None, nat_eq, count_by}
use Rattle.fuse_spec.specs.declared.Opened.{Opened}
use Rattle.fuse_spec.specs.Claim.Counts.{opens_in}
use Rattle.fuse_spec.specs.Kernel.Kernel.{is_live}
use Rattle.fuse_spec.specs.Values.Maps.{get}
use Rattle.fuse_spec.specs.Kernel.Queues.{request_under}
use Rattle.fuse_spec.specs.Server.Server.{Kept}
use Rattle.fuse_spec.specs.World.Worlds.{World, Sent}
use Rattle.fuse_theorem.specs.Copies.{SomeHas}
use Rattle.fuse_theorem.specs.OpenNumbers.{open_files}

-- The kept reply to this request carries the file handle, or a copy on the reply link does.
abbrev pub CarriesOpen : World → (unique fh : ℕ) → Type 0
CarriesOpen w unique fh = ((k : Kept) × (get w.server.kept unique ≡ Some k) × (1 ≤ opens_in fh k.wire))
    ⊎ SomeHas (λ (s : Sent). (s.unique ≡ unique) × (1 ≤ opens_in fh s.wire)) w.replies

-- A handle is of one open file at most. Replies to one request alone carry it, and until that is answered no open file
-- has it.
pub record OpensOnce (w : World) : Type 0 where
  pub below : (unique fh : ℕ) → CarriesOpen w unique fh → fh < w.server.handles.next_fh
  pub one : (u v fh : ℕ) → CarriesOpen w u fh → CarriesOpen w v fh → u ≡ v
  pub unopened : (unique fh : ℕ) → CarriesOpen w unique fh → request_under w.kernel.queues unique ≢ None
      → count_by (λ (o : Opened). nat_eq o.fh fh) (open_files w) ≡ 0
  pub once : (fh : ℕ) → count_by (λ (o : Opened). nat_eq o.fh fh) (open_files w) ≤ 1

abbrev pub OpensOnceWhileLive : World → Type 0
OpensOnceWhileLive w = is_live w.kernel.phase ≡ true → OpensOnce w
