-- What goes over the device between the two sides of a world.
use Rattle.std.specs.Prelude.{◌≡◌, ◌+◌, ℕ, List, [], ◌∷◌, ◌++◌, Some, slice_get}
use Rattle.fuse_device.specs.Transfers.{Transfer, received, sent}
use Rattle.fuse_spec.specs.declared.WriteResult.{WriteResult}
use Rattle.fuse_spec.specs.Kernel.Kernel.{Kernel}
use Rattle.fuse_spec.specs.Kernel.Messages.{Request, WireReply}
use Rattle.fuse_spec.specs.Values.Maps.{remove}
use Rattle.fuse_spec.specs.World.Events.{Event, Outcome}
use Rattle.fuse_spec.specs.World.Events as event
use Rattle.fuse_spec.specs.World.Steps.{Happens}
use Rattle.fuse_spec.specs.World.Worlds.{Sent, World, first_world}
use Rattle.fk_wire.specs.declared.opcode.Opcode.{Opcode}
use Rattle.fk_kernel.specs.AwaitedReplies.{HasReplyHead, Says, awaited, head_unique, reply_to}
use Rattle.fk_drive_frames.specs.Agreements.{IsOlderAgreement}
use Rattle.fk_drive.specs.Driving.{IsSentFrame}

-- The bytes are a reply under this unique, and say this to the request that awaits it, if one does. None is an agreement on a
-- minor between 16 and 30, which this project's server never gives.
pub record IsReplyOf (k : Kernel) (bytes : List ℕ) (unique : ℕ) (wire : WireReply) : Type 0 where
  pub head : HasReplyHead bytes
  pub under : head_unique bytes ≡ unique
  pub says : (o : Opcode) → awaited k unique ≡ reply_to o → Says o bytes wire
  pub known : IsOlderAgreement bytes → ⊥

-- A request that goes onto its link is sent in a frame that spells it.
abbrev pub IsRequestTransfer : World → World → List Transfer → Type 0
IsRequestTransfer w after log = (r : Request) × (after.requests ≡ w.requests ++ r ∷ []) × (frame : List ℕ) × IsSentFrame frame r
    × (result : WriteResult) × (log ≡ sent frame result ∷ [])

-- A copy of a reply that the kernel takes is received in bytes that say it.
abbrev pub IsReplyTransfer : World → (place : ℕ) → List Transfer → Type 0
IsReplyTransfer w place log = (copy : Sent) × (slice_get w.replies place ≡ Some copy) × (bytes : List ℕ)
    × IsReplyOf w.kernel bytes copy.unique copy.wire × (log ≡ received bytes ∷ [])

-- At an event these go over the device.
abbrev pub AreTransfersAt : World → Event → World → List Transfer → Type 0
AreTransfersAt w event.read_interrupt after log = IsRequestTransfer w after log
AreTransfersAt w (event.read_forgets n) after log = IsRequestTransfer w after log
AreTransfersAt w (event.read_pending place) after log = IsRequestTransfer w after log
AreTransfersAt w (event.write place) after log = IsReplyTransfer w place log
AreTransfersAt w e after log = log ≡ []

-- Something went over the device at an event so, or nothing did.
abbrev pub HasTransfersAt : World → Event → World → Type 0
HasTransfersAt w e after = (log : List Transfer) × AreTransfersAt w e after log

-- The world once the answer of one call is collected.
abbrev pub answer_collected : World → ℕ → World
answer_collected w call = record w {
  kernel = record w.kernel { vfs = record w.kernel.vfs { answers = remove w.kernel.vfs.answers call } };
}

-- How many mounts there are in an event, and in events.
abbrev pub mounts_at : Event → ℕ
mounts_at (event.mount found missing minor) = 1
mounts_at e = 0

abbrev pub mounts_among : List Event → ℕ
mounts_among [] = 0
mounts_among (e ∷ es) = mounts_at e + mounts_among es

-- A run of the world from its beginning with so many mounts, in which answers are collected between events, and what went
-- over the device in it.
pub data HasTransfers : (mounts : ℕ) → List Transfer → World → Type 0 where
  nothing : HasTransfers 0 [] first_world
  next : (mounts : ℕ) (before : List Transfer) (mid : World) → HasTransfers mounts before mid → (e : Event) (o : Outcome)
      (after : World) → Happens mid e o after → (log : List Transfer) → AreTransfersAt mid e after log
      → HasTransfers (mounts + mounts_at e) (before ++ log) after
  collects : (mounts : ℕ) (log : List Transfer) (w : World) → HasTransfers mounts log w → (call : ℕ)
      → HasTransfers mounts log (answer_collected w call)
