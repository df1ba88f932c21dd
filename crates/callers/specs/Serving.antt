-- What a virtual machine host does with a frame of its guest.
use Rattle.std.specs.Prelude.{◌≡◌, ◌⊎◌, ◌<◌, ℕ, ◌+◌, List, ◌++◌, length, Option, Some, None}
use Rattle.fk_wire.specs.declared.opcode.Opcode.{Opcode}
use Rattle.fuse_spec.specs.Values.Maps.{get}
use Rattle.fuse_spec.specs.Kernel.Messages.{Request, WireReply}
use Rattle.fuse_spec.specs.Server.Copies.{settled}
use Rattle.fuse_spec.specs.Server.Server.{Server, Copy}
use Rattle.fuse_spec.specs.Server.Taking.{taking}
use Rattle.fuse_spec.specs.World.Worlds.{Sent}
use Rattle.fuse_spec.specs.declared.Refusal.{Refusal}
use Rattle.fuse_spec.specs.declared.Refusal.TheVariants.{NoMemory}
use Rattle.fuse_spec.specs.declared.Taken.TheVariants.{Held}
use Rattle.fuse_spec.specs.declared.WriteResult.{WriteResult}
use Rattle.fuse_spec.specs.declared.WriteResult.TheVariants.{Accepted, Invalid}
use Rattle.fuse_frames.specs.ReplyTies.{SaysReply}
use Rattle.fuse_frames.specs.RequestTies.{SaysRequest}
use Rattle.fs_server.specs.Effects.{CanTake, PerformsHeld, RefusesFrame, RefusesHeld, TakingNeedsMemory}
use Rattle.fs_server.specs.Steps.{CanPerform}
use Rattle.fs_server.specs.declared.server.ServerFault.TheVariants.{Memory}
use Rattle.callers.specs.declared.virtual_machine.Served.{Served as Came}
use Rattle.callers.specs.declared.virtual_machine.Served.TheVariants.{Replied, NoReply, NoRoom, Waits, Refused}

-- the server once it took a request
abbrev pub after_taking : Server → Request → Server
after_taking old request = (taking old request.unique request.body).server

-- What a request asks is held until it is performed.
abbrev pub IsHeld : Server → Request → Type 0
IsHeld old request = (taking old request.unique request.body).word ≡ Held

-- What the server sends of a request, and what it is then: a copy of a reply at once, to an INTERRUPT; nothing, of what
-- is neither held nor answered; and of what is held the first copy of its reply, as it is performed.
pub data Sends (old : Server) (request : Request) : Option Sent → Server → Type 0 where
  at_once : (wire : WireReply) → (taking old request.unique request.body).reply ≡ Some wire
      → Sends old request (Some (record { number = old.next_copy; unique = request.unique; wire = wire }))
      (after_taking old request)
  nothing : (taking old request.unique request.body).reply ≡ None → (IsHeld old request → ⊥)
      → Sends old request None (after_taking old request)
  performed : IsHeld old request → (errno : ℕ) → (copy : Option Sent) → (new : Server)
      → PerformsHeld (after_taking old request) request.unique errno copy new → Sends old request copy new

-- A frame spells a request, and this is sent of it.
pub record ServesOne (old : Server) (frame : List ℕ) (copy : Option Sent) (new : Server) : Type 0 where
  pub request : Request
  pub says : SaysRequest frame request
  pub sends : Sends old request copy new

-- A frame spells a request that is held under this number, and cannot be performed now: for a counter at its end, or
-- else as out of memory.
pub record Holds (old : Server) (frame : List ℕ) (unique : ℕ) (new : Server) : Type 0 where
  pub request : Request
  pub says : SaysRequest frame request
  pub under : unique ≡ request.unique
  pub held : IsHeld old request
  pub after : new ≡ after_taking old request
  pub refusal : Refusal
  pub refused : RefusesHeld new unique refusal ⊎ ((refusal ≡ NoMemory) × CanPerform new unique)

-- The server once it is given the result of a copy: where no copy of this number waits for one nothing changes.
abbrev pub settled_if : Server → ℕ → WriteResult → Option Copy → Server
settled_if s number result None = s
settled_if s number result (Some copy) = settled s number copy result

abbrev pub once_settled : Server → Sent → WriteResult → Server
once_settled s copy result = settled_if s copy.number result (get s.copies copy.number)

-- the bytes of a copy spell its reply, under its number
abbrev pub SpellsCopy : Sent → List ℕ → Type 0
SpellsCopy copy bytes = (opcode : Opcode) × SaysReply opcode bytes copy.unique copy.wire

-- A copy of a reply is handed over to a buffer of this capacity: its bytes are appended, and it is accepted; or they
-- have no room, nothing is appended, and it is refused.
abbrev pub IsDelivered : Server → Sent → (capacity : ℕ) → List ℕ → Came → Server → List ℕ → Type 0
IsDelivered old copy capacity before Replied new after = (reply : List ℕ) × SpellsCopy copy reply
    × (after ≡ before ++ reply) × (new ≡ once_settled old copy Accepted)
IsDelivered old copy capacity before NoRoom new after = (reply : List ℕ) × SpellsCopy copy reply
    × (capacity < length before + length reply) × (after ≡ before) × (new ≡ once_settled old copy Invalid)
IsDelivered old copy capacity before came new after = ⊥

-- What became of a frame: a copy of a reply is handed over or has no room, none is sent, none can be sent now, or the
-- frame is refused.
abbrev pub IsFrameServed : Server → List ℕ → (capacity : ℕ) → List ℕ → Came → Server → List ℕ → Type 0
IsFrameServed old frame capacity before NoReply new after = (after ≡ before) × ServesOne old frame None new
IsFrameServed old frame capacity before (Waits unique) new after = (after ≡ before) × Holds old frame unique new
IsFrameServed old frame capacity before (Refused fault) new after = (after ≡ before) × (new ≡ old)
    × RefusesFrame old frame fault × (fault ≡ Memory → CanTake old frame × TakingNeedsMemory old frame)
IsFrameServed old frame capacity before came new after = (copy : Sent) × (sent : Server) × ServesOne old frame (Some copy) sent
    × IsDelivered sent copy capacity before came new after
