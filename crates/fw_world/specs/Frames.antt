-- The frame that an event puts on a link, and what its outcome says of it.
use Rattle.std.specs.Prelude.{◌≡◌, ℕ, ◌-◌, List, [], ◌∷◌, Option, Some, None, length, slice_get}
use Rattle.fuse_spec.specs.Kernel.Messages.{Request}
use Rattle.fuse_spec.specs.World.Events.{Event}
use Rattle.fuse_spec.specs.World.Steps.{Happens}
use Rattle.fuse_spec.specs.World.Worlds.{World, Sent}
use Rattle.fuse_spec.specs.declared.Taken.TheVariants.{Again}
use Rattle.fk_wire.specs.declared.opcode.Opcode.{Opcode}
use Rattle.fuse_frames.specs.RequestTies.{IsRequestFrame, asked_opcode}
use Rattle.fuse_frames.specs.ReplyTies.{IsReplyFrame}
use Rattle.fw_world.specs.declared.event.Outcome.{Outcome}
use Rattle.fw_world.specs.declared.event.Outcome.TheVariants as outcome
use Rattle.fw_world.specs.declared.record.Record.{Record}
use Rattle.fw_world.specs.declared.record.Record.TheVariants as recorded
use Rattle.fw_world.specs.Values.{outcome_of}

-- The bytes are the one frame in which this copy of a reply is written.
pub record IsCopyFrame (bytes : List ℕ) (sent : Sent) : Type 0 where
  pub opcode : Opcode
  pub written : IsReplyFrame opcode bytes (record { unique = sent.unique; wire = sent.wire })

-- The last request on its link has this unique and this opcode, and its frame is this many bytes long.
pub record ShowsRequest (w : World) (unique : ℕ) (opcode : Opcode) (len : ℕ) : Type 0 where
  pub request : Request
  pub last : slice_get w.requests (length w.requests - 1) ≡ Some request
  pub under : unique ≡ request.unique
  pub asks : opcode ≡ asked_opcode request.body
  pub bytes : List ℕ
  pub frame : IsRequestFrame bytes request
  pub long : len ≡ length bytes

-- The last copy on its link is one of a reply to this request, and its frame is this many bytes long.
pub record ShowsReply (w : World) (unique len : ℕ) : Type 0 where
  pub sent : Sent
  pub last : slice_get w.replies (length w.replies - 1) ≡ Some sent
  pub under : unique ≡ sent.unique
  pub bytes : List ℕ
  pub frame : IsCopyFrame bytes sent
  pub long : len ≡ length bytes

-- What an outcome says of the frame that its event put on a link is so.
abbrev pub IsShown : World → Outcome → Type 0
IsShown w (outcome.Read unique opcode len) = ShowsRequest w unique opcode len
IsShown w (outcome.Done unique errno len) = ShowsReply w unique len
IsShown w (outcome.SentAgain unique len) = ShowsReply w unique len
IsShown w other = Unit {0}

-- The frame that an event with this outcome put, while it is the last on its link: the request that was read, or the
-- copy that was sent. Other events put none.
abbrev pub IsFrameOf : World → Outcome → Option (List ℕ) → Type 0
IsFrameOf w (outcome.Read unique opcode len) (Some bytes) =
    (request : Request) × (slice_get w.requests (length w.requests - 1) ≡ Some request) × IsRequestFrame bytes request
IsFrameOf w (outcome.Read unique opcode len) None = w.requests ≡ []
IsFrameOf w (outcome.Taken unique Again) (Some bytes) =
    (sent : Sent) × (slice_get w.replies (length w.replies - 1) ≡ Some sent) × IsCopyFrame bytes sent
IsFrameOf w (outcome.Taken unique Again) None = w.replies ≡ []
IsFrameOf w (outcome.Done unique errno len) (Some bytes) =
    (sent : Sent) × (slice_get w.replies (length w.replies - 1) ≡ Some sent) × IsCopyFrame bytes sent
IsFrameOf w (outcome.Done unique errno len) None = w.replies ≡ []
IsFrameOf w (outcome.SentAgain unique len) (Some bytes) =
    (sent : Sent) × (slice_get w.replies (length w.replies - 1) ≡ Some sent) × IsCopyFrame bytes sent
IsFrameOf w (outcome.SentAgain unique len) None = w.replies ≡ []
IsFrameOf w other frame = frame ≡ None

-- The frame that the last step put, by its outcome; none after a refused one.
abbrev pub IsLastPut : World → Option Outcome → Option (List ℕ) → Type 0
IsLastPut w (Some last) frame = IsFrameOf w last frame
IsLastPut w None frame = frame ≡ None

-- The event leads from this world to one in which what its outcome says of its frame is so.
abbrev pub IsShownAfter : World → Event → Outcome → Type 0
IsShownAfter old event o = (new : World) × Happens old event (outcome_of o) new × IsShown new o

-- The same of the records of an event, of which the first is its outcome or its refusal.
abbrev pub AreShownAfter : {A : Type 0} → World → Event → List (Record A) → Type 0
AreShownAfter old event (recorded.Outcome o ∷ others) = IsShownAfter old event o
AreShownAfter old event records = Unit {0}
