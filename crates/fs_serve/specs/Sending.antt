-- What is sent: copies of replies, and error replies that are not the server's.
use Rattle.std.specs.Prelude.{◌≡◌, ◌⊎◌, ℕ, ℤ, List, [], ◌∷◌, Option, Some, None, Result, Ok, Err}
use Rattle.fuse_spec.specs.declared.Minor.{Minor}
use Rattle.fuse_spec.specs.declared.Refusal.{Refusal}
use Rattle.fuse_spec.specs.declared.WriteResult.{WriteResult}
use Rattle.fuse_spec.specs.Server.Server.{Server}
use Rattle.fuse_spec.specs.World.Worlds.{Sent}
use Rattle.fk_wire.specs.declared.opcode.Opcode.{Opcode}
use Rattle.fk_wire.specs.declared.opcode.Opcode.TheVariants.{Release}
use Rattle.fk_wire.specs.Replies.{WrittenReply, empty_reply}
use Rattle.fuse_frames.specs.ReplyTies.{Framed, IsReplyFrame, SaysReply, reply_content_of}
use Rattle.fs_server.specs.Effects.{Settles, HasNoCopy}
use Rattle.fs_server.specs.Faults.{IsFaultReply, IsAnswerable}
use Rattle.fs_server.specs.declared.server.ServerFault.{ServerFault}
use Rattle.fuse_device.specs.Transfers.{Transfer, sent, unsent, ended_in}
use Rattle.fuse_device.specs.declared.device.DeviceEnd.{DeviceEnd}
use Rattle.fs_serve.specs.Blocks.{with_blocks}

-- the end at which a call came to its end, if it did
abbrev pub end_of : {T : Type 0} → Result T DeviceEnd → Option DeviceEnd
end_of (Ok _) = None
end_of (Err end) = Some end

-- What went over a device from one of its states to another is such, and it came to this end, if any.
abbrev pub GoesOver : {D : Type 0} → (D → D → List Transfer → Type 0) → D → D → Option DeviceEnd
    → (List Transfer → Type 0) → Type 0
GoesOver logs old new end IsSuch = (log : List Transfer) × logs old new log × IsSuch log × (end ≡ ended_in log)

-- These bytes are sent, with some result, or the device ends at it.
pub data SendsBytes (bytes : List ℕ) : List Transfer → Type 0 where
  with_result : (result : WriteResult) → SendsBytes bytes (sent bytes result ∷ [])
  at_end : (end : DeviceEnd) → SendsBytes bytes (unsent bytes end ∷ [])

-- An error reply to the request under this unique is sent: the header alone.
pub record SendsError (unique : ℕ) (error : ℤ) (log : List Transfer) : Type 0 where
  pub bytes : List ℕ
  pub written : WrittenReply (record { unique = unique; error = error; content = empty_reply }) bytes
  pub sends : SendsBytes bytes log

-- The reply to a faulty frame is sent, or nothing where it has none.
pub data SendsFault (minor : Minor) (frame : List ℕ) (fault : ServerFault) : List Transfer → Type 0 where
  replied : (bytes : List ℕ) → IsFaultReply minor frame fault bytes → (log : List Transfer) → SendsBytes bytes log
      → SendsFault minor frame fault log
  unreplied : (IsAnswerable frame fault → ⊥) → SendsFault minor frame fault []

-- The server is given the result of a copy: it is settled where it is there, and else nothing changes.
abbrev pub IsSettled : Server → (number : ℕ) → WriteResult → Server → Type 0
IsSettled old number result new = Settles old number result new
    ⊎ ((refusal : Refusal) × HasNoCopy old number refusal × (new ≡ old))

-- The bytes are the one frame in which this reply to a request of this opcode is written, with the blocks of each file,
-- and they say it.
pub record IsFilledFrame (o : Opcode) (bytes : List ℕ) (framed : Framed) : Type 0 where
  pub written : List ℕ
  pub frame : IsReplyFrame o written framed
  pub filled : bytes ≡ with_blocks (reply_content_of framed.wire) written
  pub says : SaysReply o bytes framed.unique framed.wire

abbrev pub framed_of : Sent → Framed
framed_of copy = record { unique = copy.unique; wire = copy.wire }

-- A copy is of a reply to a request of this opcode: each frame of it is one of such a reply.
abbrev pub RepliesTo : Opcode → Sent → Type 0
RepliesTo opcode copy = (o : Opcode) (bytes : List ℕ) → IsReplyFrame o bytes (framed_of copy)
    → IsReplyFrame opcode bytes (framed_of copy)

-- A copy of a reply is sent, in the one frame in which it is written, with the blocks of each file, and the result
-- settles the copy. One at which the device came to its end is left unsettled.
pub data Delivers (copy : Sent) (old : Server) : List Transfer → Server → Type 0 where
  settled : (opcode : Opcode) (bytes : List ℕ) → IsFilledFrame opcode bytes (framed_of copy) → (result : WriteResult)
      → (new : Server) → IsSettled old copy.number result new
      → Delivers copy old (sent bytes result ∷ []) new
  unsettled : (opcode : Opcode) (bytes : List ℕ) → IsFilledFrame opcode bytes (framed_of copy) → (end : DeviceEnd)
      → Delivers copy old (unsent bytes end ∷ []) old

-- The copy of the reply to a RELEASE is sent in its one frame, if there is one.
abbrev pub RepliesToRelease : Option Sent → List Transfer → Type 0
RepliesToRelease None log = log ≡ []
RepliesToRelease (Some copy) log = (bytes : List ℕ) × IsFilledFrame Release bytes (framed_of copy) × SendsBytes bytes log
