-- What a server of one empty directory answers.
use Rattle.std.specs.Prelude.{◌≡◌, ◌≢◌, ℕ, ◌+◌, ℤ, pos, negsuc, List, ◌++◌, None}
use Rattle.fk_wire.specs.declared.entry.Attr.{Attr}
use Rattle.fk_wire.specs.declared.fault.WireFault.{WireFault}
use Rattle.fk_wire.specs.declared.fault.WireFault.TheVariants as faults
use Rattle.fk_wire.specs.Faults.{FaultIs}
use Rattle.fk_wire.specs.Fields.{sizes}
use Rattle.fk_wire.specs.Requests.{RequestContent, RequestMessage, Spells, getattr, init, opcode_of}
use Rattle.fk_wire.specs.Opcodes.{reply_kind_of}
use Rattle.fk_wire.specs.Replies.{ReplyContent, ReplyMessage, SpellsReply, attr_reply, empty_reply, init_reply, reply_body}

-- the attributes of the directory: inode 1, mode 040755, one name
abbrev pub root_attributes : Attr
root_attributes = record { ino = 1; size = 0; mode = 16877; nlink = 1 }

-- the error and the body to a request: INIT is agreed on as 7.31 with ASYNC_READ, GETATTR is served, and all else is
-- ENOSYS
abbrev pub answer_to : RequestContent → ℤ × ReplyContent
answer_to (init major minor flags) = (pos 0, init_reply 7 31 1)
answer_to getattr = (pos 0, attr_reply root_attributes)
answer_to content = (negsuc 37, empty_reply)

-- the reply to a request, under its number
abbrev pub reply_to : RequestMessage → ReplyMessage
reply_to request = record {
  unique = request.unique;
  error = (answer_to request.content).0;
  content = (answer_to request.content).1;
}

-- A frame spells a request, and what stands behind the old bytes answers it: a frame that spells the reply to it; or
-- nothing, to a request that has no reply.
pub data AnswersRequest (frame old new : List ℕ) : Type 0 where
  replied : (request : RequestMessage) → Spells frame request → (bytes : List ℕ)
      → SpellsReply (opcode_of request.content) bytes (reply_to request) → new ≡ old ++ bytes → AnswersRequest frame old new
  unreplied : (request : RequestMessage) → Spells frame request → reply_kind_of (opcode_of request.content) ≡ None
      → new ≡ old → AnswersRequest frame old new

-- how many bytes the frame of a reply has
abbrev pub reply_size : ReplyMessage → ℕ
reply_size reply = 16 + sizes (reply_body reply.content)

-- A frame spells a request that has a reply.
abbrev pub AsksReply : List ℕ → Type 0
AsksReply frame = (request : RequestMessage) × Spells frame request
    × (reply_kind_of (opcode_of request.content) ≢ None)

-- Why a frame is not answered: its first fault, or out of memory for the reply that it asks.
abbrev pub AnswerFaultIs : List ℕ → WireFault → Type 0
AnswerFaultIs frame faults.Memory = AsksReply frame
AnswerFaultIs frame fault = FaultIs frame fault
