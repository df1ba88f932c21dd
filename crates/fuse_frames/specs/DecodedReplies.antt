-- What the bytes of a reply say.
use Rattle.std.specs.Prelude.{ℕ, List}
use Rattle.fk_wire.specs.declared.opcode.Opcode.{Opcode}
use Rattle.fk_wire.specs.Fields.{number_at}
use Rattle.fk_wire.specs.ReplyFaults.{HasReplyLength, HasError}
use Rattle.fuse_spec.specs.Kernel.Messages.{WireReply}
use Rattle.fuse_frames.specs.ReplyTies.{SaysReply}

-- The bytes have the head of a reply: they are as many as it says, and its error is in range.
abbrev pub HasReplyHead : List ℕ → Type 0
HasReplyHead bytes = HasReplyLength bytes × HasError bytes

-- the unique in that head
abbrev pub head_unique : List ℕ → ℕ
head_unique bytes = number_at 8 8 bytes

-- The bytes say this to a request of this opcode.
pub record Says (o : Opcode) (bytes : List ℕ) (wire : WireReply) : Type 0 where
  pub unique : ℕ
  pub says : SaysReply o bytes unique wire

-- They are no reply to a request of this opcode.
abbrev pub IsNoReply : Opcode → List ℕ → Type 0
IsNoReply o bytes = (wire : WireReply) → Says o bytes wire → ⊥
