-- A reply that was read says its body, or its error number alone.
use Rattle.std.proofs.Common.{◌≡◌, ℕ, List, Result, Err, refl, ap, sym, ◌∙◌}
use Rattle.std.specs.Prelude.{ℤ, IsOkAnd}
use Rattle.std.specs.Int.{w32, cast_unsigned, cast_signed}
use Rattle.std.proofs.lemmas.Int.{to_z-of_z}
use Rattle.fk_wire.proofs.OneReply.{error_fits, decoded_reply_is}
use Rattle.fk_wire.specs.declared.fault.WireFault.{WireFault}
use Rattle.fk_wire.specs.declared.opcode.Opcode.{Opcode}
use Rattle.fk_wire.specs.declared.reply.ReplyBody.{ReplyBody}
use Rattle.fk_wire.specs.declared.reply.ReplyHead.{ReplyHead}
use Rattle.fk_wire.specs.Replies.{ReplyMessage, reply_content, headed, SpellsReply, IsErrorNumber}
use Rattle.fuse_spec.specs.Kernel.Messages.{WireReply}
use Rattle.fuse_frames.specs.ReplyTies.{wire_said}
use Rattle.fuse_frames.specs.DecodedReplies.{Says, IsNoReply}

-- an error in range is read as itself
pub same_error : (z : ℤ) → IsErrorNumber z → cast_signed w32 (cast_unsigned w32 z) ≡ z
same_error z p = to_z-of_z w32 z (error_fits z p)

-- Where nothing was read nothing is said.
pub says_nothing : (o : Opcode) (bytes : List ℕ) (head : ReplyHead) (r : Result ReplyBody WireFault) (f : WireFault)
    → r ≡ Err f → ((t : ReplyMessage) → SpellsReply o bytes t → IsOkAnd r (λ body. headed head body ≡ t))
    → IsNoReply o bytes
says_nothing o bytes head r f e only wire h =
    let there : IsOkAnd r (λ body. headed head body ≡ h.says.message) = only h.says.message h.says.spells in
    rw e at there

-- What was read is said.
pub says_read : (o : Opcode) (bytes : List ℕ) (head : ReplyHead) (body : ReplyBody) (wire : WireReply)
    → SpellsReply o bytes (headed head body) → wire_said head.error (reply_content body) ≡ wire → Says o bytes wire
says_read o bytes head body wire spells e = record {
  unique = head.unique;
  says = record { message = headed head body; spells = spells; unique_is = refl; says = e };
}

-- One thing is said.
pub says_one : (o : Opcode) (bytes : List ℕ) (wire other : WireReply) → Says o bytes wire → Says o bytes other
    → wire ≡ other
says_one o bytes wire other a b =
    let same = sym (decoded_reply_is o bytes a.says.message a.says.spells) ∙ decoded_reply_is o bytes b.says.message b.says.spells in
    sym a.says.says ∙ ap (λ (m : ReplyMessage). wire_said m.error m.content) same ∙ b.says.says
