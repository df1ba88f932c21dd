-- What bytes can say to a request of an opcode.
use Rattle.std.proofs.Common.{◌≡◌, ℕ, zero, suc, ◌+◌, true, List, Some, refl, sym, ap, ◌∙◌, subst, arith}
use Rattle.std.specs.Prelude.{ℤ, pos, negsuc, ◌≤ℤ◌}
use Rattle.std.proofs.lemmas.Int.{ints}
use Rattle.fk_wire.specs.declared.opcode.Opcode.{Opcode}
use Rattle.fk_wire.specs.declared.opcode.Opcode.TheVariants as op
use Rattle.fk_wire.specs.Opcodes.{latest_minor}
use Rattle.fk_wire.specs.Replies.{ReplyContent, empty_reply, init_reply, reply_kind, kind_of_content, IsErrorNumber, GoesWith}
use Rattle.fuse_spec.specs.Kernel.Messages.{WireReply}
use Rattle.fuse_spec.specs.Files.Operations as reply
use Rattle.fuse_spec.specs.Kernel.Replies.{is_empty_reply, is_init_reply}
use Rattle.fuse_frames.specs.ReplyTies.{wire_said, wire_body}
use Rattle.fuse_frames.specs.DecodedReplies.{Says}

above_zero : (n : ℕ) → pos (suc n) ≤ℤ pos 0 → ⊥
above_zero n h = omega (arith, ints)

module _ (o : Opcode) (P : WireReply → Type 0) (failed : (errno : ℕ) → P (reply.failed errno))
    (other : (content : ReplyContent) → reply_kind latest_minor o ≡ Some (kind_of_content content)
    → P (wire_body content)) where
  -- an error alone, or a body of the kind that goes with the opcode
  by_error : (unique : ℕ) (z : ℤ) (content : ReplyContent) → IsErrorNumber z
      → GoesWith latest_minor o (record { unique = unique; error = z; content = content }) → P (wire_said z content)
  by_error unique (negsuc n) content range goes = failed (n + 1)
  by_error unique (pos zero) content range goes = other content (goes.1 ∙ ap Some (sym goes.2))
  by_error unique (pos (suc n)) content range goes = absurd (above_zero n range.0)

  of_opcode : (bytes : List ℕ) (wire : WireReply) → Says o bytes wire → P wire
  of_opcode bytes wire s =
      let m = s.says.message in
      subst P s.says.says (by_error m.unique m.error m.content s.says.spells.1 s.says.spells.2)

empty_body : (o : Opcode) → reply_kind latest_minor o ≡ Some (kind_of_content empty_reply) → (content : ReplyContent)
    → reply_kind latest_minor o ≡ Some (kind_of_content content) → is_empty_reply (wire_body content) ≡ true
empty_body o empty empty_reply is = refl
empty_body o empty content is = cc

init_body : (content : ReplyContent) → reply_kind latest_minor op.Init ≡ Some (kind_of_content content)
    → is_init_reply (wire_body content) ≡ true
init_body (init_reply major minor flags) is = refl
init_body content is = cc

pub says_to_release : (bytes : List ℕ) (wire : WireReply) → Says op.Release bytes wire → is_empty_reply wire ≡ true
says_to_release = of_opcode op.Release (λ wire. is_empty_reply wire ≡ true) (λ errno. refl)
    (empty_body op.Release refl)

pub says_to_interrupt : (bytes : List ℕ) (wire : WireReply) → Says op.Interrupt bytes wire
    → is_empty_reply wire ≡ true
says_to_interrupt = of_opcode op.Interrupt (λ wire. is_empty_reply wire ≡ true) (λ errno. refl)
    (empty_body op.Interrupt refl)

pub says_to_init : (bytes : List ℕ) (wire : WireReply) → Says op.Init bytes wire → is_init_reply wire ≡ true
says_to_init = of_opcode op.Init (λ wire. is_init_reply wire ≡ true) (λ errno. refl) init_body
