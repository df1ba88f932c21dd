-- What becomes of a reply, put together from its cases.
use Rattle.std.proofs.Common.{◌≡◌, ◌≢◌, ℕ, ◌-◌, ◌%◌, Bool, true, false, true≢false, cond, List, Option, Some, None, nat_eq, refl, ap, sym, subst, ◌∙◌, inl, inr}
use Rattle.std.specs.Prelude.{is_some}
use Rattle.std.proofs.lemmas.Bool.Decides.{eqb_tells}
use Rattle.fk_wire.specs.declared.opcode.Opcode.{Opcode}
use Rattle.fk_wire.specs.declared.opcode.Opcode.TheVariants as op
use Rattle.fuse_spec.specs.declared.Purpose.{Purpose}
use Rattle.fuse_spec.specs.declared.WriteResult.{WriteResult}
use Rattle.fuse_spec.specs.declared.WriteResult.TheVariants.{Accepted}
use Rattle.fuse_spec.specs.Kernel.Kernel.{Kernel}
use Rattle.fuse_spec.specs.Kernel.Messages.{WireReply}
use Rattle.fuse_spec.specs.Kernel.QueueCalls.{waiting}
use Rattle.fuse_spec.specs.Kernel.Replies.{reply_written, request_reply_written, interrupt_reply_written, interrupt_replied, is_empty_reply}
use Rattle.fuse_frames.specs.declared.reply.Reply.TheVariants as said
use Rattle.fuse_frames.specs.ReplyDecoding.{LentReply, decoded_wire_of}
use Rattle.fk_kernel.specs.AwaitedReplies.{Says, IsNoReply, Awaited, nothing, reply_to, awaited, awaited_by, awaited_by_interrupt, wrong_body, wrong_body_to, IsJudged, IsReplyWritten}

abbrev pub opcode_in : Awaited → Opcode
opcode_in (reply_to o) = o
opcode_in awaits = op.Init

-- What awaits a reply under a unique, and what becomes of one under an odd unique.
module _ (k : Kernel) (unique : ℕ) where
  module _ (odd : nat_eq (unique % 2) 1 ≡ true) where
    pub awaited_odd : awaited k unique ≡ awaited_by_interrupt (waiting k.queues (unique - 1))
    awaited_odd = ap (λ (b : Bool). cond b (awaited_by_interrupt (waiting k.queues (unique - 1)))
        (awaited_by k (waiting k.queues unique))) odd

    pub written_odd : (wire : WireReply) (purpose : Purpose) → waiting k.queues (unique - 1) ≡ Some purpose
        → reply_written k unique wire ≡ interrupt_replied k (unique - 1) wire
    written_odd wire purpose waits =
        ap (λ (b : Bool). cond b (interrupt_reply_written k unique wire (waiting k.queues (unique - 1)))
        (request_reply_written k unique wire (waiting k.queues unique))) odd
        ∙ ap (interrupt_reply_written k unique wire) waits

  module _ (even : nat_eq (unique % 2) 1 ≡ false) (w : Option Purpose) (waits : waiting k.queues unique ≡ w) where
    pub awaited_even : awaited k unique ≡ awaited_by k w
    awaited_even =
        ap (λ (b : Bool). cond b (awaited_by_interrupt (waiting k.queues (unique - 1)))
        (awaited_by k (waiting k.queues unique))) even ∙ ap (awaited_by k) waits

module _ (k : Kernel) (unique : ℕ) (bytes : List ℕ) (result : WriteResult) (after : Kernel) where
  pub taken_none : IsReplyWritten k unique bytes nothing result after
  taken_none = record {
    kinds = tt;
    said = λ o is e. cc;
    unsaid = λ o is e. cc;
  }

  pub taken_judged : (o : Opcode) → IsJudged o → ((wire : WireReply) → Says o bytes wire
      → reply_written k unique wire ≡ (result, after))
      → (IsNoReply o bytes → reply_written k unique (wrong_body_to o) ≡ (result, after))
      → IsReplyWritten k unique bytes (reply_to o) result after
  taken_judged o is say none = record {
    kinds = is;
    said = λ other its e wire says. say wire (subst (λ (p : Opcode). Says p bytes wire) (sym (ap opcode_in e)) says);
    unsaid = λ other its e nothing. ap (λ (p : Opcode). reply_written k unique (wrong_body_to p))
        (sym (ap opcode_in e)) ∙ none (subst (λ (p : Opcode). IsNoReply p bytes) (sym (ap opcode_in e)) nothing);
  }

  -- a reply under an odd unique
  module _ (odd : nat_eq (unique % 2) 1 ≡ true) where
    module _ (original : ℕ) (before : original ≡ unique - 1)
        (said : is_some (waiting k.queues original) ≡ true → (wire : WireReply) → Says op.Interrupt bytes wire
        → interrupt_replied k original wire ≡ (result, after))
        (unsaid : is_some (waiting k.queues original) ≡ true → IsNoReply op.Interrupt bytes
        → interrupt_replied k original wrong_body ≡ (result, after)) where
      by_purpose : (w : Option Purpose) → waiting k.queues (unique - 1) ≡ w
          → IsReplyWritten k unique bytes (awaited_by_interrupt w) result after
      by_purpose None waits = taken_none
      by_purpose (Some purpose) waits =
          let there : is_some (waiting k.queues original) ≡ true =
          ap (λ (n : ℕ). is_some (waiting k.queues n)) before ∙ ap is_some waits in
          taken_judged op.Interrupt tt (λ wire says. written_odd k unique odd wire purpose waits ∙ ap
          (λ (n : ℕ). interrupt_replied k n wire) (sym before) ∙ said there wire says)
          (λ none. written_odd k unique odd wrong_body purpose waits ∙ ap
          (λ (n : ℕ). interrupt_replied k n wrong_body) (sym before) ∙ unsaid there none)

      pub taken_odd : IsReplyWritten k unique bytes (awaited k unique) result after
      taken_odd = subst (λ (a : Awaited). IsReplyWritten k unique bytes a result after)
          (sym (awaited_odd k unique odd)) (by_purpose (waiting k.queues (unique - 1)) refl)

  -- a reply under an even unique
  module _ (even : nat_eq (unique % 2) 1 ≡ false) (w : Option Purpose) (waits : waiting k.queues unique ≡ w) where
    pub taken_even : IsReplyWritten k unique bytes (awaited_by k w) result after
        → IsReplyWritten k unique bytes (awaited k unique) result after
    taken_even cases = subst (λ (a : Awaited). IsReplyWritten k unique bytes a result after)
        (sym (awaited_even k unique even w waits)) cases

pub odd_test : (u v : ℕ) → u ≡ v → u % 2 ≡ 1 → nat_eq (v % 2) 1 ≡ true
odd_test u v same odd = subst (λ (n : ℕ). nat_eq (n % 2) 1 ≡ true) same
    (elim (eqb_tells (u % 2) 1) [ inl h ↦ h.0 | inr h ↦ absurd (h.1 odd) ])

pub even_test : (u v : ℕ) → u ≡ v → u % 2 ≢ 1 → nat_eq (v % 2) 1 ≡ false
even_test u v same even = subst (λ (n : ℕ). nat_eq (n % 2) 1 ≡ false) same
    (elim (eqb_tells (u % 2) 1) [ inl h ↦ absurd (even h.1) | inr h ↦ h.0 ])

-- A reply to an INTERRUPT that is no error is accepted, and changes nothing.
pub interrupt_done : (k : Kernel) (original : ℕ) (s : LentReply) → is_empty_reply (decoded_wire_of s) ≡ true
    → ((errno : ℕ) → s ≡ said.Failed errno → ⊥) → interrupt_replied k original (decoded_wire_of s) ≡ (Accepted, k)
interrupt_done k original (said.Failed errno) is other = absurd (other errno refl)
interrupt_done k original said.Done is other = refl
interrupt_done k original s is other = absurd (true≢false (sym is))
