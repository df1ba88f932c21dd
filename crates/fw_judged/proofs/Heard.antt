-- A reply of which nothing is heard is taken as accepted, or the server has a fault in it.
use Rattle.std.proofs.Common.{◌≡◌, inl, inr, ℕ, ◌-◌, ◌==◌, ◌≤◌, Bool, true, false, List, [], ◌∷◌, ◌++◌, Option, Some, None, length, append-nil, nat_le, nat_lt, slice_get, take, refl, sym, ◌∙◌, ap, subst, arith}
use Rattle.std.specs.Prelude.{MatchBool, MatchOption, if◌then◌else◌}
use Rattle.std.proofs.lemmas.Bool.Decides.{nat_tests}
use Rattle.fk_fields.specs.Fields.{number_at}
use Rattle.fuse_protocol.specs.declared.agreed.Unjudged.{Unjudged}
use Rattle.fuse_protocol.specs.declared.opcode.Opcode.{Opcode}
use Rattle.fuse_protocol.specs.declared.row.ReplyShape.{ReplyShape}
use Rattle.fuse_protocol.specs.declared.row.ReplyShape.TheVariants as reply
use Rattle.fuse_protocol.specs.Table.{row_at}
use Rattle.fuse_replies.specs.Replies.{HasSize}
use Rattle.fuse_sessions.specs.declared.act.Act.{Act}
use Rattle.fuse_sessions.specs.declared.act.Act.TheVariants as act
use Rattle.fuse_sessions.specs.declared.act.Asked.{Asked}
use Rattle.fuse_sessions.specs.declared.act.Fit.{Fit}
use Rattle.fuse_sessions.specs.declared.act.Fit.TheVariants as fit
use Rattle.fuse_sessions.specs.declared.act.Taken.{Taken}
use Rattle.fuse_sessions.specs.declared.act.Taken.TheVariants as taken
use Rattle.fuse_sessions.specs.declared.fault.Fault.{Fault}
use Rattle.fuse_sessions.specs.declared.fault.Fault.TheVariants as fault
use Rattle.fuse_sessions.specs.declared.fault.Party.TheVariants.{Server}
use Rattle.fuse_sessions.specs.declared.known.Known.{Known}
use Rattle.fuse_sessions.specs.Faults.{Breaks, HasFaultAt}
use Rattle.fuse_sessions.specs.Fits.{fit_in, fit_of}
use Rattle.fuse_sessions.specs.Frames.{IsNotified, IsReplyBy, IsReplyOf, IsReplyTo, IsWritten, eintr, error_in, interrupt_acts, is_resend, is_to_interrupt, number_in, replied, said_acts}
use Rattle.fuse_sessions.specs.Parties.{party_of}
use Rattle.fuse_sessions.specs.Sessions.{Session}
use Rattle.fuse_sessions.specs.Waiting.{waits}
use Rattle.fuse_sessions.proofs.ReplyLaws.{unawaited_reply, waits_past_taking}
use Rattle.fw_judged.specs.Accepted.{AcceptedWhereServed}
use Rattle.fw_judged.specs.Judged.{Seen}
use Rattle.fw_judged.specs.Sides.{reading, taking, taking_by}

-- ---- a body that is right fits

abbrev does_fit : Fit → Type 0
does_fit fit.FitsNot = ⊥
does_fit f = Unit {0}

of_true : (b : Bool) → b ≡ true → does_fit (if b then fit.Fits else fit.FitsNot)
of_true true is = tt
of_true false is = absurd (cc is)

may : (b : Bool) → does_fit (if b then fit.Fits else fit.MayFit)
may true = tt
may false = tt

size_fits : (shape : ReplyShape) (asked size : ℕ) → HasSize shape asked size → does_fit (fit_of shape asked size)
size_fits reply.None asked size is = tt
size_fits reply.Empty asked size is = of_true (size == 0) (grind (arith, nat_tests, is))
size_fits reply.Entry asked size is = of_true (size == 128) (grind (arith, nat_tests, is))
size_fits reply.Attributes asked size is = of_true (size == 104) (grind (arith, nat_tests, is))
size_fits reply.Open asked size is = of_true (size == 16) (grind (arith, nat_tests, is))
size_fits reply.EntryAndOpen asked size is = of_true (size == 144) (grind (arith, nat_tests, is))
size_fits (reply.Number width) asked size is = of_true (size == 8) (grind (arith, nat_tests, is))
size_fits (reply.Fixed count) asked size is = of_true (size == count) (grind (arith, nat_tests, is))
size_fits (reply.AtMost place) asked size is = of_true (nat_le size asked) (grind (arith, nat_tests, is))
size_fits (reply.Records place) asked size is = of_true (nat_le size asked) (grind (arith, nat_tests, is))
size_fits (reply.EntryRecords place) asked size is = of_true (nat_le size asked) (grind (arith, nat_tests, is))
size_fits (reply.Sized place) asked size is = by (asked == 0) is
  where
    by : (b : Bool) → MatchBool b (size ≡ 8) (size ≤ asked)
        → does_fit (if (if b then size == 8 else nat_le size asked) then fit.Fits else fit.FitsNot)
    by true is = of_true (size == 8) (grind (arith, nat_tests, is))
    by false is = of_true (nat_le size asked) (grind (arith, nat_tests, is))
size_fits reply.Target asked size is = may (nat_lt size 4096)
size_fits reply.Ioctl asked size is = by (nat_lt size 16) (grind (arith, nat_tests, is))
  where
    by : (b : Bool) → b ≡ false
        → does_fit (if b then fit.FitsNot else (if nat_le size 4112 then fit.Fits else fit.MayFit))
    by true e = absurd (cc e)
    by false e = may (nat_le size 4112)
size_fits reply.Init asked size (inl is) = of_true (nat_le size 64) (grind (arith, nat_tests, is))
size_fits reply.Init asked size (inr (inl is)) = of_true (nat_le size 64) (grind (arith, nat_tests, is))
size_fits reply.Init asked size (inr (inr is)) = of_true (nat_le size 64) (grind (arith, nat_tests, is))

body_fits : (shape : ReplyShape) (asked : ℕ) (bytes : List ℕ) (b : Bool)
    → MatchBool b (HasSize shape asked (length bytes - 16)) (length bytes ≡ 16)
    → does_fit (if b then fit_of shape asked (length bytes - 16) else (if length bytes == 16 then fit.Fits else fit.FitsNot))
body_fits shape asked bytes true is = size_fits shape asked (length bytes - 16) is
body_fits shape asked bytes false is = of_true (length bytes == 16) (grind (arith, nat_tests, is))

taking_fits : (a : Asked) (f : Fit) → does_fit f → taking (Some a) f ≡ taken.Accepted
taking_fits a fit.Fits is = refl
taking_fits a fit.MayFit is = refl
taking_fits a fit.FitsNot is = absurd is

-- what takes the reply decides
replied_taking : (x : Option Asked) (bytes : List ℕ) (f : Fit) (more : List Act)
    → taking_by x (replied bytes taken.Accepted f ++ more) ≡ taking x f
replied_taking x bytes f more = by (error_in bytes == eintr)
  where
    by : (b : Bool) → taking_by x (((if b then act.Interrupted (number_in bytes) ∷ [] else [])
        ++ act.Takes (number_in bytes) taken.Accepted f ∷ act.Replies (number_in bytes) taken.Accepted ∷ []) ++ more) ≡ taking x f
    by true = refl
    by false = refl

-- ---- a frame that is heard

module _ (s : Seen) (bytes : List ℕ) (t : Taken) (acts : List Act) (later : Known)
    (none : (place : ℕ) (f : Fault) → HasFaultAt s.acts acts place f → party_of f ≡ Server → ⊥) where
  first_faulty : (f : Fault) (rest : List Act) → party_of f ≡ Server → acts ≡ act.Faulty f ∷ rest → ⊥
  first_faulty f rest of same =
      none 0 f (record { act = act.Faulty f; stands = ap (λ (l : List Act). slice_get l 0) same; breaks = refl }) of

  -- A reply for which nothing waits is a fault of the server.
  nothing_waits : (u : ℕ) → waits s.acts u ≡ None
      → acts ≡ act.Takes u taken.NoEntry fit.MayFit ∷ act.Replies u taken.NoEntry ∷ [] → ⊥
  nothing_waits u free same =
      unawaited_reply before u taken.NoEntry (waits_past_taking s.acts u u taken.NoEntry fit.MayFit ∙ free) at
    where
      before : Session
      before = s.acts ++ act.Takes u taken.NoEntry fit.MayFit ∷ []

      at : (f : Fault) → Breaks before (act.Replies u taken.NoEntry) f → party_of f ≡ Server → ⊥
      at f breaks = none 1 f (record {
        act = act.Replies u taken.NoEntry;
        stands = ap (λ (l : List Act). slice_get l 1) same;
        breaks = subst (λ (l : List Act). Breaks (s.acts ++ l) (act.Replies u taken.NoEntry) f) (sym (ap (take 1) same)) breaks;
      })

  module _ (heard : List Act) (next : Known) where
    notified : (x : Option Asked) → IsNotified (reading s.known) bytes taken.Accepted heard next → t ≡ taking_by x heard
        → t ≡ taken.Accepted
    notified x (inl (m, is, does)) took = took ∙ ap (taking_by x) does.0 ∙ by (is_resend bytes taken.Accepted)
      where
        by : (b : Bool) → taking_by x (if b then act.Resends ∷ [] else []) ≡ taken.Accepted
        by true = refl
        by false = refl
    notified x (inr (never, does)) took = took ∙ ap (taking_by x) does.0

    of_opcode : (o : Opcode) (a : Asked) → IsReplyOf (reading s.known) bytes taken.Accepted o a heard next
        → IsReplyOf s.known bytes t o a acts later → t ≡ taking_by (Some a) heard → t ≡ taken.Accepted
    of_opcode o a (inl (m, is, does)) said took =
        took ∙ ap (taking_by (Some a)) does.0
        ∙ replied_taking (Some a) bytes (fit_in (row_at o).reply a.asked bytes) (said_acts (reading s.known) o a taken.Accepted m.answer)
        ∙ taking_fits a (fit_in (row_at o).reply a.asked bytes)
        (body_fits (row_at o).reply a.asked bytes (number_at 4 4 bytes == 0) is.body)
    of_opcode o a (inr (never, does)) (inl (m, is, said)) took = absurd (never m is)
    of_opcode o a (inr (never, does)) (inr (none_said, said)) took =
        absurd (first_faulty fault.BodyOfAnotherRequest _ refl said.0)

    by_opcode : (o : Option Opcode) (a : Asked) → IsReplyBy (reading s.known) bytes taken.Accepted o a heard next
        → IsReplyBy s.known bytes t o a acts later → t ≡ taking_by (Some a) heard → t ≡ taken.Accepted
    by_opcode None a does said took = took ∙ ap (taking_by (Some a)) (does.0 ∙ sym (append-nil (replied bytes taken.Accepted fit.MayFit)))
        ∙ replied_taking (Some a) bytes fit.MayFit []
    by_opcode (Some o) a does said took = of_opcode o a does said took

    to : (x : Option Asked) → waits s.acts (number_in bytes) ≡ x → IsReplyTo (reading s.known) bytes taken.Accepted x heard next
        → IsReplyTo s.known bytes t x acts later → t ≡ taking_by x heard → t ≡ taken.Accepted
    to None free does said took =
        let refused : t ≡ taken.NoEntry = took ∙ ap (taking_by None) (does.0 ∙ sym (append-nil (replied bytes taken.Accepted fit.MayFit)))
        ∙ replied_taking None bytes fit.MayFit [] in
        absurd (nothing_waits (number_in bytes) free (said.0 ∙ ap (λ (y : Taken). replied bytes y fit.MayFit) refused))
    to (Some a) waited does said took = by_opcode a.opcode a does said took

    headed : (z i : Bool) (x : Option Asked) → waits s.acts (number_in bytes) ≡ x
        → MatchBool z (IsNotified (reading s.known) bytes taken.Accepted heard next)
        (MatchBool i ((heard ≡ interrupt_acts bytes taken.Accepted) × (next ≡ reading s.known))
        (IsReplyTo (reading s.known) bytes taken.Accepted x heard next))
        → MatchBool z (IsNotified s.known bytes t acts later)
        (MatchBool i ((acts ≡ interrupt_acts bytes t) × (later ≡ s.known)) (IsReplyTo s.known bytes t x acts later))
        → t ≡ taking_by x heard → t ≡ taken.Accepted
    headed true i x waited does said took = notified x does took
    headed false true x waited does said took = took ∙ ap (taking_by x) does.0
    headed false false x waited does said took = to x waited does said took

    heard_so : (number : ℕ) → (16 ≤ length bytes → number ≡ number_in bytes)
        → IsWritten (reading s.known) s.acts bytes taken.Accepted heard next → IsWritten s.known s.acts bytes t acts later
        → t ≡ taking_by (waits s.acts number) heard → t ≡ taken.Accepted
    heard_so number is (inl (head, does)) (inl (whole, said)) took =
        headed (number_in bytes == 0) (is_to_interrupt (number_in bytes) (waits s.acts (number_in bytes)))
        (waits s.acts (number_in bytes)) refl does said
        (took ∙ ap (λ (n : ℕ). taking_by (waits s.acts n) heard) (is head.0.0))
    heard_so number is (inl (head, does)) (inr (bad, said, same)) took = absurd (bad head)
    heard_so number is (inr (bad, does, same)) (inl (whole, said)) took = absurd (bad whole)
    heard_so number is (inr (bad, does, same)) (inr (worse, said, kept)) took =
        absurd (first_faulty fault.MalformedReply [] refl said)

    by_judged : (number : ℕ) → (16 ≤ length bytes → number ≡ number_in bytes) → (o : Option Unjudged)
        → MatchOption o (IsWritten (reading s.known) s.acts bytes taken.Accepted heard next)
        (λ why. (heard ≡ []) × (next ≡ reading s.known))
        → MatchOption o (IsWritten s.known s.acts bytes t acts later) (λ why. (acts ≡ []) × (later ≡ s.known))
        → t ≡ taking_by (waits s.acts number) heard → t ≡ taken.Accepted
    by_judged number is None does said took = heard_so number is does said took
    by_judged number is (Some why) does said took = took ∙ ap (taking_by (waits s.acts number)) does.0

pub accepted_where_served : AcceptedWhereServed
accepted_where_served s b t (number, heard, next, is, does, took) acts later are none =
    by_judged s b.now t acts later none heard next number is s.known.unjudged does are took
