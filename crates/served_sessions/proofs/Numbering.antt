-- A server replies to requests that wait, where its kernel keeps the rules of INTERRUPTs.
use Rattle.std.proofs.Common.{◌≡◌, ◌≢◌, ◌⊎◌, inl, inr, ℕ, ◌+◌, ◌-◌, ◌%◌, ◌==◌, Bool, true, false, List, [], ◌∷◌, ◌++◌, Option, Some, None, refl, sym, ◌∙◌, ap, subst, append_assoc, nat_eq, arith, rules}
use Rattle.std.specs.Prelude.{sum_by}
use Rattle.std.specs.List.{list_any}
use Rattle.std.specs.Map.{lookup}
use Rattle.std.proofs.lemmas.Bool.{true≢false, false≢true}
use Rattle.fuse_protocol.specs.declared.opcode.Opcode.TheVariants as op
use Rattle.fuse_sessions.specs.declared.act.Act.{Act}
use Rattle.fuse_sessions.specs.declared.act.Act.TheVariants as act
use Rattle.fuse_sessions.specs.declared.act.Asked.{Asked}
use Rattle.fuse_sessions.specs.declared.act.Taken.{Taken}
use Rattle.fuse_sessions.specs.declared.fault.Fault.{Fault}
use Rattle.fuse_sessions.specs.declared.fault.Fault.TheVariants as fault
use Rattle.fuse_sessions.specs.declared.known.Known.{Known}
use Rattle.fuse_sessions.specs.Sessions.{Session, since}
use Rattle.fuse_sessions.specs.Waiting.{waiting, waits}
use Rattle.fuse_sessions.specs.Numbers.{asks_under, reads, was_read, has_several_threads, interrupts, interrupts_of}
use Rattle.fuse_sessions.specs.Faults.{BreaksReply, BreaksReplyToInterrupt, BreaksInterrupt}
use Rattle.fuse_sessions.specs.Frames.{number_in, error_in, eagain, is_to_interrupt, of_version, of_offered, AreRequestActs, IsOffered}
use Rattle.fuse_sessions.specs.UnreadRequests.{opcode_in, unique_in, takes_no_reply}
use Rattle.fuse_sessions.proofs.ReplyLaws.{all_kept}
use Rattle.fuse_sessions.proofs.Laws.{since-more, sum-more, waiting-more}
use Rattle.joined_sessions.proofs.Behind.{asked_if_waits}
use Rattle.served_sessions.specs.Exchanges.{IsAnswer}
use Rattle.served_sessions.specs.Groups.{is_of_numbers, is_of_interrupts}
use Rattle.served_sessions.proofs.Acts.{is_of_frames}
use Rattle.served_sessions.proofs.Answering.{is_head, plain_init, reply_faults, waits_for}
use Rattle.served_sessions.proofs.Free.{free_append, AreFree}
use Rattle.served_sessions.proofs.Heads.{flags_free, version_free}
use Rattle.served_sessions.proofs.Kept.{Kept, any_before, threads_alike}
use Rattle.served_sessions.proofs.Requested.{interrupt_does}
use Rattle.served_sessions.proofs.Replied.{reply_read}
use Rattle.served_sessions.proofs.Told.{no_answer, told_free}
use Rattle.served_sessions.proofs.Written.{Keeps}

pub numbers_within : (f : Fault) → is_of_numbers f ≡ true → is_of_frames f ≡ true
numbers_within fault.ReplyToNothing is = refl
numbers_within fault.SecondReply is = refl
numbers_within fault.ReplyToForget is = refl
numbers_within fault.ReplyToNoInterrupt is = refl
numbers_within f is = cc

code_36 : (code : ℕ) → takes_no_reply code ≡ true → code ≢ 2 → code ≢ 42 → code ≢ 41 → code ≡ 36
code_36 code is not2 not42 not41 = grind (arith, rules)

some_asked_none : (a : Asked) → ◌≡◌ {A = Option Asked} (Some a) None → ⊥
some_asked_none a e = cc

waits_past_arriving : (s : Session) (u : ℕ) → waits (s ++ act.Arrives ∷ []) u ≡ waits s u
waits_past_arriving s u = ap (lookup (nat_eq u)) (waiting-more s act.Arrives ∙ all_kept (waiting s))

waits_past_beginning : (s : Session) (u : ℕ) → waits (s ++ act.Begins op.Interrupt ∷ []) u ≡ waits s u
waits_past_beginning s u = ap (lookup (nat_eq u)) (waiting-more s (act.Begins op.Interrupt) ∙ all_kept (waiting s))

is_it : (n : ℕ) → nat_eq n n ≡ true
is_it n = grind (arith, rules)

-- An INTERRUPT of a request counts.
interrupted : (s : Session) (unique original : ℕ) → interrupts (s ++ act.Interrupts unique original ∷ []) original ≢ 0
interrupted s unique original none =
    let one : interrupts (s ++ act.Interrupts unique original ∷ []) original
    ≡ sum_by (interrupts_of original) (since (asks_under original) s) + interrupts_of original (act.Interrupts unique original)
    = ap (sum_by (interrupts_of original)) (since-more (asks_under original) s (act.Interrupts unique original))
    ∙ sum-more (interrupts_of original) (since (asks_under original) s) (act.Interrupts unique original) in
    let counts : interrupts_of original (act.Interrupts unique original) ≡ 1 = rw (is_it original) refl in
    let all : sum_by (interrupts_of original) (since (asks_under original) s) + 1 ≡ 0 =
    ap (λ (n : ℕ). sum_by (interrupts_of original) (since (asks_under original) s) + n) (sym counts) ∙ sym one ∙ none in
    omega (arith, all)

-- What a kernel that keeps the rules asks by an INTERRUPT.
record Interrupting (s : Session) (unique original : ℕ) : Type 0 where
  above : unique ≡ original + 1
  even : original % 2 ≡ 0
  read : was_read s original ≡ true

module _ (k later : Known) (s : Session) (request reply : List ℕ) (t : Taken) (acts : List Act)
    (kept : Kept (is_of_interrupts fault.OddNumber) k s) (such : opcode_in request ≢ 41) (answers : IsAnswer request reply)
    (does : AreRequestActs k request acts) (offers : IsOffered k request later) (free : AreFree is_of_interrupts s acts) where
  module _ (original : ℕ)
      (are : acts ≡ act.Arrives ∷ act.Begins op.Interrupt ∷ act.Interrupts (unique_in request) original ∷ []) where
    begun : Session
    begun = s ++ act.Arrives ∷ [] ++ act.Begins op.Interrupt ∷ []

    keeps_rule : (f : Fault) → BreaksInterrupt (s ++ act.Arrives ∷ [] ++ act.Begins op.Interrupt ∷ []) (unique_in request) original f
        → is_of_interrupts f ≡ true → ⊥
    keeps_rule = (subst (AreFree is_of_interrupts s) are free).1.1.0

    above : unique_in request ≡ original + 1
    above = by_test (nat_eq (unique_in request) (original + 1)) refl
      where
        by_test : (b : Bool) → nat_eq (unique_in request) (original + 1) ≡ b → unique_in request ≡ original + 1
        by_test true e = grind (arith, rules)
        by_test false e = absurd (keeps_rule fault.InterruptUnderAnotherNumber (λ same. absurd_test e same) refl)
          where
            absurd_test : nat_eq (unique_in request) (original + 1) ≡ false → unique_in request ≡ original + 1 → ⊥
            absurd_test e same = grind (arith, rules)

    alone : has_several_threads (s ++ act.Arrives ∷ [] ++ act.Begins op.Interrupt ∷ []) ≡ false
    alone = threads_alike (s ++ act.Arrives ∷ []) (act.Begins op.Interrupt ∷ []) refl refl
        ∙ threads_alike s (act.Arrives ∷ []) refl refl ∙ kept.alone

    waits_alike : waits (s ++ act.Arrives ∷ [] ++ act.Begins op.Interrupt ∷ []) original ≡ waits s original
    waits_alike = waits_past_beginning (s ++ act.Arrives ∷ []) original ∙ waits_past_arriving s original

    asked_before : list_any (asks_under original) s ≡ true
    asked_before = asked_if_waits s original
        (λ none. keeps_rule fault.InterruptOfNothing (above, alone, waits_alike ∙ none) refl)

    interrupting : Interrupting s (unique_in request) original
    interrupting = record {
      above = above;
      even = kept.even refl original asked_before;
      read = kept.read original asked_before;
    }

    -- and now it is interrupted
    counted : interrupts (s ++ acts) original ≢ 0
    counted none = interrupted (s ++ act.Arrives ∷ [] ++ act.Begins op.Interrupt ∷ []) (unique_in request) original
        (ap (λ (l : Session). interrupts l original) parts ∙ none)
      where
        last : List Act
        last = act.Interrupts (unique_in request) original ∷ []

        parts : s ++ act.Arrives ∷ [] ++ act.Begins op.Interrupt ∷ [] ++ act.Interrupts (unique_in request) original ∷ []
            ≡ s ++ acts
        parts = append_assoc (s ++ act.Arrives ∷ []) (act.Begins op.Interrupt ∷ []) (act.Interrupts (unique_in request) original ∷ [])
            ∙ append_assoc s (act.Arrives ∷ []) (act.Begins op.Interrupt ∷ act.Interrupts (unique_in request) original ∷ [])
            ∙ ap (λ (l : List Act). s ++ l) (sym are)

  -- the request is an INTERRUPT, or it waits
  Cases : Type 0
  Cases = ((original : ℕ)
      × (acts ≡ act.Arrives ∷ act.Begins op.Interrupt ∷ act.Interrupts (unique_in request) original ∷ []))
      ⊎ ((a : Asked) × (waits (s ++ acts) (number_in reply) ≡ Some a))

  cases : ((original : ℕ)
      × (acts ≡ act.Arrives ∷ act.Begins op.Interrupt ∷ act.Interrupts (unique_in request) original ∷ []))
      ⊎ ((a : Asked) × (waits (s ++ acts) (number_in reply) ≡ Some a))
  cases = by_test (takes_no_reply (opcode_in request)) refl
    where
      by_test : (b : Bool) → takes_no_reply (opcode_in request) ≡ b → ((original : ℕ)
          × (acts ≡ act.Arrives ∷ act.Begins op.Interrupt ∷ act.Interrupts (unique_in request) original ∷ []))
          ⊎ ((a : Asked) × (waits (s ++ acts) (number_in reply) ≡ Some a))
      by_test true none =
          let is36 : opcode_in request ≡ 36 =
          code_36 (opcode_in request) none answers.no_forget.0 answers.no_forget.1 such in
          inl (interrupt_does k request acts kept.not_resent kept.extensions answers.header is36 (answers.interrupt is36)
          does)
      by_test false wanted =
          let w = waits_for is_of_interrupts k later s request reply t acts kept answers does offers free wanted in
          inr (w.0.asked, w.1)

  odd_above : (n original : ℕ) → n ≡ original + 1 → original % 2 ≡ 0 → (n % 2 == 1) ≡ true
  odd_above n original above even = grind (arith, rules, above, even)

  reply_keeps : is_to_interrupt (number_in reply) (waits (s ++ acts) (number_in reply)) ≡ false → (before : Session)
      → waits before (number_in reply) ≡ waits (s ++ acts) (number_in reply) → (f : Fault)
      → BreaksReply before (number_in reply) f → ⊥
  reply_keeps other before same f b = by_case cases
    where
      none : waits (s ++ acts) (number_in reply) ≡ None
      none = sym same ∙ (reply_faults before (number_in reply) f b).1

      by_case : ((original : ℕ)
          × (acts ≡ act.Arrives ∷ act.Begins op.Interrupt ∷ act.Interrupts (unique_in request) original ∷ []))
          ⊎ ((a : Asked) × (waits (s ++ acts) (number_in reply) ≡ Some a)) → ⊥
      by_case (inl (original, are)) =
          let i = interrupting original are in
          let odd : (number_in reply % 2 == 1) ≡ true =
          odd_above (number_in reply) original (answers.number ∙ i.above) i.even in
          let even : (number_in reply % 2 == 1) ≡ false =
          ap (is_to_interrupt (number_in reply)) (sym none) ∙ other in
          true≢false (sym odd ∙ even)
      by_case (inr (a, now)) = some_asked_none a (sym now ∙ none)

  below : (n original : ℕ) → n ≡ original + 1 → n - 1 ≡ original
  below n original above = omega (arith, above)

  interrupt_keeps : is_to_interrupt (number_in reply) (waits (s ++ acts) (number_in reply)) ≡ true → (f : Fault)
      → BreaksReplyToInterrupt (s ++ acts) (number_in reply - 1) (error_in reply == eagain) t f
      → is_of_numbers f ≡ true → ⊥
  interrupt_keeps is f b of = by_case cases
    where
      of_original : (original : ℕ) → was_read (s ++ acts) original ≡ true → interrupts (s ++ acts) original ≢ 0 → (f : Fault)
          → BreaksReplyToInterrupt (s ++ acts) original (error_in reply == eagain) t f → is_of_numbers f ≡ true → ⊥
      of_original original read now fault.ReplyToNothing b of = true≢false (sym read ∙ b.1)
      of_original original read now fault.ReplyToNoInterrupt b of = now b.3
      of_original original read now fault.AgainTooOften b of = false≢true of
      of_original original read now f b of = b

      by_case : ((original : ℕ)
          × (acts ≡ act.Arrives ∷ act.Begins op.Interrupt ∷ act.Interrupts (unique_in request) original ∷ []))
          ⊎ ((a : Asked) × (waits (s ++ acts) (number_in reply) ≡ Some a)) → ⊥
      by_case (inl (original, are)) =
          let i = interrupting original are in
          let same : number_in reply - 1 ≡ original = below (number_in reply) original (answers.number ∙ i.above) in
          of_original original (any_before (reads original) s acts i.read) (counted original are) f
          (subst (λ (n : ℕ). BreaksReplyToInterrupt (s ++ acts) n (error_in reply == eagain) t f) same b) of
      by_case (inr (a, now)) = false≢true (ap (is_to_interrupt (number_in reply)) (sym now) ∙ is)

  pub numbers_keep : Keeps is_of_numbers later (s ++ acts) reply t
  numbers_keep = record {
    head = is_head request reply answers;
    no_notice = λ zero is. false≢true is;
    replies = λ some other before same f b is. reply_keeps other before same f b;
    interrupts = λ some is f b of. interrupt_keeps is f b of;
    agrees = λ a o m waits by is r i offered says before.
        free_append is_of_numbers before (of_version i) (of_offered r i)
        (version_free is_of_numbers (λ e. false≢true e) before i)
        (flags_free is_of_numbers (λ e. false≢true e) (before ++ of_version i) r i);
    tells = λ a o m waits by is i says.
        plain_init is_of_interrupts k later s request reply t acts kept answers does offers free a o m waits by is i says;
    fits = λ a o waits by. reply_read is_of_interrupts k later s request reply t acts kept answers does offers free a o waits by;
    says = λ a o m waits by is before. told_free is_of_numbers numbers_within
        (no_answer is_of_numbers numbers_within refl refl refl refl refl) before o a m.answer;
  }
