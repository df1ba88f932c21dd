-- Groups of faults that a frame shows by itself, whatever went before it.
use Rattle.std.proofs.Common.{◌≡◌, ◌≤◌, ℕ, ◌+◌, Bool, true, false, List, [], ◌∷◌, ◌++◌, take, drop, length, Some, None, nat_eq, nat_le, refl, sym, ◌∙◌, ap, subst, arith, length-drop, length-take, if◌then◌else◌}
use Rattle.std.proofs.lemmas.Bool.{false≢true}
use Rattle.std.proofs.lemmas.Bool.Decides.{nat_tests}
use Rattle.byteorder.specs.Numbers.{little_from-take}
use Rattle.fk_fields.specs.Fields.{number_at}
use Rattle.fuse_device.specs.Transfers.{Transfer}
use Rattle.fuse_protocol.specs.declared.agreed.Agreed.{Agreed}
use Rattle.fuse_protocol.specs.declared.opcode.Opcode.{Opcode}
use Rattle.fuse_protocol.specs.declared.opcode.Opcode.TheVariants as op
use Rattle.fuse_protocol.specs.Pairs.{pairs_of_row}
use Rattle.fuse_protocol.specs.Places.{number_in, places_at}
use Rattle.fuse_protocol.specs.Requests.{RequestMessage}
use Rattle.fuse_protocol.specs.Table.{row_at}
use Rattle.fuse_sessions.specs.declared.act.Act.{Act}
use Rattle.fuse_sessions.specs.declared.act.Act.TheVariants as act
use Rattle.fuse_sessions.specs.declared.fault.Fault.{Fault}
use Rattle.fuse_sessions.specs.declared.fault.Fault.TheVariants as fault
use Rattle.fuse_sessions.specs.Faults.{Breaks, BreaksNumber}
use Rattle.fuse_sessions.specs.Frames.{IsRequestOf}
use Rattle.fuse_sessions.specs.RequestActs.{asked_of, forgets_in, number_of}
use Rattle.fuse_sessions.specs.Sessions.{Session}
use Rattle.fuse_sessions.specs.UnreadRequests.{unique_in}
use Rattle.driven_sessions.specs.Driven.{IsFreeOf, NeverAccused}
use Rattle.driven_sessions.specs.Groups.{is_of_interrupt_numbers}
use Rattle.driven_sessions.specs.Transfers.{AllSent}
use Rattle.driven_sessions.proofs.Calm.{is_of_numbers, shown_calm}
use Rattle.driven_sessions.proofs.Doing.{Does, comes_again, forgets_many, forgets_one, interrupts, nothing, reads, request_does}
use Rattle.driven_sessions.proofs.Leading.{AreFree, HasSeveral, calm_free, free_append}
use Rattle.driven_sessions.proofs.Sending.{IsInterruptRight, run_right}
use Rattle.driven_sessions.proofs.Sessions.{such_free}

-- ---- what the struct of a request says

first_number : (bytes : List ℕ) → number_at 0 8 (take 8 (drop 40 bytes)) ≡ number_at 40 8 bytes
unfolding number_at
first_number bytes = little_from-take 0 8 8 (drop 40 bytes) (omega arith)

-- The first eight bytes behind the header are a number.
pub struct_number : (bytes fixed : List ℕ) → 48 ≤ length bytes → take 8 (drop 40 bytes) ≡ fixed
    → number_of (number_in (places_at op.Interrupt).interrupted fixed) ≡ number_at 40 8 bytes
struct_number bytes fixed long same = by (nat_le 8 (length fixed)) whole
  where
    whole : nat_le 8 (length fixed) ≡ true
    whole =
        let count : length (take 8 (drop 40 bytes)) ≡ length fixed = ap (λ (l : List ℕ). length l) same in
        let taken = length-take 8 (drop 40 bytes) in
        let dropped = length-drop 40 bytes in
        grind (arith, nat_tests, count, taken, dropped, long)

    by : (b : Bool) → b ≡ true → number_of (if b then Some (number_at 0 8 fixed) else None) ≡ number_at 40 8 bytes
    by true e = ap (number_at 0 8) (sym same) ∙ first_number bytes
    by false e = absurd (false≢true e)

pub interrupted_at : (agreed : Agreed) (bytes : List ℕ) (m : RequestMessage) → IsRequestOf agreed bytes (op.Interrupt, m)
    → number_of (number_in (places_at op.Interrupt).interrupted m.fixed) ≡ number_at 40 8 bytes
interrupted_at agreed bytes m is =
    let whole = is.whole in struct_number bytes m.fixed (omega (arith, whole)) is.fixed

-- ---- a group that needs no more than the frame

-- Each frame that is such shows none of the group, where several threads read.
abbrev pub ShowsNoneAmong : (group : Fault → Bool) → (List ℕ → Type 0) → Type 0
ShowsNoneAmong group IsSuch = (agreed : Agreed) (frame : List ℕ) (s : Session) (acts : List Act) → HasSeveral s
    → IsSuch frame → Does agreed frame acts → AreFree group s acts

-- Wherever it is read.
abbrev pub ShowsNoneBy : (group : Fault → Bool) → (List ℕ → Type 0) → Type 0
ShowsNoneBy group IsSuch = (agreed : Agreed) (frame : List ℕ) (s : Session) (acts : List Act) → IsSuch frame
    → Does agreed frame acts → AreFree group s acts

module _ (group : Fault → Bool) (within : (f : Fault) → group f ≡ true → is_of_numbers f ≡ true)
    (IsSuch : List ℕ → Type 0) where
  pub among_free : ShowsNoneAmong group IsSuch → (log : List Transfer) → AllSent IsSuch log → IsFreeOf group log
  among_free shows = such_free group (λ s acts are. calm_free group within s acts (shown_calm acts are)) IsSuch
      (λ k frame s acts several such does. shows k.agreed frame s acts several such (request_does k frame acts does))

  pub single_free : ShowsNoneBy group IsSuch → (log : List Transfer) → AllSent IsSuch log → IsFreeOf group log
  single_free shows = among_free (λ agreed frame s acts several. shows agreed frame s acts)

-- ---- INTERRUPTs

interrupts_within : (f : Fault) → is_of_interrupt_numbers f ≡ true → is_of_numbers f ≡ true
interrupts_within fault.InterruptUnderAnotherNumber is = refl
interrupts_within f is = absurd (false≢true is)

reading_apart : (s : Session) (u : ℕ) (f : Fault) → BreaksNumber s u f → is_of_interrupt_numbers f ≡ true → ⊥
reading_apart s u fault.OddNumber b is = false≢true is
reading_apart s u fault.NumberUsedTwice b is = false≢true is
reading_apart s u fault.NumberOutOfOrder b is = false≢true is
reading_apart s u f b is = b

forgets_apart : (s : Session) (pairs : List (ℕ × ℕ)) → AreFree is_of_interrupt_numbers s (forgets_in pairs)
forgets_apart s [] = tt
forgets_apart s (p ∷ pairs) = (λ f b is. one f b is, forgets_apart (s ++ act.Forgets p.0 p.1 ∷ []) pairs)
  where
    one : (f : Fault) → Breaks s (act.Forgets p.0 p.1) f → is_of_interrupt_numbers f ≡ true → ⊥
    one fault.ForgetOfTheRoot b is = cc
    one fault.ForgetOfNoLookup b is = cc
    one fault.ForgetOfMoreThanIsCounted b is = cc
    one fault.ForgetOfANodeInUse b is = cc
    one f b is = b

again_apart : (s : Session) (u o : ℕ) (f : Fault) → Breaks s (act.Resent u o) f → is_of_interrupt_numbers f ≡ true → ⊥
again_apart s u o fault.ResendOfNothing b is = cc
again_apart s u o f b is = b

right_free : (s : Session) (u o : ℕ) → u ≡ o + 1 → (f : Fault) → Breaks s (act.Interrupts u o) f
    → is_of_interrupt_numbers f ≡ true → ⊥
right_free s u o right fault.InterruptUnderAnotherNumber b is = b right
right_free s u o right fault.InterruptOfNothing b is = cc
right_free s u o right fault.InterruptTooOften b is = cc
right_free s u o right f b is = b

abbrev pub front : Opcode → List Act
front o = act.Arrives ∷ act.Begins o ∷ []

abbrev group : Fault → Bool
group = is_of_interrupt_numbers

front_free : (s : Session) (o : Opcode) (more : List Act) → AreFree is_of_interrupt_numbers (s ++ front o) more
    → AreFree is_of_interrupt_numbers s (front o ++ more)
front_free s o more free = free_append is_of_interrupt_numbers s (front o) more
    (calm_free is_of_interrupt_numbers interrupts_within s (front o) refl) free

interrupts_shown : ShowsNoneBy is_of_interrupt_numbers IsInterruptRight
interrupts_shown agreed frame s acts right (reads other before after calm calm_after o same) =
    subst (AreFree is_of_interrupt_numbers s) (sym same)
    (free_append is_of_interrupt_numbers s before (act.Read o (unique_in frame) ∷ after)
    (calm_free is_of_interrupt_numbers interrupts_within s before calm) (
      reading_apart (s ++ before) (unique_in frame),
      calm_free is_of_interrupt_numbers interrupts_within (s ++ before ++ act.Read o (unique_in frame) ∷ []) after calm_after,
    ))
interrupts_shown agreed frame s acts right (forgets_one m is same) =
    let pairs : List (ℕ × ℕ) = (m.nodeid, number_of (number_in (places_at op.Forget).forgotten m.fixed)) ∷ [] in
    let read : Act = act.Read (Some op.Forget) (unique_in frame) in
    subst (AreFree is_of_interrupt_numbers s) (sym same) (front_free s op.Forget (read ∷ forgets_in pairs)
    (reading_apart (s ++ front op.Forget) (unique_in frame), forgets_apart (s ++ front op.Forget ++ read ∷ []) pairs))
interrupts_shown agreed frame s acts right (forgets_many m is same) =
    let pairs : List (ℕ × ℕ) = pairs_of_row (row_at op.BatchForget).tail m.tail in
    let read : Act = act.Read (Some op.BatchForget) (unique_in frame) in
    subst (AreFree is_of_interrupt_numbers s) (sym same) (front_free s op.BatchForget (read ∷ forgets_in pairs)
    (reading_apart (s ++ front op.BatchForget) (unique_in frame), forgets_apart (s ++ front op.BatchForget ++ read ∷ []) pairs))
interrupts_shown agreed frame s acts right (interrupts m is same) =
    let original : ℕ = number_of (number_in (places_at op.Interrupt).interrupted m.fixed) in
    let unique : unique_in frame ≡ original + 1 =
    right (ap (λ (n : ℕ). nat_eq n 36) is.opcode) ∙ ap (λ (n : ℕ). n + 1) (sym (interrupted_at agreed frame m is)) in
    subst (AreFree is_of_interrupt_numbers s) (sym same)
    (front_free s op.Interrupt (act.Interrupts (unique_in frame) original ∷ [])
    (right_free (s ++ front op.Interrupt) (unique_in frame) original unique, tt))
interrupts_shown agreed frame s acts right (comes_again high other o m same) =
    subst (AreFree is_of_interrupt_numbers s) (sym same)
    (front_free s o (act.Resent m.unique _ ∷ act.Asks m.unique (asked_of o m) ∷ [])
    (again_apart (s ++ front o) m.unique _, ((λ f b is. b), tt)))
interrupts_shown agreed frame s acts right (nothing calm) = calm_free is_of_interrupt_numbers interrupts_within s acts calm

pub interrupt_numbers_never : NeverAccused is_of_interrupt_numbers
interrupt_numbers_never asks log new run =
    single_free is_of_interrupt_numbers interrupts_within IsInterruptRight interrupts_shown log (run_right asks log new run)
