-- No request of a run has an odd number, but INTERRUPTs.
use Rattle.std.proofs.Common.{◌≡◌, ℕ, ◌%◌, true, false, List, [], ◌∷◌, ◌++◌, Option, Some, None, nat_eq, option_map, slice_get, refl, sym, ◌∙◌, ap, subst, arith}
use Rattle.std.proofs.lemmas.Bool.{false≢true}
use Rattle.fuse_spec.specs.declared.Purpose.{Purpose}
use Rattle.fuse_spec.specs.Kernel.Kernel.{Kernel}
use Rattle.fuse_spec.specs.Kernel.Messages.{Request}
use Rattle.fuse_spec.specs.Kernel.Queues.{is_unread, pending}
use Rattle.fuse_frames.specs.RequestTies.{SaysRequest}
use Rattle.fk_kernel.specs.Picks.{IsPicked}
use Rattle.fk_kernel.specs.declared.read.Pick.{Pick}
use Rattle.fk_kernel.specs.declared.read.Pick.TheVariants.{Interrupt, Forgets, Pending}
use Rattle.fuse_protocol.specs.declared.opcode.Opcode.{Opcode}
use Rattle.fuse_protocol.specs.declared.opcode.Opcode.TheVariants as op
use Rattle.fuse_protocol.specs.Pairs.{pairs_of_row}
use Rattle.fuse_protocol.specs.Places.{number_in, places_at}
use Rattle.fuse_protocol.specs.Table.{row_at}
use Rattle.fuse_sessions.specs.declared.act.Act.{Act}
use Rattle.fuse_sessions.specs.declared.act.Act.TheVariants as act
use Rattle.fuse_sessions.specs.declared.fault.Fault.{Fault}
use Rattle.fuse_sessions.specs.declared.fault.Fault.TheVariants as fault
use Rattle.fuse_sessions.specs.Faults.{Breaks, BreaksNumber}
use Rattle.fuse_sessions.specs.RequestActs.{asked_of, forgets_in, number_of}
use Rattle.fuse_sessions.specs.Sessions.{Session}
use Rattle.fuse_sessions.specs.UnreadRequests.{opcode_in, unique_in}
use Rattle.driven_sessions.specs.Driven.{NeverAccused}
use Rattle.driven_sessions.specs.Groups.{is_of_odd_numbers}
use Rattle.driven_sessions.proofs.Calm.{is_of_numbers}
use Rattle.driven_sessions.proofs.Doing.{comes_again, forgets_many, forgets_one, interrupts, nothing, reads}
use Rattle.driven_sessions.proofs.Evens.{Evens, run_evens}
use Rattle.driven_sessions.proofs.Frames.{frame_interrupt, frame_unique, is_interrupt, own_head}
use Rattle.driven_sessions.proofs.Leading.{AreFree, calm_free, free_append}
use Rattle.driven_sessions.proofs.Never.{not_interrupt}
use Rattle.driven_sessions.proofs.Numbers.{Entry, each_at}
use Rattle.driven_sessions.proofs.Sending.{run_sends}
use Rattle.driven_sessions.proofs.Single.{ShowsNoneBy, front, single_free}

-- It is no INTERRUPT, or even.
abbrev IsEvenFrame : List ℕ → Type 0
IsEvenFrame frame = nat_eq (opcode_in frame) 36 ≡ false → unique_in frame % 2 ≡ 0

abbrev IsEvenRequest : Request → Type 0
IsEvenRequest r = is_interrupt r.body ≡ false → r.unique % 2 ≡ 0

picked_even : (k : Kernel) (pick : Pick) (r : Request) → Evens k.queues → IsPicked k pick r
    → is_interrupt r.body ≡ false → r.unique % 2 ≡ 0
picked_even k Interrupt r evens is other =
    absurd (false≢true (sym other ∙ ap (λ (q : Request). is_interrupt q.body) is.is))
picked_even k (Forgets count) r evens is other = ap (λ (q : Request). q.unique % 2) is.is ∙ evens.next
picked_even k (Pending place) r evens is other = by (slice_get (pending k.queues) place) refl is.pending
  where
    first_of : Option (ℕ × Purpose) → ℕ
    first_of None = 0
    first_of (Some p) = p.0

    by : (o : Option Entry) → slice_get (pending k.queues) place ≡ o
        → option_map {U = ℕ × Purpose} (λ (e : Entry). (e.0, e.1.kept)) o ≡ Some (r.unique, is.purpose) → r.unique % 2 ≡ 0
    by None at found = absurd (cc found)
    by (Some e) at found =
        let known = each_at (λ (x : Entry). x.0 % 2 ≡ 0) (λ x. is_unread x.1.mark) k.queues.requests place e evens.requests at in
        ap (λ (n : ℕ). n % 2) (sym (ap first_of found)) ∙ known.1

even_sent : (frame : List ℕ) (r : Request) → (is_interrupt r.body ≡ false → r.unique % 2 ≡ 0) → SaysRequest frame r
    → IsEvenFrame frame
even_sent frame r even says none =
    ap (λ (n : ℕ). n % 2) (frame_unique frame r says) ∙ even (sym (frame_interrupt frame r says) ∙ none)

-- ---- the group

odd_within : (f : Fault) → is_of_odd_numbers f ≡ true → is_of_numbers f ≡ true
odd_within fault.OddNumber is = refl
odd_within f is = absurd (false≢true is)

even_free : (s : Session) (u : ℕ) → u % 2 ≡ 0 → (f : Fault) → BreaksNumber s u f → is_of_odd_numbers f ≡ true → ⊥
even_free s u even fault.OddNumber b is = omega (arith, even, b)
even_free s u even fault.NumberUsedTwice b is = false≢true is
even_free s u even fault.NumberOutOfOrder b is = false≢true is
even_free s u even f b is = b

interrupt_apart : (s : Session) (u o : ℕ) (f : Fault) → Breaks s (act.Interrupts u o) f → is_of_odd_numbers f ≡ true → ⊥
interrupt_apart s u o fault.InterruptUnderAnotherNumber b is = cc
interrupt_apart s u o fault.InterruptOfNothing b is = cc
interrupt_apart s u o fault.InterruptTooOften b is = cc
interrupt_apart s u o f b is = b

again_apart : (s : Session) (u o : ℕ) (f : Fault) → Breaks s (act.Resent u o) f → is_of_odd_numbers f ≡ true → ⊥
again_apart s u o fault.ResendOfNothing b is = cc
again_apart s u o f b is = b

forgets_apart : (s : Session) (pairs : List (ℕ × ℕ)) → AreFree is_of_odd_numbers s (forgets_in pairs)
forgets_apart s [] = tt
forgets_apart s (p ∷ pairs) = (λ f b is. one f b is, forgets_apart (s ++ act.Forgets p.0 p.1 ∷ []) pairs)
  where
    one : (f : Fault) → Breaks s (act.Forgets p.0 p.1) f → is_of_odd_numbers f ≡ true → ⊥
    one fault.ForgetOfTheRoot b is = cc
    one fault.ForgetOfNoLookup b is = cc
    one fault.ForgetOfMoreThanIsCounted b is = cc
    one fault.ForgetOfANodeInUse b is = cc
    one f b is = b

front_free : (s : Session) (o : Opcode) (more : List Act) → AreFree is_of_odd_numbers (s ++ front o) more
    → AreFree is_of_odd_numbers s (front o ++ more)
front_free s o more free = free_append is_of_odd_numbers s (front o) more
    (calm_free is_of_odd_numbers odd_within s (front o) refl) free

odd_shown : ShowsNoneBy is_of_odd_numbers IsEvenFrame
odd_shown agreed frame s acts even (reads other before after calm calm_after o same) =
    subst (AreFree is_of_odd_numbers s) (sym same)
    (free_append is_of_odd_numbers s before (act.Read o (unique_in frame) ∷ after)
    (calm_free is_of_odd_numbers odd_within s before calm) (
      even_free (s ++ before) (unique_in frame) (even (not_interrupt (opcode_in frame) other)),
      calm_free is_of_odd_numbers odd_within (s ++ before ++ act.Read o (unique_in frame) ∷ []) after calm_after,
    ))
odd_shown agreed frame s acts even (forgets_one m is same) =
    let pairs : List (ℕ × ℕ) = (m.nodeid, number_of (number_in (places_at op.Forget).forgotten m.fixed)) ∷ [] in
    let read : Act = act.Read (Some op.Forget) (unique_in frame) in
    subst (AreFree is_of_odd_numbers s) (sym same) (front_free s op.Forget (read ∷ forgets_in pairs) (
      even_free (s ++ front op.Forget) (unique_in frame) (even (ap (λ (n : ℕ). nat_eq n 36) is.opcode)),
      forgets_apart (s ++ front op.Forget ++ read ∷ []) pairs,
    ))
odd_shown agreed frame s acts even (forgets_many m is same) =
    let pairs : List (ℕ × ℕ) = pairs_of_row (row_at op.BatchForget).tail m.tail in
    let read : Act = act.Read (Some op.BatchForget) (unique_in frame) in
    subst (AreFree is_of_odd_numbers s) (sym same) (front_free s op.BatchForget (read ∷ forgets_in pairs) (
      even_free (s ++ front op.BatchForget) (unique_in frame) (even (ap (λ (n : ℕ). nat_eq n 36) is.opcode)),
      forgets_apart (s ++ front op.BatchForget ++ read ∷ []) pairs,
    ))
odd_shown agreed frame s acts even (interrupts m is same) =
    let original : ℕ = number_of (number_in (places_at op.Interrupt).interrupted m.fixed) in
    subst (AreFree is_of_odd_numbers s) (sym same)
    (front_free s op.Interrupt (act.Interrupts (unique_in frame) original ∷ [])
    (interrupt_apart (s ++ front op.Interrupt) (unique_in frame) original, tt))
odd_shown agreed frame s acts even (comes_again high other o m same) =
    subst (AreFree is_of_odd_numbers s) (sym same)
    (front_free s o (act.Resent m.unique _ ∷ act.Asks m.unique (asked_of o m) ∷ [])
    (again_apart (s ++ front o) m.unique _, ((λ f b is. b), tt)))
odd_shown agreed frame s acts even (nothing calm) = calm_free is_of_odd_numbers odd_within s acts calm

pub odd_numbers_never : NeverAccused is_of_odd_numbers
odd_numbers_never asks log new run = single_free is_of_odd_numbers odd_within IsEvenFrame odd_shown log
    (run_sends IsEvenRequest IsEvenFrame (λ k. Evens k.queues) picked_even even_sent
    (λ frame unique even low own none. let head = own_head frame unique low own in ap (λ (n : ℕ). n % 2) head.1 ∙ even) asks
    (run_evens asks) log new run).0
