-- Which refusal a read of forgets, or of a pending request, gets.
use Rattle.std.proofs.Common.{◌≡◌, ℕ, ◌+◌, ◌-◌, ◌/◌, ◌<◌, ◌≤◌, ◌^◌, Bool, true, false, List, [], ◌∷◌, Option, Some, None, length, slice_get, nat_eq, refl, ap, sym, ◌∙◌, true≢false, arith}
use Rattle.std.specs.Prelude.{if◌then◌else◌, cond, nat_lt, is_some}
use Rattle.std.proofs.lemmas.Bool.Decides.{nat_tests}
use Rattle.fuse_spec.specs.Kernel.Kernel.{Kernel, is_live, forgets_read, asked_by, body_of}
use Rattle.fuse_spec.specs.Kernel.Uniques.{numbers_left_from}
use Rattle.fuse_spec.specs.Kernel.QueueCalls.{can_read_forgets, pending_at}
use Rattle.fuse_spec.specs.declared.Opened.{Opened}
use Rattle.fuse_spec.specs.declared.Purpose.{Purpose}
use Rattle.fuse_spec.specs.declared.Purpose.TheVariants.{Init, Release, Call}
use Rattle.fuse_spec.specs.Calls.Vfs.{CallState}
use Rattle.fuse_spec.specs.Values.Maps.{get}
use Rattle.fuse_spec.specs.declared.Refusal.TheVariants.{InterruptFirst, NoSuch, Exhausted}
use Rattle.fk_kernel.specs.Refused.{read_forgets_refusal, read_refusal}
use Rattle.fk_kernel.specs.Soundness.{ServesCalls}
use Rattle.fk_kernel.proofs.Phases.{none_past_end}
use Rattle.fk_kernel.proofs.Served.{pending_unanswered}

has_none : (xs : List ℕ) → is_some (slice_get xs 0) ≡ false → nat_eq (length xs) 0 ≡ true
has_none [] none = refl
has_none (x ∷ xs) none = cc

has_some : (xs : List ℕ) → is_some (slice_get xs 0) ≡ true → nat_eq (length xs) 0 ≡ false
has_some [] some = cc
has_some (x ∷ xs) some = grind (arith, nat_tests)

chosen : {X : Type 0} (b : Bool) (x y : X) → (if b then Some x else None) ≡ Some y → b ≡ true
chosen true x y is = refl
chosen {X = X} false x y is =
    let no : ◌≡◌ {A = Option X} None (Some y) = is in
    cc

-- what is chosen last, where nothing else may be chosen
chosen_last : {X : Type 0} (b : Bool) (x : Option X) (y : X) → cond b None x ≡ Some y → x ≡ Some y
chosen_last false x y is = is
chosen_last {X = X} true x y is =
    let no : ◌≡◌ {A = Option X} None (Some y) = is in
    cc

past : (next : ℕ) → (2 ^ 62 - next) / 2 ≡ 0 → nat_lt (2 ^ 62) (next + 2) ≡ true
past next none = grind (arith, nat_tests)

below : (next : ℕ) → 0 < (2 ^ 62 - next) / 2 → next + 2 ≤ 2 ^ 62
below next some = omega arith

module _ (k : Kernel) (count : ℕ) (live : is_live k.phase ≡ true) where
  pub interrupts_first : is_some (slice_get k.queues.interrupts 0) ≡ true
      → read_forgets_refusal k count ≡ Some InterruptFirst
  interrupts_first some = rw (live, has_some k.queues.interrupts some) refl

  module _ (none : is_some (slice_get k.queues.interrupts 0) ≡ false) where
    pub no_forgets : forgets_read k count ≡ None → read_forgets_refusal k count ≡ Some NoSuch
    no_forgets nothing = rw (live, has_none k.queues.interrupts none, nothing) refl

    module _ (read : ℕ × List (ℕ × ℕ)) (first : forgets_read k count ≡ Some read) where
      can_read : can_read_forgets k.queues count ≡ true
      can_read = chosen (can_read_forgets k.queues count) _ read (chosen_last _ _ read first)

      pub no_number_left : numbers_left_from k.queues.next ≡ 0 → read_forgets_refusal k count ≡ Some Exhausted
      no_number_left left = rw (live, has_none k.queues.interrupts none, first, can_read, past k.queues.next left) refl

      pub read_unrefused : 0 < numbers_left_from k.queues.next → k.vfs.next_call ≤ 2 ^ 62
          → read_forgets_refusal k count ≡ None
      read_unrefused left low = rw (
        live,
        has_none k.queues.interrupts none,
        first,
        can_read,
        none_past_end (k.queues.next + 2) k.vfs.next_call (below k.queues.next left) low,
      ) refl

-- a body that is there is one
some_body : {X : Type 0} (o : Option X) → is_some o ≡ true → (x : X) × (o ≡ Some x)
some_body None there = absurd (true≢false (sym there))
some_body (Some x) there = (x, refl)

-- a pending request has something to ask
pub pending_asks : (k : Kernel) → ServesCalls k.vfs.calls k.queues → (place : ℕ) (request : ℕ × Purpose)
    → pending_at k.queues place ≡ Some request → is_some (body_of k request.1) ≡ true
pending_asks k served place request is = by request.1 refl
  where
    asked : (o : Option (CallState Opened)) → is_some o ≡ true → is_some (asked_by o) ≡ true
    asked None there = there
    asked (Some state) there = refl

    by : (kept : Purpose) → request.1 ≡ kept → is_some (body_of k kept) ≡ true
    by Init same = refl
    by (Release opened) same = refl
    by (Call call) same = asked (get k.vfs.calls call) (pending_unanswered served place request.0 call
        (is ∙ ap (λ (kept : Purpose). Some (request.0, kept)) same))

module _ (k : Kernel) (place : ℕ) (live : is_live k.phase ≡ true) where
  pub interrupt_pending : is_some (slice_get k.queues.interrupts 0) ≡ true → read_refusal k place ≡ Some InterruptFirst
  interrupt_pending some = rw (live, has_some k.queues.interrupts some) refl

  module _ (none : is_some (slice_get k.queues.interrupts 0) ≡ false) where
    pub none_pending : pending_at k.queues place ≡ None → read_refusal k place ≡ Some NoSuch
    none_pending nothing = rw (live, has_none k.queues.interrupts none, nothing) refl

    module _ (request : ℕ × Purpose) (is : pending_at k.queues place ≡ Some request) where
      pub pending_unrefused : is_some (body_of k request.1) ≡ true → read_refusal k place ≡ None
      pending_unrefused asks =
          let body = some_body (body_of k request.1) asks in
          rw (live, has_none k.queues.interrupts none, is, body.1) refl
