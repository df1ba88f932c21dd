-- Under the coming number and under odd ones nothing is asked: forgets and INTERRUPTs that are read are no asks.
use Rattle.std.proofs.Common.{◌≡◌, ◌≢◌, ◌≤◌, ℕ, ◌+◌, ◌%◌, Bool, true, false, cond, List, [], ◌∷◌, Option, Some, None, nat_eq, count_by, refl, ap, ◌∙◌, arith}
use Rattle.std.specs.Map.{lookup}
use Rattle.fuse_spec.proofs.QueueCounts.{count_by-cons}
use Rattle.fuse_spec.specs.declared.Purpose.{Purpose}
use Rattle.fuse_spec.specs.declared.QueuedRequest.{QueuedRequest}
use Rattle.fuse_spec.specs.Values.Maps.{get}
use Rattle.fuse_spec.specs.Kernel.Messages.{Forget}
use Rattle.fuse_spec.specs.Kernel.Queues.{IsSound}
use Rattle.fuse_spec.specs.Kernel.Uniques.{interrupt_number}
use Rattle.fuse_spec.specs.Kernel.Kernel.{is_live, is_for}
use Rattle.fuse_spec.specs.World.Worlds.{World, world_after_read_interrupt, world_after_read_forgets}
use Rattle.fuse_spec.specs.Reference.Plain.{Plain, Ask}
use Rattle.fuse_spec.specs.Claim.Alike.{Alike}
use Rattle.fuse_theorem.proofs.Calls.Finding.{found_key}
use Rattle.fuse_theorem.proofs.Requests.DrawnNumbers.{number_even}
use Rattle.fuse_theorem.proofs.Refining.Reading.{read_interrupt_alike, read_forgets_alike}
use Rattle.fuse_theorem.proofs.Refining.Releasing.{next_unasked}

-- a key that is found is counted
found_counted : (u : ℕ) (es : List (ℕ × QueuedRequest Purpose)) → lookup (nat_eq u) es ≢ None
    → 1 ≤ count_by (λ (e : ℕ × QueuedRequest Purpose). nat_eq u e.0) es
found_counted u [] there = absurd (there refl)
found_counted u (e ∷ es) there = by (nat_eq u e.0) refl there (found_counted u es)
  where
    counted : count_by (λ (x : ℕ × QueuedRequest Purpose). nat_eq u x.0) (e ∷ es)
        ≡ cond (nat_eq u e.0) 1 0 + count_by (λ (x : ℕ × QueuedRequest Purpose). nat_eq u x.0) es
    counted = count_by-cons (λ (x : ℕ × QueuedRequest Purpose). nat_eq u x.0) e es

    by : (b : Bool) → nat_eq u e.0 ≡ b → cond b (Some e.1) (lookup (nat_eq u) es) ≢ None
        → (lookup (nat_eq u) es ≢ None → 1 ≤ count_by (λ (x : ℕ × QueuedRequest Purpose). nat_eq u x.0) es)
        → 1 ≤ count_by (λ (x : ℕ × QueuedRequest Purpose). nat_eq u x.0) (e ∷ es)
    by true h there rest = let one : count_by (λ (x : ℕ × QueuedRequest Purpose). nat_eq u x.0) (e ∷ es)
        ≡ 1 + count_by (λ (x : ℕ × QueuedRequest Purpose). nat_eq u x.0) es =
        counted ∙ ap (λ (b : Bool). cond b 1 0 + count_by (λ (x : ℕ × QueuedRequest Purpose). nat_eq u x.0) es) h in
        omega (arith, one)
    by false h there rest =
        let same : count_by (λ (x : ℕ × QueuedRequest Purpose). nat_eq u x.0) (e ∷ es)
        ≡ 0 + count_by (λ (x : ℕ × QueuedRequest Purpose). nat_eq u x.0) es =
        counted ∙ ap (λ (b : Bool). cond b 1 0 + count_by (λ (x : ℕ × QueuedRequest Purpose). nat_eq u x.0) es) h in
        let low = rest there in
        omega (arith, same, low)

module _ (w : World) (p : Plain) (sound : IsSound w.kernel.queues) (same : Alike w p)
    (live : is_live w.kernel.phase ≡ true) where
  pub odd_unasked : (u : ℕ) → u % 2 ≢ 0 → get p.asks u ≡ None
  odd_unasked u odd = by (get p.asks u) refl
    where
      by : (o : Option Ask) → get p.asks u ≡ o → o ≡ None
      by None e = refl
      by (Some ask) e =
          let there = found_key (λ
          (x : ℕ × QueuedRequest Purpose). is_for ask.call x.1.kept) w.kernel.queues.requests u
          ((same.asks live).no_other u ask e) in
          absurd (odd (number_even w.kernel.queues sound u (found_counted u w.kernel.queues.requests there)))

  interrupt_is_odd : (n : ℕ) → interrupt_number n % 2 ≢ 0
  interrupt_is_odd n e = omega (arith, e)

  -- The first INTERRUPT is read.
  pub interrupt_read : (original : ℕ) → Alike (world_after_read_interrupt w original) p
  interrupt_read original = read_interrupt_alike w p same sound original
      (odd_unasked (interrupt_number original) (interrupt_is_odd original))

  -- Forgets are read.
  pub forgets_read : (n : ℕ) (fs : List Forget) → Alike (world_after_read_forgets w n fs) p
  forgets_read n fs = read_forgets_alike w p same sound n fs (next_unasked w p sound same live)
