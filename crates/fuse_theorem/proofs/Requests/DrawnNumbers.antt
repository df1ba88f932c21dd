-- The number of a request was allocated, and is even.
use Rattle.std.proofs.Common.{◌≡◌, ℕ, ◌<◌, ◌≤◌, ◌%◌, Bool, true, false, cond, refl, arith}
use Rattle.std.proofs.lemmas.Bool.Decides.{nat_tests}
use Rattle.fuse_spec.specs.declared.Purpose.{Purpose}
use Rattle.fuse_spec.specs.Kernel.Queues.{QueueState, was_allocated, IsSound}
use Rattle.fuse_spec.proofs.QueueCounts.{key_count}

pub number_below : (s : QueueState Purpose) → IsSound s → (u : ℕ) → 1 ≤ key_count u s.requests → u < s.next
number_below s sound u there = by (was_allocated s.next u) refl (sound.requests u)
  where
    by : (b : Bool) → was_allocated s.next u ≡ b → key_count u s.requests ≤ cond b 1 0 → u < s.next
    by true e le = grind (arith, nat_tests, e)
    by false e le = absurd (omega (arith, le, there))

pub number_even : (s : QueueState Purpose) → IsSound s → (u : ℕ) → 1 ≤ key_count u s.requests → u % 2 ≡ 0
number_even s sound u there = by (was_allocated s.next u) refl (sound.requests u)
  where
    by : (b : Bool) → was_allocated s.next u ≡ b → key_count u s.requests ≤ cond b 1 0 → u % 2 ≡ 0
    by true e le = grind (arith, nat_tests, e)
    by false e le = absurd (omega (arith, le, there))
