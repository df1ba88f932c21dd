-- The number of a frame whose header is cut.
use Rattle.std.proofs.Common.{◌≡◌, ◌+◌, ◌-◌, ◌<◌, ◌≤◌, ℕ, zero, suc, true, false, nat_eq, List, length, drop, slice_index, arith, refl, sym, ap, ◌∙◌, inl, inr}
use Rattle.std.specs.Prelude.{◌≢◌, not}
use Rattle.std.proofs.lemmas.Bool.{cases_eq, cases_lt}
use Rattle.std.proofs.lemmas.Bool.Decides.{nat_tests}
use Rattle.std.proofs.lemmas.List.{get_or-drop, get_or_past}
use Rattle.byteorder.specs.Endian.{little_from}
use Rattle.fk_fields.specs.Fields.{number_at}
use Rattle.fuse_sessions.specs.Frames.{number_in}

-- a number whose bytes are zero
zero_from : (n i : ℕ) (xs : List ℕ) → ((k : ℕ) → slice_index xs k ≡ 0) → little_from i n xs ≡ 0
zero_from zero i xs none = refl
zero_from (suc n) i xs none = let here = none i in let rest = zero_from n (suc i) xs none in omega (arith, here, rest)

-- the bytes of a number that is zero
zero_at : (n i : ℕ) (xs : List ℕ) → little_from i n xs ≡ 0 → (k : ℕ) → i ≤ k → k < i + n → slice_index xs k ≡ 0
zero_at zero i xs none k from to = absurd (omega arith)
zero_at (suc n) i xs none k from to =
    elim (cases_eq i k) [
      | inl same ↦ rw (← same) (omega arith)
      | inr other ↦ zero_at n (suc i) xs (omega arith) k (omega arith) (omega arith)
    ]

pub has_none : (bytes : List ℕ) → ((k : ℕ) → 8 ≤ k → k < length bytes → slice_index bytes k ≡ 0)
    → number_in bytes ≡ 0
unfolding number_at
has_none bytes none =
    zero_from 8 0 (drop 8 bytes) (λ k. get_or-drop 8 bytes k 0 ∙ elim (cases_lt (8 + k) (length bytes)) [
      | inl within ↦ none (8 + k) (omega arith) within
      | inr past ↦ get_or_past bytes (8 + k) 0 past
    ])

pub has_some : (bytes : List ℕ) (k : ℕ) → 8 ≤ k → k < 16 → slice_index bytes k ≢ 0 → number_in bytes ≢ 0
unfolding number_at
has_some bytes k from to other none =
    let place : 8 + (k - 8) ≡ k = omega arith in
    let here = zero_at 8 0 (drop 8 bytes) none (k - 8) (omega arith) (omega arith) in
    other (ap (slice_index bytes) (sym place) ∙ sym (get_or-drop 8 bytes (k - 8) 0) ∙ here)

pub test_none : (n : ℕ) → n ≡ 0 → not (nat_eq n 0) ≡ false
test_none n e = rw e refl

pub test_some : (n : ℕ) → n ≢ 0 → not (nat_eq n 0) ≡ true
test_some zero other = absurd (other refl)
test_some (suc n) other = grind (arith, nat_tests)
