-- Exit statuses.
use Rattle.std.proofs.Common.{◌≡◌, ◌≢◌, ◌⊎◌, ◌<◌, ℕ, inl, inr, zero, suc, [], ◌∷◌, arith}
use Rattle.std.specs.Prelude.{Contains, slice_index_or}

status_at : (status place : ℕ) → place < 2 → slice_index_or (1 ∷ 3 ∷ []) place status ≡ status
    → Contains (0 ∷ 1 ∷ 3 ∷ 5 ∷ []) status
status_at status zero below is = (1, omega arith, is)
status_at status (suc zero) below is = (2, omega arith, is)
status_at status (suc (suc place)) below is = absurd (omega (arith, below))

-- the statuses of a script that is not run are among those of any
pub status_of_reading : (status : ℕ) → Contains (1 ∷ 3 ∷ []) status → Contains (0 ∷ 1 ∷ 3 ∷ 5 ∷ []) status
status_of_reading status h = status_at status h.0 h.1 h.2

-- and it is neither that of a picture nor that of an output that refuses
not_at : (status other place : ℕ) → place < 2 → slice_index_or (1 ∷ 3 ∷ []) place status ≡ status → other ≢ 1
    → other ≢ 3 → status ≢ other
not_at status other zero below is one three at = one (omega (arith, is, at))
not_at status other (suc zero) below is one three at = three (omega (arith, is, at))
not_at status other (suc (suc place)) below is one three at = omega (arith, below)

pub not_0 : (status : ℕ) → Contains (1 ∷ 3 ∷ []) status → status ≢ 0
not_0 status h = not_at status 0 h.0 h.1 h.2 (λ e. cc e) (λ e. cc e)

pub not_0_or_5 : {X : Type 0} (status : ℕ) → Contains (1 ∷ 3 ∷ []) status → (status ≡ 0) ⊎ (status ≡ 5) → X
not_0_or_5 status h (inl at) = absurd (not_0 status h at)
not_0_or_5 status h (inr at) = absurd (not_at status 5 h.0 h.1 h.2 (λ e. cc e) (λ e. cc e) at)

-- the statuses of an output that refuses, and of no memory
pub not_1_or_3_of_5 : {X : Type 0} → (◌≡◌ {A = ℕ} 5 1) ⊎ (◌≡◌ {A = ℕ} 5 3) → X
not_1_or_3_of_5 (inl at) = absurd (cc at)
not_1_or_3_of_5 (inr at) = absurd (cc at)

pub not_0_or_5_of_3 : {X : Type 0} → (◌≡◌ {A = ℕ} 3 0) ⊎ (◌≡◌ {A = ℕ} 3 5) → X
not_0_or_5_of_3 (inl at) = absurd (cc at)
not_0_or_5_of_3 (inr at) = absurd (cc at)
