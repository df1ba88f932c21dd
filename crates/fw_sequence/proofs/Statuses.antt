-- Exit statuses.
use Rattle.std.proofs.Common.{◌≡◌, ◌⊎◌, ℕ, inl, inr}

-- the status of a picture that was printed is neither that of a bad capture nor that of no memory
pub not_1_or_3_of_0 : {X : Type 0} → (◌≡◌ {A = ℕ} 0 1) ⊎ (◌≡◌ {A = ℕ} 0 3) → X
not_1_or_3_of_0 (inl at) = absurd (cc at)
not_1_or_3_of_0 (inr at) = absurd (cc at)
