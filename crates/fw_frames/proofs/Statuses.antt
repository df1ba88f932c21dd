-- The exit statuses of what ends a command early.
use Rattle.std.proofs.Common.{◌≡◌, ◌≢◌, ◌⊎◌, ℕ, inl, inr, [], ◌∷◌, zero, suc, Result, Ok, Err, arith, refl}
use Rattle.std.specs.Prelude.{Contains, IfErr}
use Rattle.fw_frames.specs.Stops.{frame_status_of}
use Rattle.fw_frames.specs.declared.stop.Stop.{Stop}
use Rattle.fw_frames.specs.declared.stop.Stop.TheVariants as stop

pub status_of_frame : (s : Stop) → frame_status_of s ≢ 2 → Contains (0 ∷ 1 ∷ 3 ∷ 5 ∷ []) (frame_status_of s)
status_of_frame stop.BadHex other = (1, omega arith, refl)
status_of_frame (stop.UnknownOpcode name) other = absurd (other refl)
status_of_frame stop.NoMemory other = (2, omega arith, refl)
status_of_frame stop.OutputRefused other = (3, omega arith, refl)

pub status_of_reply : (s : Stop) → Contains (0 ∷ 1 ∷ 2 ∷ 3 ∷ 5 ∷ []) (frame_status_of s)
status_of_reply stop.BadHex = (1, omega arith, refl)
status_of_reply (stop.UnknownOpcode name) = (2, omega arith, refl)
status_of_reply stop.NoMemory = (3, omega arith, refl)
status_of_reply stop.OutputRefused = (4, omega arith, refl)

pub frame_never_0 : (s : Stop) → frame_status_of s ≢ 0
frame_never_0 stop.BadHex at = cc at
frame_never_0 (stop.UnknownOpcode name) at = cc at
frame_never_0 stop.NoMemory at = cc at
frame_never_0 stop.OutputRefused at = cc at

-- Before anything is printed.
pub at_1_or_3 : {X : Type 0} (s : Stop) → (frame_status_of s ≢ 5 → X)
    → (frame_status_of s ≡ 1) ⊎ (frame_status_of s ≡ 3) → X
at_1_or_3 s silent (inl at) = silent (λ five. omega (arith, at, five))
at_1_or_3 s silent (inr at) = silent (λ five. omega (arith, at, five))

pub at_1_2_or_3 : {X : Type 0} (s : Stop) → (frame_status_of s ≢ 5 → X)
    → (frame_status_of s ≡ 1) ⊎ (frame_status_of s ≡ 2) ⊎ (frame_status_of s ≡ 3) → X
at_1_2_or_3 s silent (inl at) = silent (λ five. omega (arith, at, five))
at_1_2_or_3 s silent (inr (inl at)) = silent (λ five. omega (arith, at, five))
at_1_2_or_3 s silent (inr (inr at)) = silent (λ five. omega (arith, at, five))

-- Where all was printed.
pub not_1_or_3 : {X : Type 0} → (◌≡◌ {A = ℕ} 0 1) ⊎ (◌≡◌ {A = ℕ} 0 3) → X
not_1_or_3 (inl at) = absurd (cc at)
not_1_or_3 (inr at) = absurd (cc at)

pub not_1_2_or_3 : {X : Type 0} → (◌≡◌ {A = ℕ} 0 1) ⊎ (◌≡◌ {A = ℕ} 0 2) ⊎ (◌≡◌ {A = ℕ} 0 3) → X
not_1_2_or_3 (inl at) = absurd (cc at)
not_1_2_or_3 (inr (inl at)) = absurd (cc at)
not_1_2_or_3 (inr (inr at)) = absurd (cc at)

-- what stops a frame stops its line
pub stops_line : {T : Type 0} (r : Result T Stop) → IfErr r (λ s. Contains (3 ∷ 5 ∷ []) (frame_status_of s))
    → IfErr r (λ s. Contains (1 ∷ 3 ∷ 5 ∷ []) (frame_status_of s))
stops_line (Ok x) h = tt
stops_line (Err s) h = (suc h.0, omega (arith, h.1), h.2)

-- and what stops the reading stops all
pub stops_reading : {T : Type 0} (r : Result T Stop) → IfErr r (λ s. Contains (1 ∷ 3 ∷ []) (frame_status_of s))
    → IfErr r (λ s. Contains (1 ∷ 3 ∷ 5 ∷ []) (frame_status_of s))
stops_reading (Ok x) h = tt
stops_reading (Err s) (zero, below, is) = (0, omega arith, is)
stops_reading (Err s) (suc zero, below, is) = (1, omega arith, is)
stops_reading (Err s) (suc (suc n), below, is) = absurd (omega (arith, below))
