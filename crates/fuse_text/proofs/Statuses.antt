-- The exit statuses of what stops a command early.
use Rattle.std.proofs.Common.{◌≢◌, [], ◌∷◌, arith, refl}
use Rattle.std.specs.Prelude.{Contains}
use Rattle.fuse_text.specs.Stops.{status_of}
use Rattle.fuse_text.specs.declared.stop.Stop.{Stop}
use Rattle.fuse_text.specs.declared.stop.Stop.TheVariants as stop

module _ {F : Type 0} where
  pub status_among : (s : Stop F) → Contains (0 ∷ 1 ∷ 3 ∷ 5 ∷ []) (status_of s)
  status_among stop.CannotRead = (1, omega arith, refl)
  status_among (stop.BadLine number fault) = (1, omega arith, refl)
  status_among stop.NoMemory = (2, omega arith, refl)
  status_among stop.OutputRefused = (3, omega arith, refl)

  pub status_of_reading : (s : Stop F) → status_of s ≢ 5 → Contains (1 ∷ 3 ∷ []) (status_of s)
  status_of_reading stop.CannotRead other = (0, omega arith, refl)
  status_of_reading (stop.BadLine number fault) other = (0, omega arith, refl)
  status_of_reading stop.NoMemory other = (1, omega arith, refl)
  status_of_reading stop.OutputRefused other = absurd (other refl)

  pub status_of_running : (s : Stop F) → status_of s ≢ 1 → Contains (0 ∷ 3 ∷ 4 ∷ 5 ∷ []) (status_of s)
  status_of_running stop.CannotRead other = absurd (other refl)
  status_of_running (stop.BadLine number fault) other = absurd (other refl)
  status_of_running stop.NoMemory other = (1, omega arith, refl)
  status_of_running stop.OutputRefused other = (3, omega arith, refl)

  pub status_over_a_link : (s : Stop F) → Contains (0 ∷ 1 ∷ 3 ∷ 4 ∷ 5 ∷ []) (status_of s)
  status_over_a_link stop.CannotRead = (1, omega arith, refl)
  status_over_a_link (stop.BadLine number fault) = (1, omega arith, refl)
  status_over_a_link stop.NoMemory = (2, omega arith, refl)
  status_over_a_link stop.OutputRefused = (4, omega arith, refl)

  pub status_of_check : (s : Stop F) → Contains (0 ∷ 1 ∷ 3 ∷ 5 ∷ 6 ∷ []) (status_of s)
  status_of_check stop.CannotRead = (1, omega arith, refl)
  status_of_check (stop.BadLine number fault) = (1, omega arith, refl)
  status_of_check stop.NoMemory = (2, omega arith, refl)
  status_of_check stop.OutputRefused = (3, omega arith, refl)
