-- The exit statuses.
use Rattle.std.proofs.Common.{◌≡◌, ◌∷◌, [], ℕ, List, Option, Some, None, refl, suc, sym, subst, zero, arith}
use Rattle.std.specs.Prelude.{Contains, IfSome}
use Rattle.fw_orders.specs.Stops.{status_of}
use Rattle.fw_orders.specs.declared.stop.Stop.{Stop}
use Rattle.fw_orders.specs.declared.stop.Stop.TheVariants as stop

abbrev pub IsStatus : ℕ → Type 0
IsStatus status = Contains (0 ∷ 1 ∷ 3 ∷ 5 ∷ []) status

pub ended : IsStatus 0
ended = (0, omega arith, refl)

pub at_stop : (why : Stop) → IsStatus (status_of why)
at_stop (stop.BadLine number fault) = (1, omega arith, refl)
at_stop stop.TooLong = (1, omega arith, refl)
at_stop (stop.NoSuchOrder orders) = (1, omega arith, refl)
at_stop stop.NoMemory = (2, omega arith, refl)
at_stop stop.OutputRefused = (3, omega arith, refl)

pub is_status : (why : Stop) (status : ℕ) → status ≡ status_of why → IsStatus status
is_status why status is = subst IsStatus (sym is) (at_stop why)

-- where a file is not read
pub unread : (status : ℕ) → Contains (1 ∷ 3 ∷ []) status → IsStatus status
unread status (zero, within, is) = (1, omega arith, is)
unread status (suc zero, within, is) = (2, omega arith, is)
unread status (suc (suc n), within, is) = absurd (omega (arith, within))

-- what holds of a text, where its bytes are known
pub of_known : (P : List ℕ → Type 0) (known : Option (List ℕ)) (text : List ℕ) → IfSome known (λ bytes. text ≡ bytes)
    → P text → IfSome known P
of_known P None text is holds = tt
of_known P (Some bytes) text is holds = subst P is holds
