-- Tests of keys: what a closure says of each, and the entries at the keys that pass.
use Rattle.std.specs.Prelude.{ℕ, List, Bool, filter, ◌≡◌}

-- a closure that answers by this relation says of every key what the test says
abbrev pub Tells : (ℕ → Bool) → (ℕ → Bool → Type 0) → Type 0
Tells test says = (key : ℕ) (answer : Bool) → says key answer → answer ≡ test key

-- the entries at the keys that pass a test
abbrev pub kept_by : {V : Type 0} → (ℕ → Bool) → List (ℕ × V) → List (ℕ × V)
kept_by test es = filter (λ e. test e.0) es
