-- Counts by key, of those keys that have any.
use Rattle.std.specs.Prelude.{◌≡◌, ℕ, ◌+◌, ◌-◌, Bool, List, Option, Some, None, if◌then◌else◌, nat_lt}
use Rattle.std.specs.Map.{lookup}
use Rattle.fw_check.specs.declared.held.Step.{Step}
use Rattle.fw_check.specs.declared.held.Step.TheVariants as step

-- a count, if there is any
abbrev pub any_of : ℕ → Option ℕ
any_of n = if nat_lt 0 n then Some n else None

module _ {K : Type 0} (eq : K → K → Bool) where
  -- The rows have the count of each key that has any, and no other.
  abbrev pub Holds : (rows : List (K × ℕ)) → (count : K → ℕ) → Type 0
  Holds rows count = (q : K) → lookup (eq q) rows ≡ any_of (count q)

  -- The key has one more, and each other as many as before.
  abbrev pub IsMore : (key : K) → (count later : K → ℕ) → Type 0
  IsMore key count later = (q : K) → later q ≡ (if eq key q then count q + 1 else count q)

  -- It has so many fewer.
  abbrev pub IsLess : (key : K) → (less : ℕ) → (count later : K → ℕ) → Type 0
  IsLess key less count later = (q : K) → later q ≡ (if eq key q then count q - less else count q)

  -- A step leads from these counts to those.
  abbrev pub IsStep : Step K → (count later : K → ℕ) → Type 0
  IsStep step.Nothing count later = (q : K) → later q ≡ count q
  IsStep (step.More key) count later = IsMore key count later
  IsStep (step.Less key less) count later = IsLess key less count later

  -- A step gives each key so many, or takes so many from it.
  abbrev pub Does : Step K → (gives takes : K → ℕ) → Type 0
  Does step.Nothing gives takes = (q : K) → (gives q ≡ 0) × (takes q ≡ 0)
  Does (step.More key) gives takes = (q : K) → (gives q ≡ (if eq key q then 1 else 0)) × (takes q ≡ 0)
  Does (step.Less key less) gives takes = (q : K) → (gives q ≡ 0) × (takes q ≡ (if eq key q then less else 0))
