-- Counts by key.
use Rattle.std.specs.Prelude.{ℕ, ◌+◌, ◌<◌, ◌^◌, Bool, List, unwrap_or, if◌then◌else◌, count_by, refl}
use Rattle.std.specs.Coded.{Coded, code_by, coded×, coded_ℕ, coded_list}
use Rattle.std.specs.Map.{lookup}

-- Keys in a list, each as often as it is counted there, and rows of keys with their counts.
pub record Counts (K : Type 0) : Type 0 where
  pub listed : List K
  pub rows : List (K × ℕ)

-- What contracts see of a tally: the counts, and how many keys it takes with no memory.
pub record TallyState (K : Type 0) : Type 0 where
  pub counts : Counts K
  pub room : ℕ

-- a tally is stored as its fields, one after another
abbrev pub tally_code : {K : Type 0} → Coded K → Coded (TallyState K)
tally_code {K} code =
    code_by
    (List K × (List (K × ℕ) × ℕ))
    (coded× (coded_list code) (coded× (coded_list (coded× code coded_ℕ)) coded_ℕ))
    (λ t. (t.counts.listed, (t.counts.rows, t.room)))
    (λ p. record { counts = record { listed = p.0; rows = p.1.0 }; room = p.1.1 })
    (λ _. refl)

-- how many a key has in the rows: none where it has no row
abbrev pub row_of : {K : Type 0} → (K → K → Bool) → List (K × ℕ) → K → ℕ
row_of eq rows key = unwrap_or (lookup (eq key) rows) 0

-- how many a key has
abbrev pub count_in : {K : Type 0} → (K → K → Bool) → Counts K → K → ℕ
count_in eq counts key = count_by (eq key) counts.listed + row_of eq counts.rows key

-- Each count is below 2^64.
abbrev pub AreSmall : {K : Type 0} → (K → K → Bool) → Counts K → Type 0
AreSmall {K} eq counts = (q : K) → count_in eq counts q < 2 ^ 64

-- one, or none
abbrev pub one_if : Bool → ℕ
one_if b = if b then 1 else 0
