-- What contracts see of a table: its entries in rising key, and how many more it takes with no memory.
use Rattle.std.specs.Prelude.{ℕ, suc, List, [], ◌∷◌, if◌then◌else◌, nat_lt, refl, ◌≡◌, slice_get, Some, ◌<◌, length}
use Rattle.std.specs.Coded.{Coded, code_by, coded×, coded_ℕ, coded_list}

pub record TableState (V : Type 0) : Type 0 where
  pub entries : List (ℕ × V)
  pub room : ℕ

-- a table is stored as the pair of its fields
abbrev pub table_code : {V : Type 0} → Coded V → Coded (TableState V)
table_code {V} code =
    code_by
    (List (ℕ × V) × ℕ)
    (coded× (coded_list (coded× coded_ℕ code)) coded_ℕ)
    (λ t. (t.entries, t.room))
    (λ p. record { entries = p.0; room = p.1 })
    (λ _. refl)

-- how many of the entries, from the first on, have a lower key
abbrev pub place_of : {V : Type 0} → ℕ → List (ℕ × V) → ℕ
place_of key [] = 0
place_of key (e ∷ es) = if nat_lt e.0 key then suc (place_of key es) else 0

-- The row of a key stands at its place.
pub record IsRowOf {V : Type 0} (rows : List (ℕ × V)) (key place : ℕ) : Type 0 where
  pub at : place ≡ place_of key rows
  pub bound : place < length rows
  pub row : ℕ × V
  pub there : slice_get rows place ≡ Some row
  pub same : row.0 ≡ key
