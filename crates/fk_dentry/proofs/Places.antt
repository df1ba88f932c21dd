-- Where a key stands among entries in rising key.
use Rattle.std.specs.Prelude.{◌≡◌, ℕ, suc, ◌<◌, List, [], ◌∷◌, cond, length, slice_get, Some}
use Rattle.std.specs.declared.cmp.Ordering.{Ordering}
use Rattle.std.specs.declared.cmp.Ordering.TheVariants.{Equal}
use Rattle.std.specs.Ordering.{is_gt}

-- how many of the entries, from the first on, have a lower key
abbrev pub place_among : {K X : Type 0} → (K → K → Ordering) → K → List (K × X) → ℕ
place_among R key [] = 0
place_among R key (e ∷ es) = cond (is_gt (R key e.0)) (suc (place_among R key es)) 0

-- The entry of a key stands at its place.
pub record IsEntryOf {K X : Type 0} (R : K → K → Ordering) (es : List (K × X)) (key : K) (place : ℕ) : Type 0 where
  pub at : place ≡ place_among R key es
  pub bound : place < length es
  pub entry : K × X
  pub there : slice_get es place ≡ Some entry
  pub same : R key entry.0 ≡ Equal
