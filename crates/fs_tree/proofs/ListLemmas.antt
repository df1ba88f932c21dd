-- Lists that are mapped.
use Rattle.std.proofs.Common.{◌≡◌, Bool, true, false, cond, List, [], ◌∷◌, map, refl, ap, filter}

-- what is left of a list that is mapped
pub filter-map : {E F : Type 0} (f : E → F) (p : E → Bool) (q : F → Bool) → ((e : E) → q (f e) ≡ p e) → (es : List E)
    → map f (filter p es) ≡ filter q (map f es)
filter-map f p q same [] = refl
filter-map f p q same (e ∷ es) = rw (same e) (by (p e) (filter-map f p q same es))
  where
    by : (b : Bool) → map f (filter p es) ≡ filter q (map f es)
        → map f (cond b (e ∷ filter p es) (filter p es)) ≡ cond b (f e ∷ filter q (map f es)) (filter q (map f es))
    by true rest = ap (λ l. f e ∷ l) rest
    by false rest = rest
