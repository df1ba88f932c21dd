-- Numbers in a row.
use Rattle.std.proofs.Common.{◌≡◌, ◌++◌, ◌+◌, ◌∷◌, ◌∙◌, ℕ, zero, suc, List, [], ap, arith, append-nil}
use Rattle.std.specs.Prelude.{flat_map}
use Rattle.std.specs.List.{range_with_len}
use Rattle.std.proofs.lemmas.Grind.{flat_map-append}

range_more : (a n : ℕ) → range_with_len a (suc n) ≡ range_with_len a n ++ ((a + n) ∷ [])
range_more a zero = let e : a ≡ a + 0 = omega arith in ap (λ b. b ∷ []) e
range_more a (suc n) =
    let e : (a + 1) + n ≡ a + suc n = omega arith in
    let rest : range_with_len (a + 1) (suc n) ≡ range_with_len (a + 1) n ++ ((a + suc n) ∷ []) =
    rw (← e) (range_more (a + 1) n) in
    ap (λ r. a ∷ r) rest

-- one more
pub flat_map-range_more : (f : ℕ → List ℕ) (n : ℕ)
    → flat_map f (range_with_len 0 (n + 1)) ≡ flat_map f (range_with_len 0 n) ++ f n
flat_map-range_more f n =
    let next : n + 1 ≡ suc n = omega arith in
    let none : 0 + n ≡ n = omega arith in
    let last : flat_map f (n ∷ []) ≡ f n = append-nil (f n) in
    let more : range_with_len 0 (suc n) ≡ range_with_len 0 n ++ (n ∷ []) = rw none at (range_more 0 n) in
    let parts : flat_map f (range_with_len 0 n ++ (n ∷ [])) ≡ flat_map f (range_with_len 0 n) ++ f n =
    flat_map-append f (range_with_len 0 n) (n ∷ []) ∙ ap (λ l. flat_map f (range_with_len 0 n) ++ l) last in
    ap (λ k. flat_map f (range_with_len 0 k)) next ∙ ap (flat_map f) more ∙ parts
