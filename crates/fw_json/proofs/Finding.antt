-- The search through a list, element by element.
use Rattle.std.proofs.Common.{◌≡◌, ◌+◌, ◌<◌, ◌∙◌, ℕ, suc, Bool, false, cond, get_or, List, ◌∷◌, length, drop, Some, arith, sym, ap}
use Rattle.std.specs.Prelude.{find}
use Rattle.std.proofs.Math.Seq.{drop-cons}

-- what is left of a list is an element and what is left behind it
pub drop_next : {X : Type 0} (xs : List X) (i : ℕ) (d : X) → i < length xs
    → drop i xs ≡ get_or xs i d ∷ drop (i + 1) xs
drop_next xs i d below =
    let next : suc i ≡ i + 1 = omega arith in
    drop-cons xs i d below ∙ ap (λ (n : ℕ). get_or xs i d ∷ drop n xs) next

-- an element that does not pass is no answer
pub find_behind : {X : Type 0} (test : X → Bool) (xs : List X) (i : ℕ) (d : X) → i < length xs
    → test (get_or xs i d) ≡ false → find test (drop (i + 1) xs) ≡ find test (drop i xs)
find_behind {X} test xs i d below fails =
    sym (ap (find test) (drop_next xs i d below)
    ∙ ap (λ (b : Bool). cond b (Some (get_or xs i d)) (find test (drop (i + 1) xs))) fails)
