-- Orders as they are printed.
use Rattle.std.specs.Prelude.{◌≡◌, ℕ, List, [], ◌∷◌, ◌++◌, Option, Some, None, codes, decimal}
use Rattle.std.specs.Io.KnownBytes.{Appends}
use Rattle.std.proofs.Common.{refl, ap, sym, ◌∙◌, append_assoc, append-nil}

-- an order behind the line of its number
abbrev pub order_text : ℕ × List ℕ → List ℕ
order_text order = codes "# order " ++ decimal order.0 ++ codes "\n" ++ order.1

abbrev pub orders_text : List (ℕ × List ℕ) → List ℕ
orders_text [] = []
orders_text (order ∷ orders) = order_text order ++ orders_text orders

-- an output that gets nothing stays
pub gets_nothing : (o : Option (List ℕ)) → Appends o o []
gets_nothing None = tt
gets_nothing (Some xs) = sym (append-nil xs)

orders_text-append : (xs ys : List (ℕ × List ℕ)) → orders_text (xs ++ ys) ≡ orders_text xs ++ orders_text ys
orders_text-append [] ys = refl
orders_text-append (x ∷ xs) ys = ap (λ (t : List ℕ). order_text x ++ t) (orders_text-append xs ys)
    ∙ sym (append_assoc (order_text x) (orders_text xs) (orders_text ys))

-- orders, and then more
pub gets_more : (a b c : Option (List ℕ)) (xs ys : List (ℕ × List ℕ)) → Appends a b (orders_text xs)
    → Appends b c (orders_text ys) → Appends a c (orders_text (xs ++ ys))
gets_more None b c xs ys first rest = tt
gets_more (Some as1) None c xs ys first rest = absurd first
gets_more (Some as1) (Some bs) None xs ys first rest = absurd rest
gets_more (Some as1) (Some bs) (Some cs) xs ys first rest = rest ∙ ap (λ (t : List ℕ). t ++ orders_text ys) first
    ∙ append_assoc as1 (orders_text xs) (orders_text ys)
    ∙ ap (λ (t : List ℕ). as1 ++ t) (sym (orders_text-append xs ys))
