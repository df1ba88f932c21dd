-- What is printed of orders, one list after another.
use Rattle.std.proofs.Common.{◌≡◌, ℕ, ◌+◌, cond, List, [], ◌∷◌, ◌++◌, length, ap, sym, subst, ◌∙◌, append_assoc, length-append, arith}
use Rattle.order_search.specs.declared.course.Wanted.{Wanted}
use Rattle.order_search.specs.Orders.{Printed, is_wanted, wanted_of}

-- the orders that are printed of two lists
pub wanted-append : (wanted : Wanted) (before : ℕ) (xs ys : List (List ℕ)) → wanted_of wanted before (xs ++ ys)
    ≡ wanted_of wanted before xs ++ wanted_of wanted (before + length xs) ys
wanted-append wanted before [] ys = ap (λ (n : ℕ). wanted_of wanted n ys) (omega arith)
wanted-append wanted before (x ∷ xs) ys =
    let here = cond (is_wanted wanted (before + 1)) ((before + 1, x) ∷ []) [] in
    ap (λ (zs : List (ℕ × List ℕ)). here ++ zs) (wanted-append wanted (before + 1) xs ys
    ∙ ap (λ (n : ℕ). wanted_of wanted (before + 1) xs ++ wanted_of wanted n ys) (omega arith))
    ∙ sym (append_assoc here (wanted_of wanted (before + 1) xs) (wanted_of wanted (before + length (x ∷ xs)) ys))

module _ {P : Type 0} (prints : P → P → List (ℕ × List ℕ) → Type 0)
    (goes_on : (first mid last : P) (orders more : List (ℕ × List ℕ)) → prints first mid orders → prints mid last more
    → prints first last (orders ++ more)) where
  -- two lists of orders, printed one after the other
  pub then_printed : (old mid new : P) (wanted : Wanted) (before between after : ℕ) (xs ys : List (List ℕ))
      → Printed prints old mid wanted before between xs → Printed prints mid new wanted between after ys
      → Printed prints old new wanted before after (xs ++ ys)
  then_printed old mid new wanted before between after xs ys first rest =
      let counted = first.counted in
      let more = rest.counted in
      record {
        counted = more ∙ ap (λ (n : ℕ). n + length ys) counted ∙ by_length before xs ys;
        printed = subst (prints old new) (ap (λ (n : ℕ). wanted_of wanted before xs ++ wanted_of wanted n ys) counted
            ∙ sym (wanted-append wanted before xs ys))
            (goes_on old mid new (wanted_of wanted before xs) (wanted_of wanted between ys) first.printed rest.printed);
      }
    where
      by_length : (n : ℕ) (as1 bs : List (List ℕ)) → n + length as1 + length bs ≡ n + length (as1 ++ bs)
      by_length n as1 bs = grind (arith, length-append)
