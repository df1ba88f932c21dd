-- A loop over rows that ends at the first one that passes a test.
use Rattle.std.proofs.Common.{◌≡◌, ℕ, ◌+◌, ◌≤◌, ◌<◌, Bool, true, false, List, [], ◌∷◌, length, get_or, drop, ap, sym, ◌∙◌}
use Rattle.std.specs.Prelude.{◌||◌}
use Rattle.std.proofs.lemmas.List.{at_drop_more, at_drop_all}

-- `passes` says whether one of the rows passes the `test`
module _ {X : Type 0} (passes : List X → Bool) (test : X → Bool)
    (by_row : (row : X) (rows : List X) → passes (row ∷ rows) ≡ (test row || passes rows)) where
  first : (rows : List X) (i : ℕ) (row : X) → row ≡ get_or rows i row → i < length rows
      → passes (drop i rows) ≡ (test row || passes (drop (i + 1) rows))
  first rows i row is within =
      at_drop_more passes rows i row within ∙ by_row (get_or rows i row) (drop (i + 1) rows) ∙ ap
      (λ (x : X). test x || passes (drop (i + 1) rows)) (sym is)

  -- this row passes, and so one does
  pub one_passes : (rows : List X) (i : ℕ) (row : X) → passes rows ≡ passes (drop i rows) → row ≡ get_or rows i row
      → i < length rows → true ≡ test row → true ≡ passes rows
  one_passes rows i row so is within passing = sym
      (so ∙ first rows i row is within ∙ ap (λ (b : Bool). b || passes (drop (i + 1) rows)) (sym passing))

  -- this row does not, and so one passes where one behind it does
  pub next_row : (rows : List X) (i : ℕ) (row : X) → passes rows ≡ passes (drop i rows) → row ≡ get_or rows i row
      → i < length rows → false ≡ test row → passes rows ≡ passes (drop (i + 1) rows)
  next_row rows i row so is within failing =
      so ∙ first rows i row is within ∙ ap (λ (b : Bool). b || passes (drop (i + 1) rows)) (sym failing)

  -- no row is left, and so none passes
  pub none_passes : passes [] ≡ false → (rows : List X) (i : ℕ) → passes rows ≡ passes (drop i rows) → length rows ≤ i
      → false ≡ passes rows
  none_passes empty rows i so past = sym (so ∙ at_drop_all passes rows i past ∙ empty)
