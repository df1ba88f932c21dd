-- Whether either of two tables has a file.
use Rattle.std.proofs.Common.{◌≡◌, Bool, true, ◌||◌, sym, ap, ◌∙◌}

pub or_first : (a b r : Bool) → r ≡ true → r ≡ a → r ≡ (a || b)
or_first a b r true_is is = true_is ∙ sym (ap (λ x. x || b) (sym is ∙ true_is))
