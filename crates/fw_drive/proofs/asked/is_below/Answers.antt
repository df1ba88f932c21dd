use Rattle.std.proofs.Common.{◌≡◌, ◌++◌, ◌∷◌, ℕ, List, sym, ap, ◌∙◌}
use Rattle.std.proofs.lemmas.List.{append_cancel_left}
use Rattle.fw_drive.proofs.asked.is_below.Goals as goal

pub returns-in-Some : goal.returns-in-Some
returns-in-Some c = (
  λ holds. let (rest, is) = c.begins_with_slash.ensures.0 holds in
      (rest, c.in-Some.ensures ∙ ap (λ (l : List ℕ). c.args.directory.now ++ l) is),
  λ below. let (rest, is) = below in
      c.begins_with_slash.ensures.1 (rest, append_cancel_left c.args.directory.now c.in-Some.rest.now (47 ∷ rest) (sym c.in-Some.ensures ∙ is)),
)

pub returns-in-None : goal.returns-in-None
returns-in-None c =
    let no : ((rest : List ℕ) × (c.args.path.now ≡ c.args.directory.now ++ 47 ∷ rest)) → ⊥ =
    λ below. c.in-None.ensures (47 ∷ below.0) below.1 in ((λ f. absurd (cc f)), λ below. absurd (no below))
