use Rattle.std.proofs.Common.{rules, refl, ◌≡◌, ◌∙◌, ap, List, ℕ, Bor, [], option_map}
use Rattle.std.specs.Prelude.{Option, Some, None, unwrap_or}
use Rattle.clap.specs.Words.{found_of}
use Rattle.clap.proofs.WalkLemmas.{first_value-rows}
use Rattle.fw_tasks.proofs.values.text.Goals as goal

text_inside : (o : Option (Bor (List ℕ))) (other : Bor (List ℕ)) → other.now ≡ []
    → (unwrap_or o other).now ≡ unwrap_or (option_map (λ s. s.now) o) []
text_inside None other empty = empty
text_inside (Some t) other empty = refl

pub returns : goal.returns
returns c = ap (λ s. s.now) c.unwrap_or.ensures ∙ text_inside c.get_str.result _ (search rules)
    ∙ ap (λ o. unwrap_or o []) (c.get_str.ensures ∙ first_value-rows (found_of c.args.matches.now) c.args.id.now)
