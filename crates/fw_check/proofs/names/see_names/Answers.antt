use Rattle.std.proofs.Common.{sym, subst, ◌∙◌}
use Rattle.name_sessions.specs.NameFrames.{AreNameActs}
use Rattle.fw_check.proofs.NameLaws.{judged_names, none_there}
use Rattle.fw_check.proofs.names.see_names.Goals as goal

pub returns : goal.returns
returns g c = λ k next n s agreed unjudged seen are stands.
    let t = c.args.transfer in
    judged_names k next n s t c.args.acts.now c.in_ok-is_missing.is_missing _ _
    (sym unjudged ∙ none_there c.args.unjudged c.is_some.result c.is_some.ensures c.if-is_some.false) are
    (λ said names. c.in_ok-is_missing.ensures.verdict n said seen
    (subst (λ a. AreNameActs a n t said) (sym agreed) names))
    (λ said names. c.in_ok-is_missing.ensures.seen n said seen
    (subst (λ a. AreNameActs a n t said) (sym agreed) names))
    (λ m of_m. c.see_all_left.ensures m _ of_m stands)
