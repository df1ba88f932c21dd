use Rattle.std.proofs.Common.{sym, ◌∙◌, ap}
use Rattle.std.specs.List.{position}
use Rattle.fuse_judge.proofs.TallyLaws.{count_left, none_listed}
use Rattle.fuse_judge.proofs.tally_list.unlist.Goals as goal

pub returns-in-Some-clause-taken : goal.returns-in-Some-clause-taken
returns-in-Some-clause-taken g c = λ _ q. rw c.swap_remove-key.ensures.items
    (count_left g.met.K.Eq.laws c.args.listed.now.items c.args.key c.in-Some.place c.swap_remove-key.result
    (ap (position (g.K.PartialEq.eq c.args.key)) (sym c.deref.ensures.value) ∙ sym c.place_of.ensures ∙ c.in-Some.is) q)

pub returns-in-None-clause-absent : goal.returns-in-None-clause-absent
returns-in-None-clause-absent g c = λ _. none_listed (g.K.PartialEq.eq c.args.key) c.args.listed.now.items
    (ap (position (g.K.PartialEq.eq c.args.key)) (sym c.deref.ensures.value) ∙ sym c.place_of.ensures ∙ c.in-None.is)
