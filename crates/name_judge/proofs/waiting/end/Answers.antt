use Rattle.std.proofs.Common.{sym, ap, ◌∙◌}
use Rattle.std.specs.Option.{option_map}
use Rattle.name_judge.specs.Kept.{asked_of}
use Rattle.name_judge.proofs.WaitLaws.{ended, ended_none}
use Rattle.name_judge.proofs.waiting.end.Goals as goal

pub returns-then-is_above-clause-was : goal.returns-then-is_above-clause-was
returns-then-is_above-clause-was g c = λ s are.
    ap (option_map asked_of) (sym (c.is_above.ensures c.if-is_above.true)) ∙ are c.args.unique

pub returns-then-is_above-clause-kept : goal.returns-then-is_above-clause-kept
returns-then-is_above-clause-kept g c = λ s are.
    ended_none s c.args.rows.now.entries c.args.unique (c.is_above.ensures c.if-is_above.true) are

pub returns-clause-was : goal.returns-clause-was
returns-clause-was g c = λ s are. ap (option_map asked_of) c.remove.ensures.value ∙ are c.args.unique

pub returns-clause-kept : goal.returns-clause-kept
returns-clause-kept g c = λ s are. rw c.remove.ensures.entries (ended s c.args.rows.now.entries c.args.unique are)
