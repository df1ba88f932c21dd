use Rattle.std.proofs.Common.{true, sym, subst}
use Rattle.joined_judge.specs.Judging.{IsJudgedAs}
use Rattle.joined_judge.proofs.VerdictLaws.{judged_joined, judged_whole}
use Rattle.joined_judge.proofs.judging.see_as.Goals as goal

pub returns-then-is_joined-clause-judged : goal.returns-then-is_joined-clause-judged
returns-then-is_joined-clause-judged g c = λ start before s right.
    let old = c.args.judge.now in
    let new = c.see.new.self in
    let acts = c.see.new.acts.items in
    subst (λ b. IsJudgedAs b start before s c.args.transfer old new acts c.keep_certain.new.verdicts.items)
    (sym c.if-is_joined.true)
    (subst (λ vs. IsJudgedAs true start before s c.args.transfer old new acts vs) (sym c.keep_certain.ensures)
    (judged_joined start before s c.args.transfer old new acts c.see.new.verdicts.items
    (c.in_ok-see.ensures.judged start before s right)))

pub returns-else-is_joined-clause-judged : goal.returns-else-is_joined-clause-judged
returns-else-is_joined-clause-judged g c = λ start before s right.
    let old = c.args.judge.now in
    let new = c.see.new.self in
    let acts = c.see.new.acts.items in
    let verdicts = c.see.new.verdicts.items in
    subst (λ b. IsJudgedAs b start before s c.args.transfer old new acts verdicts) (sym c.if-is_joined.false)
    (judged_whole start before s c.args.transfer old new acts verdicts (c.in_ok-see.ensures.judged start before s right))
