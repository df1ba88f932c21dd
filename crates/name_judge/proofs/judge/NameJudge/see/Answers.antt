use Rattle.std.proofs.Common.{sym, ◌∙◌}
use Rattle.name_sessions.proofs.FaultLaws.{silent}
use Rattle.name_judge.proofs.JudgeLaws.{doubt_seen, seen_on, verdict}
use Rattle.name_judge.proofs.judge.NameJudge.see.Goals as goal

pub returns-then-self-clause-verdict : goal.returns-then-self-clause-verdict
returns-then-self-clause-verdict g c = λ s acts seen are. sym (silent s acts (sym seen.doubt ∙ c.if-self.true))

pub returns-in-Ok-Some-clause-verdict : goal.returns-in-Ok-Some-clause-verdict
returns-in-Ok-Some-clause-verdict g c = λ s acts seen are.
    let is = rw c.in-Ok-Some.field-0-is at c.in-Ok-Some.ensures in
    let v = is s (seen.right c.if-self.false) (sym seen.doubt ∙ c.if-self.false) in
    verdict s c.args.agreed c.args.transfer c.see_transfer.new.tables c.in-Ok-Some.fault acts v are

pub returns-in-Ok-Some-clause-seen : goal.returns-in-Ok-Some-clause-seen
returns-in-Ok-Some-clause-seen g c = λ s acts seen are.
    let is = rw c.in-Ok-Some.field-0-is at c.in-Ok-Some.ensures in
    let v = is s (seen.right c.if-self.false) (sym seen.doubt ∙ c.if-self.false) in
    seen_on s c.args.agreed c.args.transfer c.see_transfer.new.tables c.in-Ok-Some.fault acts v are
    c.args.self.now.unsure c.if-self.false seen.doubt

pub returns-in-Ok-None-clause-seen : goal.returns-in-Ok-None-clause-seen
returns-in-Ok-None-clause-seen g c = λ s acts seen are.
    let is = rw c.in-Ok-None.field-0-is at c.in-Ok-None.ensures in
    let v = is s (seen.right c.if-self.false) (sym seen.doubt ∙ c.if-self.false) in
    doubt_seen s c.args.agreed c.args.transfer acts v are c.doubt.new.self (c.doubt.ensures s)
