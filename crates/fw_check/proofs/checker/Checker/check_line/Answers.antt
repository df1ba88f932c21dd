use Rattle.std.proofs.Common.{[]}
use Rattle.fw_check.proofs.CheckLaws.{line_passed_over, line_said, time_said}
use Rattle.std.proofs.KnownBytes.{Appends-nil}
use Rattle.fw_check.proofs.checker.Checker.check_line.Goals as goal

pub returns-in-Ok-None : goal.returns-in-Ok-None
returns-in-Ok-None g c lines j checks kept number =
    let passed = rw c.in-Ok-None.field-0-is at c.in-Ok-None.ensures.says in
    (j, [], line_passed_over c.args.options lines j c.args.line.now checks passed, kept, Appends-nil (g.W.Write.contents c.args.out.now))

pub returns-in-Ok-Some : goal.returns-in-Ok-Some
returns-in-Ok-Some g c lines j checks kept number =
    let said = rw c.in-Ok-Some.field-0-is at c.in-Ok-Some.ensures.says in
    let timed = rw c.in-Ok-Some.field-0-is at c.in-Ok-Some.ensures.time in
    line_said c.args.options c.check_said.result lines j c.args.line.now c.args.number c.in-Ok-Some.said _ _ _ _ checks said (time_said c.args.line.now c.in-Ok-Some.said timed) number
    (c.check_said.ensures j kept)
