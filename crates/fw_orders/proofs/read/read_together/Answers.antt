use Rattle.std.proofs.Common.{◌≡◌}
use Rattle.std.specs.Prelude.{codes}
use Rattle.fw_orders.specs.FileLines.{IsCall, IsStep, calls, forgets, no_line, no_such, steps}
use Rattle.fw_orders.proofs.ReadLines.{is_not, is_so, neither, says_it, shows_together}
use Rattle.fw_orders.proofs.read.read_together.Goals as goal

pub returns-then-is_forget : goal.returns-then-is_forget
returns-then-is_forget c =
    forgets (is_so c.is_forget.result (c.args.text.now ≡ codes "forget") c.is_forget.ensures c.if-is_forget.true)

pub returns-in-Err : goal.returns-in-Err
returns-in-Err c = (
  is_not c.is_forget.result (c.args.text.now ≡ codes "forget") c.is_forget.ensures c.if-is_forget.false,
  no_line c.in-Err.fault c.in-Err.ensures,
)

pub returns-in_default : goal.returns-in_default
returns-in_default c = (
  is_not c.is_forget.result (c.args.text.now ≡ codes "forget") c.is_forget.ensures c.if-is_forget.false,
  shows_together c.args.text.now c.in-Ok.line c.act_of_line.result c.in-Ok.ensures c.act_of_line.ensures
      c.in_default.is,
)

pub returns-then-is_call : goal.returns-then-is_call
returns-then-is_call c =
    calls _ (says_it IsCall c.args.text.now c.in-Ok.line c.act_of_line.result c.in-Some.act c.in-Ok.ensures
    c.act_of_line.ensures c.in-Some.is
    (is_so c.is_call.result (IsCall c.in-Ok.line) c.is_call.ensures c.if-is_call.true))

pub returns-then-is_step : goal.returns-then-is_step
returns-then-is_step c =
    steps _ (says_it IsStep c.args.text.now c.in-Ok.line c.act_of_line.result c.in-Some.act c.in-Ok.ensures
    c.act_of_line.ensures c.in-Some.is
    (is_so c.is_step.result (IsStep c.in-Ok.line) c.is_step.ensures c.if-is_step.true))

pub returns-else-is_step : goal.returns-else-is_step
returns-else-is_step c = (
  is_not c.is_forget.result (c.args.text.now ≡ codes "forget") c.is_forget.ensures c.if-is_forget.false,
  no_such c.in-Ok.line c.in-Ok.ensures (neither c.in-Ok.line
      (is_not c.is_call.result (IsCall c.in-Ok.line) c.is_call.ensures c.if-is_call.false)
      (is_not c.is_step.result (IsStep c.in-Ok.line) c.is_step.ensures c.if-is_step.false)),
)
