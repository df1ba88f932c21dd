use Rattle.fw_orders.specs.FileLines.{IsAlone, no_line, no_such}
use Rattle.fw_orders.proofs.ReadLines.{is_not, is_so, says_it, shows_alone}
use Rattle.fw_orders.proofs.read.read_alone.Goals as goal

pub returns-in-Err : goal.returns-in-Err
returns-in-Err c = no_line c.in-Err.fault c.in-Err.ensures

pub returns-in_default : goal.returns-in_default
returns-in_default c =
    shows_alone c.args.text.now c.in-Ok.line c.act_of_line.result c.in-Ok.ensures c.act_of_line.ensures c.in_default.is

pub returns-then-is_alone : goal.returns-then-is_alone
returns-then-is_alone c =
    says_it IsAlone c.args.text.now c.in-Ok.line c.act_of_line.result c.in-Some.act c.in-Ok.ensures
    c.act_of_line.ensures c.in-Some.is
    (is_so c.is_alone.result (IsAlone c.in-Ok.line) c.is_alone.ensures c.if-is_alone.true)

pub returns-else-is_alone : goal.returns-else-is_alone
returns-else-is_alone c =
    no_such c.in-Ok.line c.in-Ok.ensures
    (is_not c.is_alone.result (IsAlone c.in-Ok.line) c.is_alone.ensures c.if-is_alone.false)
