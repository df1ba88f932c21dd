use Rattle.fw_orders.specs.FileLines.{by_itself, not_by_itself, not_with_others, with_others}
use Rattle.fw_orders.specs.Saying.{act_of}
use Rattle.fw_orders.specs.Reading.{together_of}
use Rattle.fw_orders.proofs.read.read_file_line.Goals as goal

pub returns-in-Ok : goal.returns-in-Ok
returns-in-Ok c = with_others c.in-Some.rest.now c.in-Some.ensures (together_of c.in-Ok.line) c.in-Ok.ensures

pub returns-in-Err : goal.returns-in-Err
returns-in-Err c = not_with_others c.in-Some.rest.now c.in-Some.ensures c.in-Err.ensures

pub returns-in-Ok-read_alone : goal.returns-in-Ok-read_alone
returns-in-Ok-read_alone c = by_itself c.in-None.ensures (act_of c.in-Ok-read_alone.act) c.in-Ok-read_alone.ensures
