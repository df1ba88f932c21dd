use Rattle.fw_orders.proofs.Statuses.{is_status}
use Rattle.fw_orders.proofs.run.print_text.Goals as goal

pub returns-in-Err-clause-statuses : goal.returns-in-Err-clause-statuses
returns-in-Err-clause-statuses g c = is_status c.in-Err.stop c.report.result c.report.ensures.status
