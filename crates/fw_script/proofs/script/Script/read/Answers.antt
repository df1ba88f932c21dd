use Rattle.fw_script.proofs.Ending.{said_at_3, unread_at_1, unread_status}
use Rattle.fuse_text.proofs.Statuses.{status_of_reading}
use Rattle.fw_script.proofs.script.Script.read.Goals as goal

pub returns-in-Err-clause-statuses : goal.returns-in-Err-clause-statuses
returns-in-Err-clause-statuses g c =
    rw c.report.ensures.status
    (status_of_reading c.in-Err.stop
    (unread_status (g.R.Read.remaining c.args.input.now) c.in-Err.stop c.in-Err.ensures.refused))

pub returns-in-Err-clause-fault : goal.returns-in-Err-clause-fault
returns-in-Err-clause-fault g c =
    rw c.report.ensures.status
    (unread_at_1 c.args.name.now (g.R.Read.remaining c.args.input.now) c.in-Err.stop
    (g.F.Write.contents c.args.faults.now) (g.F.Write.contents c.report.new.faults) c.in-Err.ensures.refused
    c.report.ensures.said)

pub returns-in-Err-clause-no_memory : goal.returns-in-Err-clause-no_memory
returns-in-Err-clause-no_memory g c =
    rw c.report.ensures.status
    (said_at_3 c.args.name.now c.in-Err.stop (g.F.Write.contents c.args.faults.now) (g.F.Write.contents c.report.new.faults)
    c.report.ensures.said)
