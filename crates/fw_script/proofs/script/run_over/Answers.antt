use Rattle.std.proofs.Common.{Bool}
use Rattle.fw_script.specs.Running.{IsEither}
use Rattle.fw_script.specs.Scripts.{IsRunOver}
use Rattle.fw_script.proofs.Ending.{ended_at_1, ended_at_3, ended_at_5, never_4, said_at_3}
use Rattle.fuse_text.proofs.Statuses.{status_over_a_link}
use Rattle.fw_script.proofs.script.run_over.Goals as goal

pub returns-in-Err-clause-statuses : goal.returns-in-Err-clause-statuses
returns-in-Err-clause-statuses g c = rw c.report.ensures.status (status_over_a_link c.in-Err.stop)

pub returns-in-Err-clause-stopped : goal.returns-in-Err-clause-stopped
returns-in-Err-clause-stopped g c =
    rw c.report.ensures.status
    (ended_at_3 Bool (IsEither (IsRunOver _ g.L.Link.carries g.L.Link.failed c.args.link c.args.hex)) (g.R.Read.remaining c.args.input.now) c.in-Err.stop (g.W.Write.contents c.args.out.now) (g.W.Write.contents c.run_input_over.new.out)
    c.in-Err.ensures.ends)

pub returns-in-Err-clause-lost : goal.returns-in-Err-clause-lost
returns-in-Err-clause-lost g c = rw c.report.ensures.status (λ at. absurd (never_4 c.in-Err.stop at))

pub returns-in-Err-clause-refused : goal.returns-in-Err-clause-refused
returns-in-Err-clause-refused g c =
    rw c.report.ensures.status
    (ended_at_5 Bool (IsEither (IsRunOver _ g.L.Link.carries g.L.Link.failed c.args.link c.args.hex)) (g.R.Read.remaining c.args.input.now) c.in-Err.stop (g.W.Write.contents c.args.out.now) (g.W.Write.contents c.run_input_over.new.out)
    c.in-Err.ensures.ends)

pub returns-in-Err-clause-no_memory : goal.returns-in-Err-clause-no_memory
returns-in-Err-clause-no_memory g c =
    rw c.report.ensures.status
    (said_at_3 c.args.name.now c.in-Err.stop (g.F.Write.contents c.args.faults.now) (g.F.Write.contents c.report.new.faults)
    c.report.ensures.said)

pub returns-in-Err-clause-fault : goal.returns-in-Err-clause-fault
returns-in-Err-clause-fault g c =
    rw c.report.ensures.status
    (ended_at_1 Bool (IsEither (IsRunOver _ g.L.Link.carries g.L.Link.failed c.args.link c.args.hex)) c.args.name.now (g.R.Read.remaining c.args.input.now) c.in-Err.stop (g.W.Write.contents c.args.out.now) (g.W.Write.contents c.run_input_over.new.out)
    (g.F.Write.contents c.args.faults.now) (g.F.Write.contents c.report.new.faults) c.in-Err.ensures.ends c.report.ensures.said)
