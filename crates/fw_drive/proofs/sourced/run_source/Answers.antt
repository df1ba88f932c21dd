use Rattle.std.proofs.Common.{[], refl}
use Rattle.driven_sessions.proofs.Rules.{keeps_rules}
use Rattle.fw_drive.proofs.SourceRuns.{halt_among, halt_at_3, halt_quiet, runs_drive, source_ended, source_halted}
use Rattle.fw_drive.proofs.Mounting.{moves_keep_rules}
use Rattle.fw_drive.proofs.StopStatuses.{end_among, end_not_3}
use Rattle.fw_drive.proofs.sourced.run_source.Goals as goal

pub returns-in-Ok-clause-drives : goal.returns-in-Ok-clause-drives
returns-in-Ok-clause-drives g c =
    runs_drive _ g.D.Device.logs c.args.task.form g.S.LineSource.gives g.S.LineSource.is_over c.run_new-ended.result.0
    c.args.device.now c.run_new-ended.new.device c.args.source.now c.run_new-ended.new.source _ _
    c.args.task.opens_directories c.run_new-ended.ensures.0 c.run_new-ended.ensures.1

pub returns-in-Ok-clause-runs : goal.returns-in-Ok-clause-runs
returns-in-Ok-clause-runs g c =
    source_ended _ g.D.Device.logs c.args.task.form g.S.LineSource.gives g.S.LineSource.is_over c.args.task.name.now
    c.args.task.opens_directories c.args.task.is_report_only c.args.device.now c.run_new-ended.new.device
    c.args.source.now c.run_new-ended.new.source (g.W.Write.contents c.args.out.now)
    (g.W.Write.contents c.run_new-ended.new.out, c.run_new-ended.result.1) _ _ _ c.status_at_end.result
    c.run_new-ended.result.0 c.in-Ok.is c.run_new-ended.ensures c.run_new-ended.result.2 c.status_at_end.ensures refl refl

pub returns-in-Ok-clause-statuses : goal.returns-in-Ok-clause-statuses
returns-in-Ok-clause-statuses g c =
    end_among c.args.task.is_report_only c.run_new-ended.result.1 c.status_at_end.result c.status_at_end.ensures

pub returns-in-Ok-clause-no_memory : goal.returns-in-Ok-clause-no_memory
returns-in-Ok-clause-no_memory g c three =
    absurd (end_not_3 c.args.task.is_report_only c.run_new-ended.result.1 c.status_at_end.result c.status_at_end.ensures three)

pub returns-in-Err-clause-statuses : goal.returns-in-Err-clause-statuses
returns-in-Err-clause-statuses g c =
    halt_among g.row.A.Denot c.run_new-ended.result.2 c.args.task.name.now c.args.task.is_report_only [] c.in-Err.halt c.report.result _ _ _ _
    (c.report.ensures c.args.task.is_report_only [])

pub returns-in-Err-clause-no_memory : goal.returns-in-Err-clause-no_memory
returns-in-Err-clause-no_memory g c =
    halt_at_3 g.row.A.Denot c.run_new-ended.result.2 c.args.task.name.now c.args.task.is_report_only [] c.in-Err.halt c.report.result _ _ _ _
    (c.report.ensures c.args.task.is_report_only [])

pub returns-in-Err-clause-no_fault : goal.returns-in-Err-clause-no_fault
returns-in-Err-clause-no_fault g c =
    halt_quiet g.row.A.Denot c.run_new-ended.result.2 c.args.task.name.now c.args.task.is_report_only [] c.in-Err.halt c.report.result _ _ _ _
    (c.report.ensures c.args.task.is_report_only [])

pub returns-in-Err-clause-drives : goal.returns-in-Err-clause-drives
returns-in-Err-clause-drives g c =
    runs_drive _ g.D.Device.logs c.args.task.form g.S.LineSource.gives g.S.LineSource.is_over c.run_new-ended.result.0
    c.args.device.now c.run_new-ended.new.device c.args.source.now c.run_new-ended.new.source _ _
    c.args.task.opens_directories c.run_new-ended.ensures.0 c.run_new-ended.ensures.1

pub returns-in-Err-clause-runs : goal.returns-in-Err-clause-runs
returns-in-Err-clause-runs g c =
    source_halted _ g.D.Device.logs c.args.task.form g.S.LineSource.gives g.S.LineSource.is_over c.args.task.name.now
    c.args.task.opens_directories c.args.task.is_report_only c.args.device.now c.run_new-ended.new.device
    c.args.source.now c.run_new-ended.new.source (g.W.Write.contents c.args.out.now)
    (g.W.Write.contents c.run_new-ended.new.out, c.run_new-ended.result.1) _ _ _ c.report.result
    c.run_new-ended.result.0 c.in-Err.halt c.in-Err.is c.run_new-ended.ensures c.run_new-ended.result.2 c.report.ensures

pub returns-in-Ok-clause-rules : goal.returns-in-Ok-clause-rules
returns-in-Ok-clause-rules g c =
    keeps_rules g.D.Device.logs c.args.device.now c.run_new-ended.new.device c.args.task.opens_directories
    (returns-in-Ok-clause-drives g c)

pub returns-in-Err-clause-rules : goal.returns-in-Err-clause-rules
returns-in-Err-clause-rules g c =
    keeps_rules g.D.Device.logs c.args.device.now c.run_new-ended.new.device c.args.task.opens_directories
    (returns-in-Err-clause-drives g c)

pub returns-in-Ok-clause-rules_of_moves : goal.returns-in-Ok-clause-rules_of_moves
returns-in-Ok-clause-rules_of_moves g c = moves_keep_rules g.row.A.Denot c.args.task.opens_directories

pub returns-in-Err-clause-rules_of_moves : goal.returns-in-Err-clause-rules_of_moves
returns-in-Err-clause-rules_of_moves g c = moves_keep_rules g.row.A.Denot c.args.task.opens_directories
