use Rattle.fk_drive_theorem.proofs.RunsAnswer.{run_once, run_collected}
use Rattle.fk_drive_theorem.proofs.driven_runs.lemma_each_call_answered_once.Goals as goal

pub returns-clause-once : goal.returns-clause-once
returns-clause-once g = λ old log new run. run_once old log new run

pub returns-clause-collected : goal.returns-clause-collected
returns-clause-collected g = λ old log new run call low none collected.
    run_collected old log new run call low none collected
