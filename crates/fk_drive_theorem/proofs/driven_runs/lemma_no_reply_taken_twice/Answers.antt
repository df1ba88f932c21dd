use Rattle.fk_drive_theorem.proofs.RunsTake.{run_none_again, run_takes_once}
use Rattle.fk_drive_theorem.proofs.driven_runs.lemma_no_reply_taken_twice.Goals as goal

pub returns-clause-none_again : goal.returns-clause-none_again
returns-clause-none_again g = λ old log new run no_mount. run_none_again old log new run no_mount

pub returns-clause-twice : goal.returns-clause-twice
returns-clause-twice g = λ asks before old first number mid takes log new run no_mount.
    run_takes_once asks before old first number mid takes log new run no_mount
