use Rattle.fuse_spec.specs.Reference.Plain.{first_plain}
use Rattle.fuse_spec.specs.World.Worlds.{first_world}
use Rattle.fuse_theorem.proofs.WholeLists.AllKeeps.{all_keep}
use Rattle.fuse_theorem.proofs.WholeLists.AllRun.{all_run}
use Rattle.fuse_theorem.proofs.WholeLists.AllStaySound.{first_all}
use Rattle.fuse_theorem.proofs.Answers.AnswersStay.{first_sound}
use Rattle.fuse_theorem.proofs.headline.every_list_runs.Goals as goal

pub returns-clause-from_first : goal.returns-clause-from_first
returns-clause-from_first g = λ events records after recorded.
    let run = all_run first_world first_plain first_all first_sound events records after recorded in
    (run.0, run.1, run.2.both.alike, all_keep after run.0 run.2, run.3, run.4)

pub returns-clause-from_any : goal.returns-clause-from_any
returns-clause-from_any g = λ w p all answers events records after recorded.
    let run = all_run w p all answers events records after recorded in
    (run.0, run.1, run.2.both.alike, run.2, run.3, run.4)
