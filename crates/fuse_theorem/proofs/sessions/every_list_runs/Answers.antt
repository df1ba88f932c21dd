use Rattle.fuse_theorem.proofs.OverLinks.SessionsAnswered.{session_answers_once}
use Rattle.fuse_theorem.proofs.OverLinks.SessionsRun.{session_run}
use Rattle.fuse_theorem.proofs.sessions.every_list_runs.Goals as goal

pub returns : goal.returns
returns g = λ s p all answers events records after recorded.
    let run = session_run s p all events records after recorded in (
      run.0,
      run.1,
      run.2.both.alike,
      run.2,
      session_answers_once s all.both.world.rooted answers events records after recorded,
    )
