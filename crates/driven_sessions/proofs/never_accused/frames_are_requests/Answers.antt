use Rattle.driven_sessions.proofs.Shapes.{run_shaped}
use Rattle.driven_sessions.proofs.never_accused.frames_are_requests.Goals as goal

pub returns : goal.returns
returns c = run_shaped
