use Rattle.driven_sessions.proofs.Malformed.{shapes_never}
use Rattle.driven_sessions.proofs.never_accused.requests_are_whole.Goals as goal

pub returns : goal.returns
returns c = shapes_never
