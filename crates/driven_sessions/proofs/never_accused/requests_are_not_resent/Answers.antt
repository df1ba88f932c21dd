use Rattle.driven_sessions.proofs.Low.{resends_never}
use Rattle.driven_sessions.proofs.never_accused.requests_are_not_resent.Goals as goal

pub returns : goal.returns
returns c = resends_never
