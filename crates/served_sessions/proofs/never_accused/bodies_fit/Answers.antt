use Rattle.served_sessions.proofs.Never.{bodies_never}
use Rattle.served_sessions.proofs.never_accused.bodies_fit.Goals as goal

pub returns : goal.returns
returns c = bodies_never
