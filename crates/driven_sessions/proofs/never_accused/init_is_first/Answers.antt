use Rattle.driven_sessions.proofs.Late.{late_inits_never}
use Rattle.driven_sessions.proofs.never_accused.init_is_first.Goals as goal

pub returns : goal.returns
returns c = late_inits_never
