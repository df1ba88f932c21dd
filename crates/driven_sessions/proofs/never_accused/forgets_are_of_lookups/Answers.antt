use Rattle.driven_sessions.proofs.Forgotten.{empty_forgets_never}
use Rattle.driven_sessions.proofs.never_accused.forgets_are_of_lookups.Goals as goal

pub returns : goal.returns
returns c = empty_forgets_never
