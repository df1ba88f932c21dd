use Rattle.driven_sessions.proofs.Uncounted.{uncounted_never}
use Rattle.driven_sessions.proofs.never_accused.nodes_are_counted.Goals as goal

pub returns : goal.returns
returns c = uncounted_never
