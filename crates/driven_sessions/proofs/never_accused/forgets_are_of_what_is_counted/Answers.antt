use Rattle.driven_sessions.proofs.LargeForgets.{large_forgets_never}
use Rattle.driven_sessions.proofs.never_accused.forgets_are_of_what_is_counted.Goals as goal

pub returns : goal.returns
returns c = large_forgets_never
