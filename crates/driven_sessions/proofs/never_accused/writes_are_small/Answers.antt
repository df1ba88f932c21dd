use Rattle.driven_sessions.proofs.Large.{large_writes_never}
use Rattle.driven_sessions.proofs.never_accused.writes_are_small.Goals as goal

pub returns : goal.returns
returns c = large_writes_never
