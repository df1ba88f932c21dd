use Rattle.served_sessions.proofs.Never.{counts_never}
use Rattle.served_sessions.proofs.never_accused.no_more_is_counted.Goals as goal

pub returns : goal.returns
returns c = counts_never
