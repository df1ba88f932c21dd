use Rattle.served_sessions.proofs.Never.{flags_never}
use Rattle.served_sessions.proofs.never_accused.flags_are_offered.Goals as goal

pub returns : goal.returns
returns c = flags_never
