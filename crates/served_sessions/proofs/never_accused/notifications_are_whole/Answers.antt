use Rattle.served_sessions.proofs.Never.{notices_never}
use Rattle.served_sessions.proofs.never_accused.notifications_are_whole.Goals as goal

pub returns : goal.returns
returns c = notices_never
