use Rattle.served_sessions.proofs.Never.{numbers_never}
use Rattle.served_sessions.proofs.never_accused.replies_are_awaited.Goals as goal

pub returns : goal.returns
returns c = numbers_never
