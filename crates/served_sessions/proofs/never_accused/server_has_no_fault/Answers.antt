use Rattle.served_sessions.proofs.Never.{server_never}
use Rattle.served_sessions.proofs.never_accused.server_has_no_fault.Goals as goal

pub returns : goal.returns
returns c = server_never
