use Rattle.served_sessions.proofs.Exchanged.{exchanges}
use Rattle.served_sessions.proofs.never_accused.served_in_exchanges.Goals as goal

pub returns : goal.returns
returns c = exchanges
