use Rattle.served_sessions.proofs.Never.{generations_never}
use Rattle.served_sessions.proofs.never_accused.nodes_stay_of_one_generation.Goals as goal

pub returns : goal.returns
returns c = generations_never
