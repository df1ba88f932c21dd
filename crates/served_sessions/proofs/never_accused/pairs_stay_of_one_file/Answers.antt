use Rattle.served_sessions.proofs.Never.{pairs_never}
use Rattle.served_sessions.proofs.never_accused.pairs_stay_of_one_file.Goals as goal

pub returns : goal.returns
returns c = pairs_never
