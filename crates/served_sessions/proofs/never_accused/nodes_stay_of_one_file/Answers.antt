use Rattle.served_sessions.proofs.Never.{files_never}
use Rattle.served_sessions.proofs.never_accused.nodes_stay_of_one_file.Goals as goal

pub returns : goal.returns
returns c = files_never
