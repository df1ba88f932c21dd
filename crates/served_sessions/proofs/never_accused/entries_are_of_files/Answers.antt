use Rattle.served_sessions.proofs.Never.{entries_never}
use Rattle.served_sessions.proofs.never_accused.entries_are_of_files.Goals as goal

pub returns : goal.returns
returns c = entries_never
