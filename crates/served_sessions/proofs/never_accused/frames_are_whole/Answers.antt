use Rattle.served_sessions.proofs.Never.{heads_never}
use Rattle.served_sessions.proofs.never_accused.frames_are_whole.Goals as goal

pub returns : goal.returns
returns c = heads_never
