use Rattle.driven_sessions.proofs.Several.{one_thread_never}
use Rattle.driven_sessions.proofs.never_accused.readers_are_several.Goals as goal

pub returns : goal.returns
returns c = one_thread_never
