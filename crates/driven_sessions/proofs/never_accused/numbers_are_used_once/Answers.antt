use Rattle.driven_sessions.proofs.Never.{used_numbers_never}
use Rattle.driven_sessions.proofs.never_accused.numbers_are_used_once.Goals as goal

pub returns : goal.returns
returns c = used_numbers_never
