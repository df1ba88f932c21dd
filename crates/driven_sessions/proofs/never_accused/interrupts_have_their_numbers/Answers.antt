use Rattle.driven_sessions.proofs.Single.{interrupt_numbers_never}
use Rattle.driven_sessions.proofs.never_accused.interrupts_have_their_numbers.Goals as goal

pub returns : goal.returns
returns c = interrupt_numbers_never
