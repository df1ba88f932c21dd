use Rattle.driven_sessions.proofs.Odd.{odd_numbers_never}
use Rattle.driven_sessions.proofs.never_accused.numbers_are_even.Goals as goal

pub returns : goal.returns
returns c = odd_numbers_never
