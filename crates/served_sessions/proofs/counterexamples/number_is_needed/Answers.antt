use Rattle.served_sessions.proofs.NoNumber.{number_is_needed}
use Rattle.served_sessions.proofs.counterexamples.number_is_needed.Goals as goal

pub returns : goal.returns
returns c = number_is_needed
