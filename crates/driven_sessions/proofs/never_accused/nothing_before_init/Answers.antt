use Rattle.driven_sessions.proofs.BeforeInit.{early_requests_never}
use Rattle.driven_sessions.proofs.never_accused.nothing_before_init.Goals as goal

pub returns : goal.returns
returns c = early_requests_never
