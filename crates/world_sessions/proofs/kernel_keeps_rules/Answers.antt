use Rattle.world_sessions.proofs.Driven.{kernel_rules}
use Rattle.world_sessions.proofs.kernel_keeps_rules.Goals as goal

pub returns : goal.returns
returns c = kernel_rules
