use Rattle.world_sessions.proofs.Resting.{counts_as_both}
use Rattle.world_sessions.proofs.counts_at_rest.Goals as goal

pub returns : goal.returns
returns c = counts_as_both
