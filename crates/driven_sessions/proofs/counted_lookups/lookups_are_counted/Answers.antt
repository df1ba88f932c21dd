use Rattle.driven_sessions.proofs.Counted.{lookups_are_counted}
use Rattle.driven_sessions.proofs.counted_lookups.lookups_are_counted.Goals as goal

pub returns : goal.returns
returns c = lookups_are_counted
