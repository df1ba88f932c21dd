use Rattle.driven_sessions.proofs.CountedOnly.{lookups_are_the_same}
use Rattle.driven_sessions.proofs.counted_lookups.lookups_are_the_same.Goals as goal

pub returns : goal.returns
returns c = lookups_are_the_same
