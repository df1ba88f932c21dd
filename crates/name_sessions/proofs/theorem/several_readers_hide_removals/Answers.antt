use Rattle.name_sessions.proofs.UnsureLaws.{several_are_unsure, stays_unsure}
use Rattle.name_sessions.proofs.theorem.several_readers_hide_removals.Goals as goal

pub returns-clause-several : goal.returns-clause-several
returns-clause-several c = several_are_unsure

pub returns-clause-stays : goal.returns-clause-stays
returns-clause-stays c = stays_unsure
