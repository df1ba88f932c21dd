use Rattle.fuse_theorem.proofs.Lookups.LookupsStay.{first_lookups, lookups_stay, known_held}
use Rattle.fuse_theorem.proofs.any_event.lookups_stay_balanced.Goals as goal

pub returns-clause-at_first : goal.returns-clause-at_first
returns-clause-at_first g = first_lookups

pub returns-clause-always : goal.returns-clause-always
returns-clause-always g = λ w sound e o after happens. lookups_stay w sound e o after happens

pub returns-clause-known : goal.returns-clause-known
returns-clause-known g = λ w sound. known_held w sound
