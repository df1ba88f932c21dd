use Rattle.fuse_theorem.proofs.WholeLists.WorldSound.{first_world_sound, worlds_stay, needs_met}
use Rattle.fuse_theorem.proofs.any_event.worlds_stay_sound.Goals as goal

pub returns-clause-at_first : goal.returns-clause-at_first
returns-clause-at_first g = first_world_sound

pub returns-clause-always : goal.returns-clause-always
returns-clause-always g = λ w sound e o after happens. worlds_stay w sound e o after happens

pub returns-clause-needs : goal.returns-clause-needs
returns-clause-needs g = λ w sound choice p e no_more. needs_met w sound choice p e no_more
