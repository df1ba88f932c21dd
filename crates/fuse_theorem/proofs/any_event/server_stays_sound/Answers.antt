use Rattle.fuse_theorem.proofs.Nodes.ServerSound.{first_sound, happens_sound, one_id, tables_sound}
use Rattle.fuse_theorem.proofs.any_event.server_stays_sound.Goals as goal

pub returns-clause-at_first : goal.returns-clause-at_first
returns-clause-at_first g = first_sound

pub returns-clause-always : goal.returns-clause-always
returns-clause-always g = λ w sound e o after happens. happens_sound w sound e o after happens

pub returns-clause-tables : goal.returns-clause-tables
returns-clause-tables g = λ s sound. (one_id s.nodes sound.nodes, tables_sound s sound)
