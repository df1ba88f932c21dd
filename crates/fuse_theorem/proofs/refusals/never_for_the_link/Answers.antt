use Rattle.fuse_theorem.proofs.RefusalCases.NeverMemory.{never_memory, never_link_lost}
use Rattle.fuse_theorem.proofs.refusals.never_for_the_link.Goals as goal

pub returns-clause-memory : goal.returns-clause-memory
returns-clause-memory g = λ w e r refused. never_memory w e r refused

pub returns-clause-link : goal.returns-clause-link
returns-clause-link g = λ w e r refused. never_link_lost w e r refused
