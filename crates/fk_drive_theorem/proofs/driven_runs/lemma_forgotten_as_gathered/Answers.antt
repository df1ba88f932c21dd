use Rattle.fk_drive_theorem.proofs.RunsTally.{accepted_says, run_forgets, said_is}
use Rattle.fk_drive_theorem.proofs.driven_runs.lemma_forgotten_as_gathered.Goals as goal

pub returns-clause-forgets : goal.returns-clause-forgets
returns-clause-forgets g = λ asks log new run id low. run_forgets id low asks log new run

pub returns-clause-says : goal.returns-clause-says
returns-clause-says g = λ old bytes new taken opcode is none. accepted_says old bytes new taken opcode is none

pub returns-clause-said : goal.returns-clause-said
returns-clause-said g = λ opcode bytes wire says. said_is opcode bytes wire says
