use Rattle.fk_syscalls.proofs.beginning.begin_whole.Goals as goal

pub returns-in-Ok-clause-out_of_memory : goal.returns-in-Ok-clause-out_of_memory
returns-in-Ok-clause-out_of_memory g c = rw c.in-Ok.ensures.words c.start_walk.ensures.out_of_memory
