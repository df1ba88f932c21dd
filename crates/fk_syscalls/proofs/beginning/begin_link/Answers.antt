use Rattle.fuse_spec.specs.Calls.Begins.{sets_out}
use Rattle.fuse_spec.specs.Calls.Walks.{link}
use Rattle.fk_syscalls.specs.Words.{words_from}
use Rattle.fk_syscalls.proofs.beginning.begin_link.Goals as goal

pub returns-clause-out_of_memory : goal.returns-clause-out_of_memory
returns-clause-out_of_memory g c = rw (
  c.in-Ok.ensures.words,
  c.in-Ok-parent_of.ensures.parts (λ more name. sets_out (words_from c.args.old.now c.in-Ok.at)
      (link more name)),
) c.start_walk.ensures.out_of_memory
