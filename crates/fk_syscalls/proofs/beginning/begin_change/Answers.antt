use Rattle.fuse_spec.specs.Calls.Begins.{sets_out}
use Rattle.fuse_spec.specs.Calls.Walks.{last}
use Rattle.fk_syscalls.specs.Values.{changes}
use Rattle.fk_syscalls.proofs.beginning.begin_change.Goals as goal

pub returns-in-Ok-clause-out_of_memory : goal.returns-in-Ok-clause-out_of_memory
returns-in-Ok-clause-out_of_memory g c = rw (
  c.in-Ok.ensures.parts
      (λ words name. sets_out words (last (changes c.args.change name))),
  ← c.of_name.ensures.operation,
) c.start_walk.ensures.out_of_memory
