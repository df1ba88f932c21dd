use Rattle.fuse_spec.specs.Calls.Begins.{sets_out, parent_path}
use Rattle.fuse_spec.specs.Calls.Walks.{rename}
use Rattle.fk_syscalls.specs.Words.{words_from}
use Rattle.fk_syscalls.proofs.beginning.begin_rename.Goals as goal

pub returns-clause-out_of_memory : goal.returns-clause-out_of_memory
returns-clause-out_of_memory g c =
    let from = c.in-Ok.from in
    rw (
      c.in-Ok.ensures.parts (λ words from. parent_path c.args.new.now
          (λ more to. sets_out words (rename from more to))),
      c.in-Ok-parent_of.ensures.parts (λ more to. sets_out (words_from from.words.now from.at)
          (rename from.name.now more to)),
    ) c.start_walk.ensures.out_of_memory
