use Rattle.std.proofs.Common.{arith}
use Rattle.fk_syscalls.proofs.FaultlessWords.{words_are}
use Rattle.fk_syscalls.proofs.path.first_word.Goals as goal

pub returns-in-None-clause-left : goal.returns-in-None-clause-left
returns-in-None-clause-left c = words_are c.args.path.now 1 (omega arith) c.in-None.ensures
