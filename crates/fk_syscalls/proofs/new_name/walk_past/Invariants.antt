use Rattle.std.proofs.Common.{◌≡◌}
use Rattle.fuse_spec.specs.Calls.Walks.{go}
use Rattle.fk_syscalls.specs.NewNames.{with_new_name}
use Rattle.fk_syscalls.specs.Words.{words_from, AreWords}
use Rattle.fk_syscalls.specs.Walks.{known}
use Rattle.fk_syscalls.proofs.BytesLeft.{bytes_left}
use Rattle.fk_syscalls.proofs.new_name.walk_past.Given as goal

abbrev pub invariant-loop-stop : goal.invariant-loop-stop
invariant-loop-stop g l = record {
  left : AreWords l.words l.stop.at;
  walked : go (known (with_new_name l.names.names l.new) l.clock) l.from (words_from l.words l.fn.at)
      ≡ go (known (with_new_name l.names.names l.new) l.clock) l.stop.node (words_from l.words l.stop.at);
}

abbrev pub decreases-loop-stop : goal.decreases-loop-stop
decreases-loop-stop g l = bytes_left l.words l.stop.at
