use Rattle.fuse_spec.specs.Calls.Walks.{last}
use Rattle.fuse_spec.specs.Files.Operations.{operation_of}
use Rattle.fk_syscalls.specs.States.{walking_at}
use Rattle.fk_syscalls.specs.Words.{words_from}
use Rattle.fk_syscalls.proofs.Advances.{root_waits, if_err}
use Rattle.fk_syscalls.proofs.beginning.set_out_again.Goals as goal

pub returns-in_ok-state-in-Some-clause-begun : goal.returns-in_ok-state-in-Some-clause-begun
returns-in_ok-state-in-Some-clause-begun g c = λ vfs call has.
    let words = c.args.words.now in
    let stop = c.in-Some.stop in
    rw c.in_ok-state-in-Some.ensures (root_waits vfs c.args.names.now.names c.args.clock has call
    (words_from words c.args.at) (operation_of (λ s. s.now) c.args.operation) stop.node
    (words_from words stop.at) c.in-Some.ensures.stop)

pub returns-in_err-state-in-Some-clause-out_of_memory : goal.returns-in_err-state-in-Some-clause-out_of_memory
returns-in_err-state-in-Some-clause-out_of_memory g c =
    let words = c.args.words.now in
    let stop = c.in-Some.stop in
    let operation = operation_of (λ s. s.now) c.args.operation in
    if_err c.from_residual.result (λ vfs call has. (
      walking_at stop.node (words_from words stop.at) (last operation),
      root_waits vfs c.args.names.now.names c.args.clock has call (words_from words c.args.at) operation stop.node
          (words_from words stop.at) c.in-Some.ensures.stop,
    ))
