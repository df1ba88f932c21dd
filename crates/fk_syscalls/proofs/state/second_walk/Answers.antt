use Rattle.fuse_spec.specs.Files.Operations.{operation_of}
use Rattle.fk_syscalls.specs.Words.{words_from}
use Rattle.fk_syscalls.proofs.Advances.{root_waits, root_none}
use Rattle.fk_syscalls.proofs.state.second_walk.Goals as goal

pub returns-in-Some : goal.returns-in-Some
returns-in-Some g c = λ vfs call has.
    let words = c.args.words.items in
    let stop = rw c.deref.ensures.value at c.in-Some.ensures.stop in
    root_waits vfs c.args.names.now.names c.args.clock has call (words_from words c.args.at)
    (operation_of (λ s. s.items) c.args.operation) c.in-Some.stop.node (words_from words c.in-Some.stop.at) stop

pub returns-in-None : goal.returns-in-None
returns-in-None g c = λ vfs call has.
    let words = c.args.words.items in
    let stop = rw c.deref.ensures.value at c.in-None.ensures.stop in
    root_none vfs c.args.names.now.names c.args.clock has call (words_from words c.args.at)
    (operation_of (λ s. s.items) c.args.operation) stop
