use Rattle.std.proofs.Common.{ap, ◌∙◌}
use Rattle.fuse_spec.specs.Calls.Vfs.{walks_on}
use Rattle.fk_syscalls.specs.Plans.{plan_of}
use Rattle.fuse_spec.specs.Files.Operations.{operation_of}
use Rattle.fk_syscalls.specs.Words.{words_from}
use Rattle.fk_syscalls.proofs.Advances.{renames, links, waits_at_end}
use Rattle.fk_syscalls.proofs.state.walk_finished.Goals as goal

pub returns-in-Last : goal.returns-in-Last
returns-in-Last g c = λ vfs call from walked has arrives.
    ap (λ p. walks_on vfs call from walked
    (plan_of (λ s. s.items) p)) c.in-Last.is ∙ waits_at_end vfs c.args.names.now.names c.args.clock has call walked
    (operation_of (λ s. s.items) c.in-Last.operation) from c.args.node arrives

pub returns-in-Rename : goal.returns-in-Rename
returns-in-Rename g c = λ vfs call from walked has arrives.
    let r = c.in-Rename in
    let more = words_from r.words.items r.at in
    ap (λ p. walks_on vfs call from walked
    (plan_of (λ s. s.items) p)) r.is ∙ renames vfs c.args.names.now.names c.args.clock has call from walked r.old.items more r.new.items c.args.node arrives ∙ c.second_walk.ensures vfs call has

pub returns-in-Link : goal.returns-in-Link
returns-in-Link g c = λ vfs call from walked has arrives.
    let r = c.in-Link in
    let more = words_from r.words.items r.at in
    ap (λ p. walks_on vfs call from walked
    (plan_of (λ s. s.items) p)) r.is ∙ links vfs c.args.names.now.names c.args.clock has call from walked more r.name.items c.args.node arrives ∙ c.second_walk-in-Link.ensures vfs call has
