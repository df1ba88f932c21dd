use Rattle.std.proofs.Common.{rules, ◌≡◌, true, false, ap, ◌∙◌}
use Rattle.std.specs.Prelude.{is_some}
use Rattle.fuse_spec.specs.Kernel.QueueCalls.{waiting, interrupt_effect}
use Rattle.fk_kernel.proofs.Signalled.{once_read, unread_dequeued, current_there}
use Rattle.fk_kernel.proofs.kernel.KernelOf.signal_exceeds.Goals as goal

pub returns-clause-past : goal.returns-clause-past
returns-clause-past g c = λ past.
    let s = c.self.inside.queues.queues in
    let k = c.args.self.now in
    let there = current_there k c.args.call c.args.unique c.requires.current in
    let none : is_some (waiting k.queues c.args.unique) ≡ false = search rules in
    let fatal : c.args.fatal ≡ true = search rules in (
      ap (interrupt_effect k.queues c.args.unique) fatal ∙ unread_dequeued k.queues c.args.unique there none,
      c.unique_overflows.ensures.past past,
    )

pub returns-then-is_some-clause-within : goal.returns-then-is_some-clause-within
returns-then-is_some-clause-within g c = λ past effect.
    let k = c.args.self.now in
    let waits : is_some (waiting k.queues c.args.unique) ≡ true = search rules in
    absurd (once_read k.queues c.args.unique c.args.fatal waits effect)

pub returns-clause-within : goal.returns-clause-within
returns-clause-within g c = λ past effect. c.unique_overflows.ensures.within past
