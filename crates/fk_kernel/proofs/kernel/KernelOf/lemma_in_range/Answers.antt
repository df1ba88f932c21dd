use Rattle.fk_kernel.proofs.Phases.{none_past_end}
use Rattle.fk_kernel.proofs.kernel.KernelOf.lemma_in_range.Goals as goal

pub returns : goal.returns
returns g c =
    let queues = c.lemma_sound.ensures.sound in
    rw (← c.self.view_is) (none_past_end
    c.self.inside.queues.queues.next c.self.inside.next_call queues.next.high c.self.invariant.numbers.next)
