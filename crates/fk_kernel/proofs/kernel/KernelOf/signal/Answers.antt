use Rattle.std.proofs.Common.{◌≡◌, ap, sym, ◌∙◌}
use Rattle.fuse_spec.specs.declared.IntrEffect.{IntrEffect}
use Rattle.fuse_spec.specs.declared.IntrEffect.TheVariants.{Dequeued}
use Rattle.fuse_spec.specs.Kernel.QueueCalls.{interrupt_effect, after_effect}
use Rattle.fk_kernel.proofs.Served.{fewer_signalled, none_dequeued}
use Rattle.fk_kernel.proofs.StillSound.{more_queued}
use Rattle.fk_kernel.proofs.kernel.KernelOf.signal.Goals as goal

pub invariant_of-self : goal.invariant_of-self
invariant_of-self g c = more_queued c.self.invariant c.interrupt-effect.ensures.state
    (fewer_signalled c.self.inside.queues.queues c.args.unique c.args.fatal) c.interrupt-effect.ensures.room

pub invariant_of-self-else-is_interrupted : goal.invariant_of-self-else-is_interrupted
invariant_of-self-else-is_interrupted g c = more_queued c.self.invariant c.interrupt-effect.ensures.state
    (fewer_signalled c.self.inside.queues.queues c.args.unique c.args.fatal) c.interrupt-effect.ensures.room

pub finish_use-requires-clause-within : goal.finish_use-requires-clause-within
finish_use-requires-clause-within g c = λ open_call operation at closed idle.
    let s = c.self.inside.queues.queues in
    let effect : interrupt_effect s c.args.unique c.args.fatal ≡ Dequeued =
    sym c.interrupt-effect.ensures.effect ∙ c.is_interrupted.ensures.0 c.if-is_interrupted.true in
    let next = ap (λ (e : IntrEffect). (after_effect s c.args.unique e).next) effect in
    let within = rw (← c.self.view_is) at c.requires.within in
    rw (c.interrupt-effect.ensures.state, next) (within effect open_call operation at closed idle)

pub finish_use-requires-clause-ended : goal.finish_use-requires-clause-ended
finish_use-requires-clause-ended g c =
    let s = c.self.inside.queues.queues in
    let effect : interrupt_effect s c.args.unique c.args.fatal ≡ Dequeued =
    sym c.interrupt-effect.ensures.effect ∙ c.is_interrupted.ensures.0 c.if-is_interrupted.true in
    let first = rw (← c.self.view_is) at c.requires.current in
    rw c.interrupt-effect.ensures.state
    (none_dequeued c.self.invariant.served c.args.unique c.args.call c.args.fatal c.lemma_sound.ensures.sound effect
    first)
