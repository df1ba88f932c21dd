use Rattle.std.proofs.Common.{◌≡◌, true, Some, ap}
use Rattle.std.specs.Prelude.{is_some}
use Rattle.fuse_spec.specs.Kernel.QueueCalls.{waiting}
use Rattle.fk_kernel.proofs.Nodes.{answered_is}
use Rattle.fk_kernel.proofs.StillSound.{more_queued}
use Rattle.fuse_spec.specs.declared.Purpose.TheVariants.{Call}
use Rattle.fk_kernel.proofs.Served.{fewer_answered, none_answered}
use Rattle.fk_kernel.proofs.kernel.KernelOf.end_call.Goals as goal

pub invariant_of-self : goal.invariant_of-self
invariant_of-self g c = more_queued c.self.invariant c.answer-kept.ensures.state (fewer_answered _ _)
    c.answer-kept.ensures.room

pub finish_use-requires-clause-ended : goal.finish_use-requires-clause-ended
finish_use-requires-clause-ended g c =
    let waits : waiting c.self.inside.queues.queues c.args.unique ≡ Some (Call c.args.call) =
    rw (← c.self.view_is) at c.requires.waits in
    rw c.answer-kept.ensures.state (none_answered c.self.invariant.served c.args.unique c.args.call waits)

pub finish_use-requires-clause-within : goal.finish_use-requires-clause-within
finish_use-requires-clause-within g c = λ open_call operation at closed idle.
    let s = c.self.inside.queues.queues in
    let waits : is_some (waiting s c.args.unique) ≡ true = rw (← c.self.view_is) at (ap is_some c.requires.waits) in
    let within = rw (← c.self.view_is) at c.requires.within in
    rw (c.answer-kept.ensures.state, answered_is s c.args.unique waits) (within open_call operation at closed idle)
