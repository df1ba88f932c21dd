use Rattle.std.proofs.Common.{◌≡◌, Some}
use Rattle.fuse_spec.specs.Kernel.QueueCalls.{waiting}
use Rattle.fk_kernel.proofs.StillSound.{more_queued}
use Rattle.fuse_spec.specs.declared.Purpose.TheVariants.{Call}
use Rattle.fk_kernel.proofs.Served.{fewer_answered, none_answered}
use Rattle.fk_kernel.proofs.kernel.KernelOf.answer_call.Goals as goal

pub invariant_of-self : goal.invariant_of-self
invariant_of-self g c = more_queued c.self.invariant c.answer-kept.ensures.state (fewer_answered _ _)
    c.answer-kept.ensures.room

pub finish-requires-clause-ended : goal.finish-requires-clause-ended
finish-requires-clause-ended g c =
    let waits : waiting c.self.inside.queues.queues c.args.unique ≡ Some (Call c.args.call) =
    rw (← c.self.view_is) at c.requires.waits in
    rw c.answer-kept.ensures.state (none_answered c.self.invariant.served c.args.unique c.args.call waits)
