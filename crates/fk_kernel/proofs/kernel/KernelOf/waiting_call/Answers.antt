use Rattle.std.proofs.Common.{◌≡◌, Some, ap, sym, ◌∙◌}
use Rattle.std.specs.Prelude.{is_some}
use Rattle.fuse_spec.specs.Kernel.QueueCalls.{waiting}
use Rattle.fuse_spec.specs.declared.Purpose.TheVariants.{Call}
use Rattle.fk_kernel.proofs.Evicted.{copied_is}
use Rattle.fk_kernel.proofs.Served.{read_unanswered}
use Rattle.fk_kernel.proofs.kernel.KernelOf.waiting_call.Goals as goal

pub unwrap-requires : goal.unwrap-requires
unwrap-requires g c =
    let waits : waiting c.self.inside.queues.queues c.requires.waits.0 ≡ Some (Call c.args.call) =
    rw (← c.self.view_is) at c.requires.waits.1 in
    sym (copied_is c.get.result) ∙ ap is_some c.get.ensures
    ∙ read_unanswered c.self.invariant.served c.requires.waits.0 c.args.call waits
