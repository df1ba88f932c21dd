use Rattle.std.proofs.Common.{◌∙◌}
use Rattle.fk_opens.proofs.Pins.{is_pinned_is}
use Rattle.fk_queues.proofs.Releases.{is_releasing_is}
use Rattle.fk_queues.proofs.kernel_queues.KernelQueues.is_releasing.Goals as goal

pub returns : goal.returns
returns g c =
    let es = (g.Q.QueueTable.state c.self.inside.queues).requests in
    rw (← c.self.view_is)
    (c.has.ensures ∙ is_pinned_is c.self.invariant.pinned c.args.node ∙ is_releasing_is es c.args.node)
