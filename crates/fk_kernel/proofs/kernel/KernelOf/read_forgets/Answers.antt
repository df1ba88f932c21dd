use Rattle.fk_kernel.proofs.StillSound.{more_queued}
use Rattle.fk_kernel.proofs.Served.{forgets_alike}
use Rattle.fk_kernel.proofs.kernel.KernelOf.read_forgets.Goals as goal

pub invariant_of-self : goal.invariant_of-self
invariant_of-self g c = more_queued c.self.invariant c.read_forgets-read.ensures.state
    (forgets_alike c.self.inside.queues.queues c.args.count) c.read_forgets-read.ensures.room
