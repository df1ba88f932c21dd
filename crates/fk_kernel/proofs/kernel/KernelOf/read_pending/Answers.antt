use Rattle.fk_kernel.proofs.StillSound.{more_queued}
use Rattle.fk_kernel.proofs.Served.{read_alike}
use Rattle.fk_kernel.proofs.kernel.KernelOf.read_pending.Goals as goal

pub invariant_of-self : goal.invariant_of-self
invariant_of-self g c = more_queued c.self.invariant c.read_pending-unique.ensures.state (read_alike _ _)
    c.read_pending-unique.ensures.room
