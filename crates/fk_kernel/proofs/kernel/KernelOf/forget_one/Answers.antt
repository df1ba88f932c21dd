use Rattle.std.proofs.Common.{refl}
use Rattle.fk_kernel.proofs.StillSound.{more_room, forget_queued}
use Rattle.fk_kernel.proofs.kernel.KernelOf.forget_one.Goals as goal

pub invariant_of-self : goal.invariant_of-self
invariant_of-self g c = rw c.reserve_forgets.ensures.state (more_room c.self.invariant c.reserve_forgets.ensures.kept)

pub invariant_of-self-2 : goal.invariant_of-self-2
invariant_of-self-2 g c = rw (c.forget.ensures.state, c.reserve_forgets.ensures.state)
    (forget_queued c.self.invariant c.args.node 1 c.reserve_forgets.ensures.kept
    c.in_ok-reserve_forgets.ensures.room c.forget.ensures.requests_room c.forget.ensures.forgets_room)

pub returns-clause-ok : goal.returns-clause-ok
returns-clause-ok g c = rw (← c.self.view_is, c.forget.ensures.state, c.reserve_forgets.ensures.state) refl
