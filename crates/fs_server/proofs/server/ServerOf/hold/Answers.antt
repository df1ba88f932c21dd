use Rattle.fs_server.proofs.Stays.{taken}
use Rattle.fs_server.proofs.server.ServerOf.hold.Goals as goal

pub invariant_of-self-then-len-gt1 : goal.invariant_of-self-then-len-gt1
invariant_of-self-then-len-gt1 g c =
    let s = c.self.inside in
    let right = rw (← c.self.view_is) at c.requires.faultless in
    rw (c.set_aside.ensures.entries, c.put.ensures.entries, c.in-Ok.ensures.kept, c.in-Ok.ensures.held)
    (taken s.files s.held.entries s.kept.entries s.copies.entries s.next_copy s.validity c.self.invariant c.args.request.now.unique c.in-Ok-held_request.held right.unkept)

pub invariant_of-self-else-len-gt1 : goal.invariant_of-self-else-len-gt1
invariant_of-self-else-len-gt1 g c =
    let s = c.self.inside in
    let right = rw (← c.self.view_is) at c.requires.faultless in
    rw (c.put.ensures.entries, c.in-Ok.ensures.kept, c.in-Ok.ensures.held)
    (taken s.files s.held.entries s.kept.entries s.copies.entries s.next_copy s.validity c.self.invariant c.args.request.now.unique c.in-Ok-held_request.held right.unkept)
