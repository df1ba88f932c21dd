use Rattle.fs_server.proofs.Stays.{lost}
use Rattle.fs_server.proofs.server.ServerOf.connection_lost.Goals as goal

pub invariant_of-self : goal.invariant_of-self
invariant_of-self g c =
    let s = c.self.inside in
    rw (c.clear.ensures.entries, c.clear-2.ensures.entries)
    (lost s.files s.held.entries s.kept.entries s.copies.entries s.next_copy s.validity c.self.invariant)
