use Rattle.std.proofs.Common.{refl}
use Rattle.fuse_spec.specs.Values.Numbers.{eagain}
use Rattle.fuse_spec.specs.Files.Operations.{failed}
use Rattle.fs_server.proofs.Stays.{sent_again}
use Rattle.fs_server.proofs.server.ServerOf.ask_again.Goals as goal

pub invariant_of-self-2 : goal.invariant_of-self-2
invariant_of-self-2 g c =
    let s = c.self.inside in
    let low = rw (← c.self.view_is) at c.requires in
    rw (c.put.ensures.entries, c.in-Ok.ensures.entries)
    (sent_again s.files s.held.entries s.kept.entries s.copies.entries s.next_copy s.validity c.self.invariant s.files
    (failed eagain) c.new-3.result refl refl c.self.invariant.below low refl)
