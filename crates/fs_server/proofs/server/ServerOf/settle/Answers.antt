use Rattle.fuse_spec.specs.Values.Maps.{get}
use Rattle.fs_files.specs.Replies.{sent_wire}
use Rattle.fs_server.proofs.Copied.{settles}
use Rattle.fs_server.proofs.Stays.{settled, settled_files, unkept_copy}
use Rattle.fs_server.proofs.LookUps.{found}
use Rattle.fs_server.proofs.server.ServerOf.settle.Goals as goal

pub invariant_of-self : goal.invariant_of-self
invariant_of-self g c =
    let s = c.self.inside in
    let k = c.in-Some.sent.now in
    let less = settled s.files s.held.entries s.kept.entries s.copies.entries s.next_copy s.validity c.self.invariant c.args.copy in
    rw (c.remove-settled.ensures.entries, c.drop_kept.ensures)
    (unkept_copy _ _ _ _ _ _ (settled_files _ _ _ _ _ _ less c.settle_files.new.files
    (sent_wire c.reply.result.now) c.args.settled c.settle_files.ensures.settles c.settle_files.ensures.named) k
    (get s.kept.entries k.unique))

pub returns-clause-effect : goal.returns-clause-effect
returns-clause-effect g c =
    let s = c.self.inside in
    let copy = c.in-Some.sent.now in
    let there = found s.copies.entries c.args.copy c.get.ensures c.in-Some.is in
    rw (← c.self.view_is, c.remove-settled.ensures.entries, c.drop_kept.ensures)
    (settles s.files c.settle_files.new.files s.held.entries s.kept.entries s.copies.entries s.next_copy s.validity s.minor s.is_aborted c.args.copy c.args.settled copy there (rw c.reply.ensures c.settle_files.ensures.settles))
