use Rattle.fs_files.specs.Replies.{sent_wire}
use Rattle.fs_server.proofs.Copied.{counts_so}
use Rattle.fs_server.proofs.Stays.{sent_again, used_most}
use Rattle.fs_server.proofs.LookUps.{found}
use Rattle.fs_server.proofs.server.ServerOf.send_again.Goals as goal

pub count_again-requires-clause-counts : goal.count_again-requires-clause-counts
count_again-requires-clause-counts g c =
    let s = c.self.inside in
    let k = c.in-Some.kept.now in
    let there = found s.kept.entries c.args.unique c.get.ensures c.in-Some.is in
    let can = rw (← c.self.view_is) at c.requires in
    counts_so s.files s.held.entries s.kept.entries s.copies.entries s.next_copy s.validity s.minor s.is_aborted c.args.unique k there (sent_wire c.reply-reply.result.now) c.reply-reply.ensures.wire can

pub invariant_of-self-2 : goal.invariant_of-self-2
invariant_of-self-2 g c =
    let s = c.self.inside in
    let can = rw (← c.self.view_is) at c.requires in
    let one = c.count_again.ensures in
    rw (c.put.ensures.entries, c.in_ok-reserve.ensures.entries)
    (sent_again s.files s.held.entries s.kept.entries s.copies.entries s.next_copy s.validity c.self.invariant c.count_again.new.files (sent_wire c.reply-reply.result.now) c.new-sent.result one.nodes one.handles one.below can.number one.tree)

pub count_again-requires-clause-used : goal.count_again-requires-clause-used
count_again-requires-clause-used g c =
    used_most c.self.inside.next_copy c.self.inside.files.handles c.self.invariant.numbers c.self.invariant.used

pub invariant_of-self : goal.invariant_of-self
invariant_of-self g c = rw c.reserve.ensures.entries c.self.invariant

pub invariant_of-self-in_err-room : goal.invariant_of-self-in_err-room
invariant_of-self-in_err-room g c = rw c.reserve.ensures.entries c.self.invariant

pub invariant_of-self-in_err-spare : goal.invariant_of-self-in_err-spare
invariant_of-self-in_err-spare g c = rw c.reserve.ensures.entries c.self.invariant
