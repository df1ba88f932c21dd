use Rattle.std.proofs.Common.{sym, subst, ◌∙◌}
use Rattle.fs_files.specs.Bounds.{AreHeldBelow}
use Rattle.fs_files.specs.Replies.{sent_wire}
use Rattle.fs_server.proofs.Refused.{not_kept}
use Rattle.fs_server.proofs.Copied.{names_gone, counted_out, counts_in, without_number, can_send}
use Rattle.fs_server.proofs.LookUps.{found, missing}
use Rattle.fs_server.proofs.server.ServerOf.again_refusal.Goals as goal

pub returns-in_default-clause-refuses : goal.returns-in_default-clause-refuses
returns-in_default-clause-refuses g c =
    let s = c.self.inside in
    let none = missing s.kept.entries c.args.unique c.get.ensures c.in_default.is in
    rw (← c.self.view_is) (not_kept _ _ none)

pub returns-then-not-is_current-clause-refuses : goal.returns-then-not-is_current-clause-refuses
returns-then-not-is_current-clause-refuses g c =
    let s = c.self.inside in
    let k = c.in-Some.kept.now in
    let there = found s.kept.entries c.args.unique c.get.ensures c.in-Some.is in
    rw (← c.self.view_is)
    (names_gone s.files s.held.entries s.kept.entries s.copies.entries s.next_copy s.validity s.minor s.is_aborted c.args.unique k there (sent_wire c.reply-reply.result.now) c.reply-reply.ensures.wire (sym c.if-not-is_current.true ∙ c.is_current.ensures))

pub counts_out_again-requires : goal.counts_out_again-requires
counts_out_again-requires g c = subst AreHeldBelow (sym c.nodes.ensures) c.self.invariant.below

pub returns-then-counts_out_again-clause-refuses : goal.returns-then-counts_out_again-clause-refuses
returns-then-counts_out_again-clause-refuses g c =
    let s = c.self.inside in
    let k = c.in-Some.kept.now in
    let there = found s.kept.entries c.args.unique c.get.ensures c.in-Some.is in
    rw (← c.self.view_is)
    (counted_out s.files s.held.entries s.kept.entries s.copies.entries s.next_copy s.validity s.minor s.is_aborted c.args.unique k there (sent_wire c.reply-reply.result.now) c.reply-reply.ensures.wire (sym c.if-not-is_current.false ∙ c.is_current.ensures)
    (sym c.if-counts_out_again.true ∙ counts_in c.nodes.ensures c.file_entries.ensures c.counts_out_again.ensures))

pub returns-then-self-ge-COUNTER_END-clause-refuses : goal.returns-then-self-ge-COUNTER_END-clause-refuses
returns-then-self-ge-COUNTER_END-clause-refuses g c =
    let s = c.self.inside in
    let k = c.in-Some.kept.now in
    let there = found s.kept.entries c.args.unique c.get.ensures c.in-Some.is in
    rw (← c.self.view_is)
    (without_number s.files s.held.entries s.kept.entries s.copies.entries s.next_copy s.validity s.minor s.is_aborted c.args.unique k there (sent_wire c.reply-reply.result.now) c.reply-reply.ensures.wire (sym c.if-not-is_current.false ∙ c.is_current.ensures)
    c.if-self-ge-COUNTER_END.true)

pub returns-clause-none : goal.returns-clause-none
returns-clause-none g c =
    let s = c.self.inside in
    let k = c.in-Some.kept.now in
    let there = found s.kept.entries c.args.unique c.get.ensures c.in-Some.is in
    rw (← c.self.view_is)
    (can_send s.files s.held.entries s.kept.entries s.copies.entries s.next_copy s.validity s.minor s.is_aborted c.args.unique k there (sent_wire c.reply-reply.result.now) c.reply-reply.ensures.wire (sym c.if-not-is_current.false ∙ c.is_current.ensures)
    (sym c.if-counts_out_again.false ∙ counts_in c.nodes.ensures c.file_entries.ensures c.counts_out_again.ensures) c.if-self-ge-COUNTER_END.false)
