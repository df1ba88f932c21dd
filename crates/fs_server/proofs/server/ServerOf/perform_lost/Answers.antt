use Rattle.std.proofs.Common.{◌≡◌, true, ◌∙◌}
use Rattle.fs_files.specs.Replies.{outcome_reply}
use Rattle.fs_server.proofs.Served.{counts_of, numbers_of, performs_lost}
use Rattle.fs_server.proofs.Outcomes.{errno_said}
use Rattle.fs_server.proofs.Stays as stays
use Rattle.fs_server.proofs.DiscardsUnheld.{but_said}
use Rattle.fs_server.proofs.LookUps.{found}
use Rattle.fs_server.proofs.server.ServerOf.perform_lost.Goals as goal

pub invariant_of-self-2 : goal.invariant_of-self-2
invariant_of-self-2 g c =
    let s = c.self.inside in
    rw c.remove-lost.ensures.entries
    (stays.performed_lost s.files s.held.entries s.kept.entries s.copies.entries s.next_copy s.validity c.self.invariant c.in-Some.held.now c.args.unique c.answer.new.self c.discard_unheld.new.self c.in_ok-outcome.ensures.handles
    c.answer.ensures.nodes c.discard_unheld.ensures.nodes c.discard_unheld.ensures.handles c.discard_unheld.ensures.named)

pub returns-clause-performed : goal.returns-clause-performed
returns-clause-performed g c =
    let s = c.self.inside in
    let h = c.in-Some.held.now in
    let there = found s.held.entries c.args.unique c.get.ensures c.in-Some.is in
    let gone : s.is_aborted ≡ true = rw (← c.self.view_is) at c.requires.aborted in
    let can = rw (← c.self.view_is, gone) at c.requires.can in
    let none = counts_of s.files s.held.entries s.kept.entries s.copies.entries s.next_copy s.validity s.minor c.args.unique h there true can in
    rw (← c.self.view_is, c.remove-lost.ensures.entries, gone)
    (performs_lost s.files s.held.entries s.kept.entries s.copies.entries s.next_copy s.validity s.minor c.args.unique h there c.answer.new.self c.discard_unheld.new.self (outcome_reply s.validity.found_ms c.in_ok-outcome.outcome) c.errno.result none
    c.in_ok-outcome.ensures.tree c.in_ok-outcome.ensures.handles c.answer.ensures.nodes c.in_ok-outcome.ensures.says
    (c.discard_unheld.ensures.tree s.validity) c.discard_unheld.ensures.nodes c.discard_unheld.ensures.handles
    (c.errno.ensures ∙ errno_said s.validity.found_ms c.in_ok-outcome.outcome))

pub discard_unheld-requires : goal.discard_unheld-requires
discard_unheld-requires g c =
    let s = c.self.inside in
    but_said c.unlinked_or_released-file.result s.files c.answer.new.self s.validity s.minor c.in-Some.held.now
    (c.unlinked_or_released-file.ensures.others s.validity s.minor c.self.invariant.named) c.in_ok-outcome.ensures.tree c.in_ok-outcome.ensures.handles c.answer.ensures.nodes

pub answer-requires-clause-inodes : goal.answer-requires-clause-inodes
answer-requires-clause-inodes g c =
    let s = c.self.inside in
    let h = c.in-Some.held.now in
    let there = found s.held.entries c.args.unique c.get.ensures c.in-Some.is in
    let gone : s.is_aborted ≡ true = rw (← c.self.view_is) at c.requires.aborted in
    let can = rw (← c.self.view_is, gone) at c.requires.can in
    (numbers_of s.files s.held.entries s.kept.entries s.copies.entries s.next_copy s.validity s.minor c.args.unique h there true can).inodes

pub answer-requires-clause-cookies : goal.answer-requires-clause-cookies
answer-requires-clause-cookies g c =
    let s = c.self.inside in
    let h = c.in-Some.held.now in
    let there = found s.held.entries c.args.unique c.get.ensures c.in-Some.is in
    let gone : s.is_aborted ≡ true = rw (← c.self.view_is) at c.requires.aborted in
    let can = rw (← c.self.view_is, gone) at c.requires.can in
    (numbers_of s.files s.held.entries s.kept.entries s.copies.entries s.next_copy s.validity s.minor c.args.unique h there true can).cookies

pub invariant_of-self : goal.invariant_of-self
invariant_of-self g c = rw c.in_err-outcome.ensures.err c.self.invariant
