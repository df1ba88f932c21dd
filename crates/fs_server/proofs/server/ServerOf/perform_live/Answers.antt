use Rattle.std.proofs.Common.{◌≡◌, ◌≤◌, ◌^◌, false, sym, ap, subst, ◌∙◌, refl, zero-le}
use Rattle.fuse_spec.specs.Server.Server.{Server}
use Rattle.fs_files.specs.Bounds.{AreHeldBelow}
use Rattle.fs_files.specs.Replies.{outcome_names, outcome_reply, sent_len, sent_names}
use Rattle.fs_files.specs.Performing.{handles_said, tree_said}
use Rattle.fs_files.specs.Values.{names_for, reply_room_for, server_at}
use Rattle.fs_files.proofs.HeldBelow.{few_given}
use Rattle.fs_server.proofs.Outcomes.{as_few, less_spare, names_fit}
use Rattle.fs_server.proofs.Served.{counts_of, live_counts, live_generations, live_numbers, numbers_of, performs_from, same_bare}
use Rattle.fs_server.proofs.Stays.{performed, same_files}
use Rattle.fs_server.proofs.DiscardsUnheld.{but_numbered, named_as}
use Rattle.fs_server.proofs.LookUps.{found}
use Rattle.fs_server.proofs.server.ServerOf.perform_live.Goals as goal

pub answer-requires-clause-inodes : goal.answer-requires-clause-inodes
answer-requires-clause-inodes g c =
    let s = c.self.inside in
    let h = c.in-Some.held.now in
    let there = found s.held.entries c.args.unique c.get.ensures c.in-Some.is in
    let up : s.is_aborted ≡ false = rw (← c.self.view_is) at c.requires.serving in
    let can = rw (← c.self.view_is, up) at c.requires.can in
    let has = numbers_of s.files s.held.entries s.kept.entries s.copies.entries s.next_copy s.validity s.minor c.args.unique h there false can in
    let same = same_bare c.reserve_reply.new.files s.files s.validity s.minor c.reserve_reply.ensures.tree c.reserve_reply.ensures.nodes c.reserve_reply.ensures.handles in
    subst (λ (b : Server). (tree_said b h).next_inode ≤ 2 ^ 62) (sym same) has.inodes

pub answer-requires-clause-cookies : goal.answer-requires-clause-cookies
answer-requires-clause-cookies g c =
    let s = c.self.inside in
    let h = c.in-Some.held.now in
    let there = found s.held.entries c.args.unique c.get.ensures c.in-Some.is in
    let up : s.is_aborted ≡ false = rw (← c.self.view_is) at c.requires.serving in
    let can = rw (← c.self.view_is, up) at c.requires.can in
    let has = numbers_of s.files s.held.entries s.kept.entries s.copies.entries s.next_copy s.validity s.minor c.args.unique h there false can in
    let same = same_bare c.reserve_reply.new.files s.files s.validity s.minor c.reserve_reply.ensures.tree c.reserve_reply.ensures.nodes c.reserve_reply.ensures.handles in
    subst (λ (b : Server). (tree_said b h).next_cookie ≤ 2 ^ 62) (sym same) has.cookies

pub give_numbers-reply-requires-clause-spare : goal.give_numbers-reply-requires-clause-spare
give_numbers-reply-requires-clause-spare g c =
    let s = c.self.inside in
    let h = c.in-Some.held.now in
    let o = c.in_ok-outcome.outcome in
    let fit : outcome_names o ≤ names_for h.body =
    names_fit (server_at s.minor c.reserve_reply.new.files s.validity) h c.answer.new.self.tree s.validity.found_ms c.in_ok-outcome.outcome c.in_ok-outcome.ensures.says c.in_ok-outcome.ensures.repliable in
    less_spare c.in_ok-memory.memory.spare 0 (names_for h.body) 0 (outcome_names o) c.in_ok-memory.ensures.spare zero-le fit

pub give_numbers-reply-requires-clause-generations : goal.give_numbers-reply-requires-clause-generations
give_numbers-reply-requires-clause-generations g c =
    let s = c.self.inside in
    let h = c.in-Some.held.now in
    let there = found s.held.entries c.args.unique c.get.ensures c.in-Some.is in
    let up : s.is_aborted ≡ false = rw (← c.self.view_is) at c.requires.serving in
    let can = rw (← c.self.view_is, up) at c.requires.can in
    let has = numbers_of s.files s.held.entries s.kept.entries s.copies.entries s.next_copy s.validity s.minor c.args.unique h there false can in
    live_generations s.files s.held.entries s.kept.entries s.copies.entries s.next_copy s.validity s.minor c.args.unique h there c.reserve_reply.new.files c.answer.new.self (outcome_reply s.validity.found_ms c.in_ok-outcome.outcome) c.reserve_reply.ensures.tree c.reserve_reply.ensures.nodes c.reserve_reply.ensures.handles c.answer.ensures.nodes c.in_ok-outcome.ensures.says has

pub give_numbers-reply-requires-clause-numbers : goal.give_numbers-reply-requires-clause-numbers
give_numbers-reply-requires-clause-numbers g c =
    let s = c.self.inside in
    let h = c.in-Some.held.now in
    let there = found s.held.entries c.args.unique c.get.ensures c.in-Some.is in
    let up : s.is_aborted ≡ false = rw (← c.self.view_is) at c.requires.serving in
    let can = rw (← c.self.view_is, up) at c.requires.can in
    let has = numbers_of s.files s.held.entries s.kept.entries s.copies.entries s.next_copy s.validity s.minor c.args.unique h there false can in
    live_numbers s.files s.held.entries s.kept.entries s.copies.entries s.next_copy s.validity s.minor c.args.unique h there c.reserve_reply.new.files c.answer.new.self (outcome_reply s.validity.found_ms c.in_ok-outcome.outcome) c.reserve_reply.ensures.tree c.reserve_reply.ensures.nodes c.reserve_reply.ensures.handles c.answer.ensures.nodes c.in_ok-outcome.ensures.says has c.in_ok-outcome.ensures.handles

pub give_numbers-reply-requires-clause-counted : goal.give_numbers-reply-requires-clause-counted
give_numbers-reply-requires-clause-counted g c = subst AreHeldBelow
    (sym (c.answer.ensures.nodes ∙ c.reserve_reply.ensures.nodes)) c.self.invariant.below

pub copied-requires : goal.copied-requires
copied-requires g c =
    let s = c.self.inside in
    let h = c.in-Some.held.now in
    let o = c.in_ok-outcome.outcome in
    let sent = c.give_numbers-reply.result in
    let fit : outcome_names o ≤ names_for h.body =
    names_fit (server_at s.minor c.reserve_reply.new.files s.validity) h c.answer.new.self.tree s.validity.found_ms c.in_ok-outcome.outcome c.in_ok-outcome.ensures.says c.in_ok-outcome.ensures.repliable in
    let numbered = c.give_numbers-reply.ensures in
    less_spare c.in_ok-memory.memory.spare_copy (reply_room_for h.body) (names_for h.body) (sent_len sent)
    (sent_names sent) c.in_ok-memory.ensures.spare_copy
    (as_few (sent_len sent) numbered.len c.in_ok-outcome.ensures.short)
    (as_few (sent_names sent) numbered.names fit)

pub invariant_of-self-2 : goal.invariant_of-self-2
invariant_of-self-2 g c =
    let s = c.self.inside in
    let h = c.in-Some.held.now in
    let there = found s.held.entries c.args.unique c.get.ensures c.in-Some.is in
    let up : s.is_aborted ≡ false = rw (← c.self.view_is) at c.requires.serving in
    let can = rw (← c.self.view_is, up) at c.requires.can in
    let has = numbers_of s.files s.held.entries s.kept.entries s.copies.entries s.next_copy s.validity s.minor c.args.unique h there false can in
    let same = same_bare c.reserve_reply.new.files s.files s.validity s.minor c.reserve_reply.ensures.tree c.reserve_reply.ensures.nodes c.reserve_reply.ensures.handles in
    let reply = outcome_reply s.validity.found_ms c.in_ok-outcome.outcome in
    let none = live_counts s.files s.held.entries s.kept.entries s.copies.entries s.next_copy s.validity s.minor c.args.unique h there c.reserve_reply.new.files c.answer.new.self (outcome_reply s.validity.found_ms c.in_ok-outcome.outcome) c.reserve_reply.ensures.tree c.reserve_reply.ensures.nodes c.reserve_reply.ensures.handles c.answer.ensures.nodes c.in_ok-outcome.ensures.says has in
    let few = few_given c.answer.new.self.tree s.validity.found_ms c.in_ok-outcome.outcome c.in_ok-outcome.ensures.repliable in
    rw (
      c.remove-held.ensures.entries,
      c.put.ensures.entries,
      c.put-2.ensures.entries,
      c.reserve_reply.ensures.kept,
      c.reserve_reply.ensures.copies,
    )
    (performed s.files s.held.entries s.kept.entries s.copies.entries s.next_copy s.validity c.self.invariant h c.args.unique c.answer.new.self c.give_numbers-reply.new.self c.discard_unheld.new.self reply
    c.give_numbers-reply.result _ _ (c.in_ok-outcome.ensures.handles ∙ ap (λ b. handles_said b h) same)
    (c.answer.ensures.nodes ∙ c.reserve_reply.ensures.nodes) c.give_numbers-reply.ensures.gives few none c.discard_unheld.ensures.nodes c.discard_unheld.ensures.handles (can.copy refl) c.discard_unheld.ensures.named)

pub returns-clause-performed : goal.returns-clause-performed
returns-clause-performed g c =
    let s = c.self.inside in
    let h = c.in-Some.held.now in
    let there = found s.held.entries c.args.unique c.get.ensures c.in-Some.is in
    let up : s.is_aborted ≡ false = rw (← c.self.view_is) at c.requires.serving in
    let can = rw (← c.self.view_is, up) at c.requires.can in
    let none = counts_of s.files s.held.entries s.kept.entries s.copies.entries s.next_copy s.validity s.minor c.args.unique h there false can in
    rw (
      ← c.self.view_is,
      c.remove-held.ensures.entries,
      c.put.ensures.entries,
      c.put-2.ensures.entries,
      c.reserve_reply.ensures.kept,
      c.reserve_reply.ensures.copies,
      c.new-2.ensures,
      c.new-sent.ensures,
      c.copied.ensures.wire,
      up,
    )
    (performs_from s.files s.held.entries s.kept.entries s.copies.entries s.next_copy s.validity s.minor c.args.unique h there c.reserve_reply.new.files c.answer.new.self c.give_numbers-reply.new.self c.discard_unheld.new.self
    (outcome_reply s.validity.found_ms c.in_ok-outcome.outcome) c.give_numbers-reply.result c.new-copy.result c.errno-errno.result c.reserve_reply.ensures.tree c.reserve_reply.ensures.nodes c.reserve_reply.ensures.handles none c.in_ok-outcome.ensures.tree
    c.in_ok-outcome.ensures.handles c.answer.ensures.nodes c.in_ok-outcome.ensures.says c.give_numbers-reply.ensures.gives
    (c.discard_unheld.ensures.tree s.validity) c.discard_unheld.ensures.nodes c.discard_unheld.ensures.handles
    (rw c.framed.ensures at c.new-copy.ensures)
    c.errno-errno.ensures)

pub discard_unheld-requires : goal.discard_unheld-requires
discard_unheld-requires g c =
    let s = c.self.inside in
    let start = c.reserve_reply.new.files in
    let named = named_as start s.files c.reserve_reply.ensures.tree c.reserve_reply.ensures.nodes c.reserve_reply.ensures.handles c.self.invariant.named in
    but_numbered c.unlinked_or_released-file.result start c.answer.new.self c.give_numbers-reply.new.self s.validity s.minor c.in-Some.held.now (outcome_reply s.validity.found_ms c.in_ok-outcome.outcome) c.give_numbers-reply.result (c.unlinked_or_released-file.ensures.others s.validity s.minor named)
    c.in_ok-outcome.ensures.tree c.in_ok-outcome.ensures.handles c.answer.ensures.nodes c.give_numbers-reply.ensures.gives

pub invariant_of-self-in_err-memory : goal.invariant_of-self-in_err-memory
invariant_of-self-in_err-memory g c =
    let s = c.self.inside in
    rw (c.reserve_reply.ensures.kept, c.reserve_reply.ensures.copies)
    (same_files s.files s.held.entries s.kept.entries s.copies.entries s.next_copy s.validity c.self.invariant c.reserve_reply.new.files c.reserve_reply.ensures.tree c.reserve_reply.ensures.nodes c.reserve_reply.ensures.handles)

pub invariant_of-self-in_err-outcome : goal.invariant_of-self-in_err-outcome
invariant_of-self-in_err-outcome g c =
    let s = c.self.inside in
    rw (c.reserve_reply.ensures.kept, c.reserve_reply.ensures.copies, c.in_err-outcome.ensures.err)
    (same_files s.files s.held.entries s.kept.entries s.copies.entries s.next_copy s.validity c.self.invariant c.reserve_reply.new.files c.reserve_reply.ensures.tree c.reserve_reply.ensures.nodes c.reserve_reply.ensures.handles)

pub invariant_of-self : goal.invariant_of-self
invariant_of-self g c =
    let s = c.self.inside in
    rw (c.reserve_reply.ensures.kept, c.reserve_reply.ensures.copies)
    (same_files s.files s.held.entries s.kept.entries s.copies.entries s.next_copy s.validity c.self.invariant c.reserve_reply.new.files c.reserve_reply.ensures.tree c.reserve_reply.ensures.nodes c.reserve_reply.ensures.handles)
