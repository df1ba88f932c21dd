use Rattle.std.proofs.Common.{◌≡◌, ◌<◌, ◌^◌, false, true≢false, sym, ◌∙◌}
use Rattle.fs_server.proofs.Refused.{not_held}
use Rattle.fs_server.proofs.Served.{can, lacking, no_copy}
use Rattle.fs_server.proofs.LookUps.{found, missing}
use Rattle.fs_server.proofs.server.ServerOf.perform_refusal.Goals.{else-not-self-via-then-not-self+else-self-ge-COUNTER_END, else-not-self-via-else-not-self}
use Rattle.fs_server.proofs.server.ServerOf.perform_refusal.Goals as goal

pub returns-in_default-clause-refuses : goal.returns-in_default-clause-refuses
returns-in_default-clause-refuses g c =
    let s = c.self.inside in
    let none = missing s.held.entries c.args.unique c.get.ensures c.in_default.is in
    rw (← c.self.view_is) (not_held _ _ none)

pub returns-then-self-ge-COUNTER_END-clause-refuses : goal.returns-then-self-ge-COUNTER_END-clause-refuses
returns-then-self-ge-COUNTER_END-clause-refuses g c =
    let s = c.self.inside in
    let h = c.in-Some.held.now in
    let there = found s.held.entries c.args.unique c.get.ensures c.in-Some.is in
    rw (← c.self.view_is, c.if-not-self.true)
    (no_copy s.files s.held.entries s.kept.entries s.copies.entries s.next_copy s.validity s.minor c.args.unique h there c.if-self-ge-COUNTER_END.true)

pub has_numbers-requires : goal.has_numbers-requires
has_numbers-requires g c = c.self.invariant.below

pub returns-then-not-has_numbers-clause-refuses : goal.returns-then-not-has_numbers-clause-refuses
returns-then-not-has_numbers-clause-refuses g c =
    let s = c.self.inside in
    let h = c.in-Some.held.now in
    let there = found s.held.entries c.args.unique c.get.ensures c.in-Some.is in
    rw (← c.self.view_is)
    (lacking s.files s.held.entries s.kept.entries s.copies.entries s.next_copy s.validity s.minor c.args.unique h there s.is_aborted c.self.invariant.named.rows (c.has_numbers.ensures.lacks s.validity s.minor c.if-not-has_numbers.true))

pub returns-clause-none : goal.returns-clause-none
returns-clause-none g c =
    let s = c.self.inside in
    let h = c.in-Some.held.now in
    let there = found s.held.entries c.args.unique c.get.ensures c.in-Some.is in
    let copy : s.is_aborted ≡ false → s.next_copy < 2 ^ 62 =
    elim c.else-not-self.branch [
      | else-not-self-via-then-not-self+else-self-ge-COUNTER_END w ↦ λ up. w.if-self-ge-COUNTER_END.false
      | else-not-self-via-else-not-self w ↦ λ up. absurd (true≢false (sym w.if-not-self.false ∙ up))
    ] in
    rw (← c.self.view_is)
    (can s.files s.held.entries s.kept.entries s.copies.entries s.next_copy s.validity s.minor c.args.unique h there s.is_aborted c.self.invariant.named.rows c.self.invariant.below copy (c.has_numbers.ensures.has s.validity s.minor c.if-not-has_numbers.false))
