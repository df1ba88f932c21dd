-- What each call found, put together.
use Rattle.std.proofs.Common.{Bool, true, false, Result, Ok, Err, IfOk, IsTrue, MatchBool, OnOk, refl, ◌∙◌, rules}
use Rattle.order_search.proofs.Answering.{at_end, at_step, at_replies, at_pending, at_over, one_more, no_more_places}
use Rattle.order_search.proofs.Assembling.{below_none}
use Rattle.order_search.proofs.course.+exploring.Goals as goal

-- a choice that has to be there, and is
needed : {E A X : Type 0} (B : Type 0) (r : Result Bool E) → IfOk r IsTrue → (X → A) → OnOk r X
    → IfOk r (λ b. MatchBool b A B)
needed B (Ok true) there f found = f found
needed B (Ok false) there f found = absurd (cc)
needed B (Err e) there f found = tt

pub explore-returns-then-branch-gt0-clause-found : goal.explore-returns-then-branch-gt0-clause-found
explore-returns-then-branch-gt0-clause-found g t c =
    at_pending (g.F.Follower.leads c.args.follower.now) g.P.Printer.prints g.met.P.Printer.stays
    g.met.P.Printer.goes_on _ _ _ _ _ _ _ _ _ _ c.in-Choosing-false-default.is_due c.in-Choosing-false-default.has_left _ _
    c.in_ok-look.ensures.looked c.in-Choosing-false-default.is
    (search rules) c.look.ensures.kept c.if-branch-gt0.true
    c.in_ok-explore_places-in-Choosing-false-default.ensures.found

pub explore-returns-in-Ended-clause-found : goal.explore-returns-in-Ended-clause-found
explore-returns-in-Ended-clause-found g t c =
    at_end (g.F.Follower.leads c.args.follower.now) g.P.Printer.prints g.met.P.Printer.stays
    g.met.P.Printer.goes_on _ _ _ _ _ _ _ c.in_ok-look.ensures.looked c.in-Ended.is

pub explore-returns-in_ok-explore_places-in-Choosing-true-true-clause-found :
    goal.explore-returns-in_ok-explore_places-in-Choosing-true-true-clause-found
explore-returns-in_ok-explore_places-in-Choosing-true-true-clause-found g t c =
    needed _ c.explore_needed.result c.explore_needed.ensures.there
    (at_replies (g.F.Follower.leads c.args.follower.now) g.P.Printer.prints g.met.P.Printer.stays
    g.met.P.Printer.goes_on _ _ _ _ _ _ _ _ _ _ _ _ c.in-Choosing-true-true.is_due
    c.in-Choosing-true-true.has_left _ _ _ _ c.in_ok-look.ensures.looked
    c.in-Choosing-true-true.is (search rules) (search rules)
    c.look.ensures.kept c.in_ok-explore_places-in-Choosing-true-true.ensures.kept
    c.in_ok-explore_places-in-Choosing-true-true.ensures.found)
    c.explore_needed.ensures.found

pub explore-returns-in_ok-explore_places-in-Choosing-true-false-2-clause-found :
    goal.explore-returns-in_ok-explore_places-in-Choosing-true-false-2-clause-found
explore-returns-in_ok-explore_places-in-Choosing-true-false-2-clause-found g t c =
    needed _ c.explore_needed-in-Choosing-true-false.result c.explore_needed-in-Choosing-true-false.ensures.there
    (at_step (g.F.Follower.leads c.args.follower.now) g.P.Printer.prints g.met.P.Printer.stays
    g.met.P.Printer.goes_on _ _ _ _ _ _ _ _ _ _ _ _ _ _ _ c.in-Choosing-true-false.is_due
    c.in-Choosing-true-false.has_left _ _ _ _ _ _ c.in_ok-look.ensures.looked
    c.in-Choosing-true-false.is (search rules) (search rules)
    c.look.ensures.kept c.in_ok-explore_places-in-Choosing-true-false.ensures.kept
    c.in_ok-explore_places-in-Choosing-true-false-2.ensures.kept
    c.in_ok-explore_places-in-Choosing-true-false.ensures.found
    c.in_ok-explore_places-in-Choosing-true-false-2.ensures.found)
    c.explore_needed-in-Choosing-true-false.ensures.found

pub explore-returns-else-branch-gt0-clause-found : goal.explore-returns-else-branch-gt0-clause-found
explore-returns-else-branch-gt0-clause-found g t c =
    needed _ c.explore_needed-in-Choosing-false-default.result c.explore_needed-in-Choosing-false-default.ensures.there
    (at_over (g.F.Follower.leads c.args.follower.now) g.P.Printer.prints g.met.P.Printer.stays
    g.met.P.Printer.goes_on _ _ _ _ _ _ _ _ _ _ _ _ c.in-Choosing-false-default.is_due
    c.in-Choosing-false-default.has_left _ _ _ _ c.in_ok-look.ensures.looked
    c.in-Choosing-false-default.is (search rules) c.look.ensures.kept
    c.in_ok-explore_places-in-Choosing-false-default.ensures.kept c.if-branch-gt0.false
    c.in_ok-explore_places-in-Choosing-false-default.ensures.found)
    c.explore_needed-in-Choosing-false-default.ensures.found

pub explore_places-loop-place-init : goal.explore_places-loop-place-init
explore_places-loop-place-init g t c = record {
  kept = refl;
  same = refl;
  explored = below_none (g.F.Follower.leads c.args.follower.now) g.P.Printer.prints g.met.P.Printer.stays
      g.met.P.Printer.goes_on _ _ _ _ _;
}

pub explore_places-returns-then-not-branch-clause-found : goal.explore_places-returns-then-not-branch-clause-found
explore_places-returns-then-not-branch-clause-found g t c =
    no_more_places (g.F.Follower.leads c.args.follower.now) g.P.Printer.prints g.met.P.Printer.stays
    g.met.P.Printer.goes_on _ _ _ _ _ _ _ _ _ _ _ _ _
    (c.loop-place.invariant.kept, c.loop-place.invariant.same) c.choice_at.ensures c.loop-place.invariant.explored
    (rw c.if-not-branch.true at c.in_ok-explore_choice.ensures.found)

pub explore_places-loop-place-preserved : goal.explore_places-loop-place-preserved
explore_places-loop-place-preserved g t c =
    record {
      kept = c.in_ok-explore_choice.ensures.kept.0 ∙ c.loop-place.invariant.kept;
      same = c.in_ok-explore_choice.ensures.kept.1 ∙ c.loop-place.invariant.same;
      explored = one_more (g.F.Follower.leads c.args.follower.now) g.P.Printer.prints g.met.P.Printer.stays
          g.met.P.Printer.goes_on _ _ _ _ _ _ _ _ _ _ _ _ _
          (c.loop-place.invariant.kept, c.loop-place.invariant.same) c.choice_at.ensures
          c.loop-place.invariant.explored
          (rw c.if-not-branch.false at c.in_ok-explore_choice.ensures.found);
    }
