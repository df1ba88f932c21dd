-- Each choice brings an order nearer to the most that it may have; at each place what was found so far is all of the
-- orders that are there.
use Rattle.std.proofs.Common.{◌≡◌, ◌+◌, ◌-◌, ◌*◌, length}
use Rattle.order_search.specs.Orders.{ExploredBelow}
use Rattle.order_search.proofs.course.+exploring.Given as goal

abbrev pub decreases-explore : goal.decreases-explore
decreases-explore g l = 4 * (512 - length l.course.now.choices.items) + 3

abbrev pub decreases-explore_choice : goal.decreases-explore_choice
decreases-explore_choice g l = 4 * (512 - length l.course.now.choices.items)

abbrev pub decreases-explore_needed : goal.decreases-explore_needed
decreases-explore_needed g l = 4 * (512 - length l.course.now.choices.items) + 1

abbrev pub decreases-explore_places : goal.decreases-explore_places
decreases-explore_places g l = 4 * (512 - length l.course.now.choices.items) + 2

abbrev pub invariant-explore_places-loop-place : goal.invariant-explore_places-loop-place
invariant-explore_places-loop-place g l = record {
  kept : l.course.choices.items ≡ l.initial.course.choices.items;
  same : l.course.wanted ≡ l.initial.course.wanted;
  explored : ExploredBelow (g.F.Follower.leads l.follower) g.P.Printer.prints l.is_answered
      l.initial.course.choices.items l.place l.initial.course.wanted l.initial.course.found l.course.found
      l.initial.printer l.printer;
}
