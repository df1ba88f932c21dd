use Rattle.std.proofs.Common.{◌≡◌, ℕ, ◌+◌, ◌-◌, ◌≤◌, ◌<◌, false, Some, sym, subst, ◌∙◌, arith}
use Rattle.std.specs.Prelude.{nat_lt}
use Rattle.std.proofs.lemmas.Bool.{ltb-true}
use Rattle.std.proofs.lemmas.Bool.Decides.{nat_tests}
use Rattle.fuse_spec.specs.Values.Maps.{get}
use Rattle.fuse_spec.specs.Values.Numbers.{counter_end}
use Rattle.fk_nodes.specs.LookedUp.{times_listed}
use Rattle.fk_nodes.specs.ListedFiles.{pairs_left_in}
use Rattle.fk_nodes.proofs.Counting.{one_out}
use Rattle.fk_nodes.proofs.counted_nodes.CountedNodes.brings_out.Goals as goal

high : (n : ℕ) → 2 ≤ n → nat_lt n 2 ≡ false
high n le = grind (arith, nat_tests)

past : (count times : ℕ) → count < counter_end → counter_end - 1 - count < times → counter_end ≤ count + times
past count times low more = omega (arith, low, more)

pub returns-clause-out : goal.returns-clause-out
returns-clause-out g c = λ more.
    let nodes = c.args.self.now in
    let pairs = pairs_left_in c.args.pairs in
    let entry = c.in-Some.entry in
    let counted = c.in-Some-counted.counted in
    let at : get nodes entry.nodeid ≡ Some counted = sym c.in-Some-counted.ensures in
    let low : counted.count < counter_end = c.requires.below entry.nodeid counted at in
    let same : counted.generation ≡ entry.generation = c.if-counted-entry.false in
    let over : counter_end - 1 - counted.count < times_listed entry.nodeid entry.generation pairs =
    ltb-true _ _ (sym c.lists_more_than.ensures ∙ more) in
    let out : counter_end ≤ counted.count + times_listed entry.nodeid entry.generation pairs =
    past counted.count (times_listed entry.nodeid entry.generation pairs) low over in
    one_out nodes pairs entry.nodeid counted (high entry.nodeid (omega (arith, c.if-entry-lt2.false))) at
    (subst (λ (n : ℕ). counter_end ≤ counted.count + times_listed entry.nodeid n pairs) (sym same) out)
