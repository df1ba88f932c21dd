use Rattle.std.proofs.Common.{◌≡◌, ◌+◌, ◌-◌, ◌^◌, ◌<◌, min, length, arith, All, ap, map, subst, sym}
use Rattle.std.proofs.lemmas.List.{length-map}
use Rattle.std.proofs.lemmas.List.Elements.{All-nil}
use Rattle.fk_wire.specs.Records.{pluses_in}
use Rattle.fuse_spec.specs.Values.Numbers.{counter_end}
use Rattle.fuse_frames.specs.ReplyTies.{pair_in}
use Rattle.fuse_spec.specs.Files.Operations.{DirentPlus, listed_by}
use Rattle.fuse_spec.specs.declared.Entry.{Entry}
use Rattle.fk_nodes.specs.LookedUp.{LeavesBelow}
use Rattle.fk_nodes.specs.ListedFiles.{pairs_left_in}
use Rattle.fk_nodes.proofs.Counting.{stay_below}
use Rattle.fk_nodes.proofs.MostLookups.{all_below}
use Rattle.fk_nodes.proofs.counted_nodes.CountedNodes.listed_count_out.Goals as goal

pub returns-clause-within : goal.returns-clause-within
returns-clause-within g c = λ none.
    let nodes = c.args.self.now in
    let pairs = pairs_left_in c.args.pairs in
    let left = ap (map pair_in) c.in-None.ensures.steps.0 in
    let rest = subst (λ ps. All (λ (pair : DirentPlus Entry). LeavesBelow nodes pairs (listed_by pair)) ps) (sym left)
    (All-nil (λ (pair : DirentPlus Entry). LeavesBelow nodes pairs (listed_by pair))) in
    let few : length pairs < counter_end =
    omega (arith, c.count_left-names.ensures.count, length-map (pluses_in c.args.pairs) pair_in) in
    stay_below nodes pairs c.requires few (c.loop-pair.invariant rest)

pub returns-then-saturating_add-lt-COUNTER_END-clause-within :
    goal.returns-then-saturating_add-lt-COUNTER_END-clause-within
returns-then-saturating_add-lt-COUNTER_END-clause-within g c = λ none.
    let m = g.C.CountTable.counted c.self.inside.table in
    let pairs = pairs_left_in c.args.pairs in
    let most = c.self.inside.most_lookups in
    let more = c.saturating_add.result in
    let rises : more ≡ min (most + length pairs) (2 ^ 64 - 1) =
    omega (arith, c.saturating_add.ensures, c.count_left-names.ensures.count, length-map (pluses_in c.args.pairs) pair_in) in
    rw (← c.self.view_is) (all_below pairs m most more c.self.invariant.1 rises c.if-saturating_add-lt-COUNTER_END.true)
