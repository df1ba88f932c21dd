use Rattle.std.proofs.Common.{◌≡◌, ◌+◌, ◌-◌, ◌^◌, min, length, ap, sym, subst, ◌∙◌, arith}
use Rattle.std.proofs.lemmas.List.{length-map}
use Rattle.fk_wire.specs.Records.{pluses_in}
use Rattle.fuse_frames.specs.ReplyTies.{pair_in}
use Rattle.fuse_spec.specs.Values.Maps.{Map}
use Rattle.fuse_spec.specs.declared.Counted.{Counted}
use Rattle.fk_nodes.specs.LookedUp.{looked_up_from, AreAtMost}
use Rattle.fk_nodes.specs.ListedFiles.{pairs_left_in}
use Rattle.fk_nodes.proofs.MostLookups.{all_saturated}
use Rattle.fk_nodes.proofs.counted_nodes.CountedNodes.count_listed.Goals as goal

pub invariant_of-self-2 : goal.invariant_of-self-2
invariant_of-self-2 g c =
    let m = g.C.CountTable.counted c.self.inside.table in
    let pairs = pairs_left_in c.args.pairs in
    let most = c.self.inside.most_lookups in
    let more = c.saturating_add-self-inside.result in
    let rises : more ≡ min (most + length pairs) (2 ^ 64 - 1) =
    omega (arith, c.saturating_add-self-inside.ensures, c.count_left-names.ensures.count, length-map (pluses_in c.args.pairs) pair_in) in
    let below = rw (← c.self.view_is) at c.requires in
    let same = c.in_ok-reserve_nodes.ensures.counted in
    let counted = c.count_all-self-inside.ensures.counted ∙ ap (λ (n : Map Counted). looked_up_from n pairs) same in (
      c.count_all-self-inside.ensures.len,
      subst (AreAtMost more) (sym counted) (all_saturated pairs m most more c.self.invariant.1 below rises),
    )
