use Rattle.std.proofs.Common.{◌≡◌, ◌+◌, ◌-◌, ◌^◌, ◌<◌, min, false, true, ap, sym, ◌∙◌, arith}
use Rattle.std.specs.Prelude.{is_none}
use Rattle.fuse_spec.specs.Values.Maps.{get}
use Rattle.fk_nodes.proofs.Counts.{looked_up_is, one_more, as_many}
use Rattle.fk_nodes.proofs.MostLookups.{one_saturated}
use Rattle.fk_nodes.proofs.counted_nodes.CountedNodes.count_lookup.Goals as goal

pub invariant_of-self-then-is_new : goal.invariant_of-self-then-is_new
invariant_of-self-then-is_new g c =
    let m = g.C.CountTable.counted c.self.inside.table in
    let entry = c.args.entry.now in
    let counted = rw c.in-Ok.is at c.in_ok-is_new.ensures.ok in
    let new = rw c.in-Ok.is at c.in_ok-is_new.ensures.new in
    let fresh : is_none (get m entry.nodeid) ≡ true = sym new ∙ c.if-is_new.true in
    let low : c.self.inside.most_lookups < 2 ^ 64 = omega arith in
    let rises : c.saturating_add-self-inside.result ≡ min (c.self.inside.most_lookups + 1) (2 ^ 64 - 1) =
    omega (arith, c.saturating_add-self-inside.ensures) in
    rw (counted, looked_up_is m entry) (
      ap (λ n. n + 1) c.self.invariant.0 ∙ one_more m entry c.lemma_sound.ensures.sorted fresh,
      one_saturated m entry c.self.inside.most_lookups c.saturating_add-self-inside.result c.self.invariant.1 low
          (rw (← c.self.view_is) at c.requires.fits) rises,
    )

pub invariant_of-self-else-is_new : goal.invariant_of-self-else-is_new
invariant_of-self-else-is_new g c =
    let m = g.C.CountTable.counted c.self.inside.table in
    let entry = c.args.entry.now in
    let counted = rw c.in-Ok.is at c.in_ok-is_new.ensures.ok in
    let new = rw c.in-Ok.is at c.in_ok-is_new.ensures.new in
    let known : is_none (get m entry.nodeid) ≡ false = sym new ∙ c.if-is_new.false in
    let low : c.self.inside.most_lookups < 2 ^ 64 = omega arith in
    let rises : c.saturating_add-self-inside.result ≡ min (c.self.inside.most_lookups + 1) (2 ^ 64 - 1) =
    omega (arith, c.saturating_add-self-inside.ensures) in
    rw (counted, looked_up_is m entry) (
      c.self.invariant.0 ∙ as_many m entry c.lemma_sound.ensures.sorted known,
      one_saturated m entry c.self.inside.most_lookups c.saturating_add-self-inside.result c.self.invariant.1 low
          (rw (← c.self.view_is) at c.requires.fits) rises,
    )
