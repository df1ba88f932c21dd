use Rattle.std.proofs.Common.{sym, ap, ◌∙◌}
use Rattle.std.specs.Prelude.{option_map}
use Rattle.fuse_spec.specs.Values.Maps.{Map, get, remove}
use Rattle.fuse_spec.specs.declared.Counted.{Counted}
use Rattle.fk_lookup_count.specs.declared.forget.Forget.{Forget}
use Rattle.fk_nodes.proofs.Counts.{count_of_forget, fewer, not_fewer}
use Rattle.fk_nodes.proofs.MostLookups.{one_fewer}
use Rattle.fk_nodes.proofs.counted_nodes.CountedNodes.evict.Goals as goal

pub invariant_of-self : goal.invariant_of-self
invariant_of-self g c =
    let m = g.C.CountTable.counted c.self.inside.table in
    rw c.evict.ensures.counted (
      c.self.invariant.0 ∙ not_fewer m c.args.id (sym c.in_err-forget.was ∙ c.evict.ensures.forget),
      one_fewer c.self.inside.most_lookups m c.args.id c.self.invariant.1,
    )

pub returns-in_err-forget-clause-count : goal.returns-in_err-forget-clause-count
returns-in_err-forget-clause-count g c =
    let m = g.C.CountTable.counted c.self.inside.table in
    c.from_residual.ensures ∙ rw (← c.self.view_is) (ap (option_map (λ (f : Forget). f.nlookup))
    (sym c.in_err-forget.was ∙ c.evict.ensures.forget) ∙ count_of_forget c.args.id (get m c.args.id))

pub returns-in_err-forget-clause-nodes : goal.returns-in_err-forget-clause-nodes
returns-in_err-forget-clause-nodes g c = c.evict.ensures.counted ∙ ap
    (λ (n : Map Counted). remove n c.args.id) c.self.view_is

pub invariant_of-self-2 : goal.invariant_of-self-2
invariant_of-self-2 g c =
    let m = g.C.CountTable.counted c.self.inside.table in
    rw c.evict.ensures.counted (
      fewer m c.self.inside.len c.args.id c.in_ok-forget.forget c.lemma_sound.ensures.sorted c.self.invariant.0
          (sym c.in_ok-forget.was ∙ c.evict.ensures.forget),
      one_fewer c.self.inside.most_lookups m c.args.id c.self.invariant.1,
    )

pub returns-clause-count : goal.returns-clause-count
returns-clause-count g c =
    let m = g.C.CountTable.counted c.self.inside.table in
    rw (← c.self.view_is) (ap (option_map (λ (f : Forget). f.nlookup))
    (sym c.in_ok-forget.was ∙ c.evict.ensures.forget) ∙ count_of_forget c.args.id (get m c.args.id))

pub returns-clause-nodes : goal.returns-clause-nodes
returns-clause-nodes g c = c.evict.ensures.counted ∙ ap (λ (n : Map Counted). remove n c.args.id) c.self.view_is
