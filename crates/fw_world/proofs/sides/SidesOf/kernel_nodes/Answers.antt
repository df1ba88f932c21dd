use Rattle.std.proofs.Common.{subst}
use Rattle.std.specs.Prelude.{◌≡◌, IfOk, T}
use Rattle.std.specs.Ordering.{nat_cmp}
use Rattle.std.specs.FinMap.{is_sorted}
use Rattle.fuse_spec.specs.World.Worlds.{World}
use Rattle.fk_lookup_count.specs.CountedNodes.{listed_counts}
use Rattle.fw_world.proofs.ListedNodes.{counted_are_listed, if_listed}
use Rattle.fw_world.proofs.sides.SidesOf.kernel_nodes.Goals as goal

pub returns-clause-nodes : goal.returns-clause-nodes
returns-clause-nodes g c = subst (λ (w : World). IfOk c.nodes.result (λ nodes. nodes.items ≡ listed_counts w.kernel.nodes)) c.self.view_is c.nodes.ensures

pub returns-clause-listed : goal.returns-clause-listed
returns-clause-listed g c =
    let world = c.args.self.now in
    let sorted = subst (λ (w : World). T (is_sorted nat_cmp w.kernel.nodes)) c.self.view_is c.lemma_counts_in_range.ensures.sorted in
    if_listed (λ nodes. nodes.items) c.nodes.result (listed_counts world.kernel.nodes) (returns-clause-nodes g c)
    (counted_are_listed world c.lemma_protocol.ensures.sound sorted)
