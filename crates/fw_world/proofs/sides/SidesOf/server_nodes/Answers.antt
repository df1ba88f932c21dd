use Rattle.std.proofs.Common.{Bool, subst, sym}
use Rattle.std.specs.Prelude.{◌≡◌, IfOk, T}
use Rattle.std.specs.Ordering.{nat_cmp}
use Rattle.std.specs.FinMap.{is_sorted}
use Rattle.fuse_spec.specs.World.Worlds.{World}
use Rattle.fs_nodes.specs.Rows.{listed_nodes}
use Rattle.fw_world.proofs.ListedNodes.{held_are_listed, if_listed}
use Rattle.fw_world.proofs.sides.SidesOf.server_nodes.Goals as goal

pub returns-clause-nodes : goal.returns-clause-nodes
returns-clause-nodes g c = subst (λ (w : World). IfOk c.nodes.result (λ nodes. nodes.items ≡ listed_nodes w.server.nodes.rows)) c.self.view_is c.nodes.ensures

pub returns-clause-listed : goal.returns-clause-listed
returns-clause-listed g c =
    let world = c.args.self.now in
    let sorted_here = subst (λ (b : Bool). T b) (sym c.lemma_sound.ensures.nodes.sorted) tt in
    let sorted = subst (λ (w : World). T (is_sorted nat_cmp w.server.nodes.rows)) c.self.view_is sorted_here in
    if_listed (λ nodes. nodes.items) c.nodes.result (listed_nodes world.server.nodes.rows) (returns-clause-nodes g c)
    (held_are_listed world c.lemma_protocol.ensures.sound sorted)
