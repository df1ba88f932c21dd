use Rattle.std.proofs.Common.{sym, ◌∙◌, ap, subst}
use Rattle.fuse_spec.specs.Values.Maps.{get, put}
use Rattle.fs_nodes.specs.Rows.{node_of, IsOf}
use Rattle.fs_nodes.specs.Slots.{rows_from}
use Rattle.fs_nodes.proofs.Inverse.{inverse_same}
use Rattle.fs_nodes.proofs.Slots.{get_low, rows-write, file_at-kept, of_is, kept_is_some, place-low, place-high}
use Rattle.fs_nodes.proofs.slab_rows.SlabRowsNodeRows.write.Goals as goal

pub set-requires : goal.set-requires
set-requires g c =
    let slots = c.args.self.now.nodes.slots in
    let id_is = place-high c.args.id c.in-Some.place (sym c.place_of_node.ensures ∙ c.in-Some.is) in
    kept_is_some slots c.in-Some.place c.args.node.file
    (of_is slots c.in-Some.place c.args.node.file (subst
    (λ id. IsOf (get (rows_from 2 slots) id) c.args.node.file) id_is c.requires))

pub invariant_of-self : goal.invariant_of-self
invariant_of-self g c =
    let slots = c.args.self.now.nodes.slots in
    let id_is = place-high c.args.id c.in-Some.place (sym c.place_of_node.ensures ∙ c.in-Some.is) in
    let was = of_is slots c.in-Some.place c.args.node.file
    (subst (λ id. IsOf (get (rows_from 2 slots) id) c.args.node.file) id_is c.requires) in
    let updates = c.set.ensures.updates in
    record {
      inverse = inverse_same _ c.args.self.now.inverse
          (file_at-kept _ slots c.in-Some.place c.args.node was updates.changed updates.others);
      small = c.args.self.now.small;
    }

pub returns-in-Some-clause-rows : goal.returns-in-Some-clause-rows
returns-in-Some-clause-rows g c =
    let slots = c.args.self.now.nodes.slots in
    let id_is = place-high c.args.id c.in-Some.place (sym c.place_of_node.ensures ∙ c.in-Some.is) in
    let updates = c.set.ensures.updates in
    rows-write _ slots c.in-Some.place c.args.node updates.changed updates.others ∙ ap
    (λ id. put (rows_from 2 slots) id (node_of c.args.node)) (sym id_is)

pub returns-in_default-clause-rows : goal.returns-in_default-clause-rows
returns-in_default-clause-rows g c =
    let low = get_low c.args.self.now.nodes.slots c.args.id
    (place-low c.args.id (sym c.place_of_node.ensures ∙ c.in_default.is)) in
    absurd (subst (λ o. IsOf o c.args.node.file) low c.requires)
