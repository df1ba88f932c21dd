use Rattle.std.proofs.Common.{sym, ◌∙◌, ap}
use Rattle.std.specs.Option.{option_map}
use Rattle.fuse_spec.specs.Values.Maps.{get}
use Rattle.fs_nodes.specs.Rows.{node_of}
use Rattle.fs_nodes.specs.Slots.{rows_from, at_place}
use Rattle.fs_nodes.proofs.Slots.{get_low, get_at, place-low, place-high}
use Rattle.fs_nodes.proofs.list_rows.ListRowsNodeRows.node.Goals as goal

pub returns-in_err-place : goal.returns-in_err-place
returns-in_err-place g c = rw c.from_residual.ensures
    (sym (get_low c.args.self.now.slots.items c.args.id
    (place-low c.args.id (sym c.place_of_node.ensures ∙ c.in_err-place.was))))

pub returns : goal.returns
returns g c =
    let slots = c.args.self.now.slots.items in
    let place = c.in_ok-place.place in
    let id_is = place-high c.args.id place (sym c.place_of_node.ensures ∙ c.in_ok-place.was) in
    ap (option_map node_of) (c.slot_at.ensures ∙ ap (λ s. at_place s place) c.deref.ensures.value) ∙ sym
    (ap (get (rows_from 2 slots)) id_is ∙ get_at slots place)
