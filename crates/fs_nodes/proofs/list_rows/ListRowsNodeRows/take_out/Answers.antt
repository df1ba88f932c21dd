use Rattle.std.proofs.Common.{None, sym, ◌∙◌, ap, arith}
use Rattle.std.specs.Option.{option_map}
use Rattle.fuse_spec.specs.Values.Maps.{get, remove}
use Rattle.fs_nodes.specs.Rows.{node_of}
use Rattle.fs_nodes.specs.Slots.{rows_from}
use Rattle.fs_nodes.proofs.Slots.{get_low, get_at, rows_without_none, place-low, place-high}
use Rattle.fs_nodes.proofs.Vacant.{kept_within, none_there, some_there, vacant_dropped, counts_kept, rows_unset}
use Rattle.fs_nodes.proofs.list_rows.ListRowsNodeRows.take_out.Goals as goal

pub returns-in_default-clause-rows : goal.returns-in_default-clause-rows
returns-in_default-clause-rows g c =
    let slots = c.args.self.now.slots.items in
    rows_without_none slots c.args.id (get_low slots c.args.id
    (place-low c.args.id (sym c.place_of_node.ensures ∙ c.in_default.is)))

pub returns-then-is_none-clause-rows : goal.returns-then-is_none-clause-rows
returns-then-is_none-clause-rows g c =
    let slots = c.args.self.now.slots.items in
    let place = c.in-Some.place in
    let id_is = place-high c.args.id place (sym c.place_of_node.ensures ∙ c.in-Some.is) in
    let none = none_there slots c.deref.result.now place c.slot_at.result c.deref.ensures.value c.slot_at.ensures c.if-is_none.ensures in
    rows_without_none slots c.args.id (ap (get (rows_from 2 slots)) id_is ∙ get_at slots place ∙ ap
    (option_map node_of) none)

pub invariant_of-self : goal.invariant_of-self
invariant_of-self g c =
    let old = c.args.self.now in
    let place = c.in-Some.place in
    let some = some_there old.slots.items c.deref.result.now place c.slot_at.result c.deref.ensures.value c.slot_at.ensures c.if-is_none.ensures in
    let counts = counts_kept _ old.slots.items place None some c.put_slot.ensures.items in
    let len = c.push_reserved.ensures.len in
    let capacity = c.push_reserved.ensures.capacity in
    record {
      vacant = vacant_dropped _ _ place old.vacant some c.push_reserved.ensures.items c.put_slot.ensures.items;
      counted = omega (arith, old.counted, counts.len, counts.count, len);
      fits = omega (arith, old.fits, counts.len, capacity);
    }

pub returns-clause-rows : goal.returns-clause-rows
returns-clause-rows g c =
    let slots = c.args.self.now.slots.items in
    let place = c.in-Some.place in
    let id_is = place-high c.args.id place (sym c.place_of_node.ensures ∙ c.in-Some.is) in
    let some = some_there slots c.deref.result.now place c.slot_at.result c.deref.ensures.value c.slot_at.ensures c.if-is_none.ensures in
    rows_unset _ slots place (kept_within slots place some) c.put_slot.ensures.items ∙ ap (remove (rows_from 2 slots))
    (sym id_is)
