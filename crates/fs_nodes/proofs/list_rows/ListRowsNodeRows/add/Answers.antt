use Rattle.std.proofs.Common.{◌+◌, Some, sym, ◌∙◌, ap, arith, length}
use Rattle.std.specs.Option.{option_map}
use Rattle.fuse_spec.specs.Values.Maps.{get, put}
use Rattle.fs_nodes.specs.Rows.{node_of}
use Rattle.fs_nodes.specs.Slots.{rows_from}
use Rattle.fs_nodes.proofs.Slots.{get_at}
use Rattle.fs_nodes.proofs.Vacant.{place_taken, vacant_taken, counts_vacant, rows_set, rows_push, at_end}
use Rattle.fs_nodes.proofs.list_rows.ListRowsNodeRows.add.Goals as goal

pub put_slot-requires : goal.put_slot-requires
put_slot-requires g c =
    let old = c.args.self.now in
    omega (arith, (place_taken _ c.in-Some.place old.vacant c.in-Some.ensures.items).0, old.slots.ok.0)

pub invariant_of-self : goal.invariant_of-self
invariant_of-self g c =
    let old = c.args.self.now in
    let place = c.in-Some.place in
    let taken = place_taken _ place old.vacant c.in-Some.ensures.items in
    let counts = counts_vacant _ old.slots.items place (Some c.args.node) taken.0 taken.1 c.put_slot.ensures.items in
    let len = c.in-Some.ensures.len in
    let capacity = c.in-Some.ensures.capacity in
    record {
      vacant = vacant_taken _ _ place (Some c.args.node) old.vacant c.in-Some.ensures.items c.put_slot.ensures.items;
      counted = omega (arith, old.counted, counts.len, counts.count, len);
      fits = omega (arith, old.fits, counts.len, capacity);
    }

pub overflow_add-result : goal.overflow_add-result
overflow_add-result g c =
    let old = c.args.self.now in
    omega (
      arith,
      (place_taken _ c.in-Some.place old.vacant c.in-Some.ensures.items).0,
      old.slots.ok.0,
      old.slots.ok.1,
      old.slots.small,
    )

pub returns-in-Some-clause-free : goal.returns-in-Some-clause-free
returns-in-Some-clause-free g c =
    let old = c.args.self.now in
    get_at old.slots.items c.in-Some.place ∙ ap (option_map node_of)
    (place_taken _ c.in-Some.place old.vacant c.in-Some.ensures.items).1

pub returns-in-Some-clause-rows : goal.returns-in-Some-clause-rows
returns-in-Some-clause-rows g c =
    let old = c.args.self.now in
    rows_set _ old.slots.items c.in-Some.place c.args.node
    (place_taken _ c.in-Some.place old.vacant c.in-Some.ensures.items).0 c.put_slot.ensures.items

pub returns-clause-free : goal.returns-clause-free
returns-clause-free g c =
    let slots = c.args.self.now.slots in
    let place = c.len-place.ensures ∙ slots.ok.0 in
    ap (λ p. get (rows_from 2 slots.items) (p + 2)) place ∙ get_at slots.items (length slots.items) ∙ ap
    (option_map node_of) (at_end slots.items)

pub returns-clause-rows : goal.returns-clause-rows
returns-clause-rows g c =
    let slots = c.args.self.now.slots in
    let place = c.len-place.ensures ∙ slots.ok.0 in
    rows_push _ slots.items c.args.node c.push_reserved.ensures.items ∙ ap
    (λ p. put (rows_from 2 slots.items) (p + 2) (node_of c.args.node)) (sym place)
