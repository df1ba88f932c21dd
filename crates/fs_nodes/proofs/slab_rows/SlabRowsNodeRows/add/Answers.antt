use Rattle.std.proofs.Common.{◌<◌, ◌^◌, Some, inl, inr, ◌∙◌, sym, ap, arith}
use Rattle.std.specs.Option.{option_map}
use Rattle.std.proofs.lemmas.Bool.{cases_eq}
use Rattle.std.proofs.lemmas.Option.{same_Some}
use Rattle.fs_nodes.specs.Rows.{node_of}
use Rattle.fs_nodes.specs.declared.stored_node.StoredNode.{StoredNode}
use Rattle.fs_nodes.proofs.Inverse.{inverse_with, at_written, at_other}
use Rattle.fs_nodes.proofs.Slots.{get_at, rows-write, file_at-changed, no_place, has_room}
use Rattle.fs_nodes.proofs.slab_rows.SlabRowsNodeRows.add.Goals as goal

pub invariant_of-self : goal.invariant_of-self
invariant_of-self g c =
    let old = c.args.self.now in
    let place = c.insert_reserved-place.result in
    let inserted = c.insert_reserved-place.ensures in
    let changed = file_at-changed c.insert_reserved-place.new.self.slots old.nodes.slots place
    (Some c.args.node) inserted.updates.changed inserted.updates.others in
    let absent = no_place old.nodes.slots old.inverse c.args.node.file c.requires.unheld in
    let room = has_room old.nodes.capacity _ _ 1 (omega arith) c.requires.room in
    let few = room.few in
    let range = inserted.key_in_range in
    let capacity = inserted.capacity in
    let small : place < 2 ^ 62 = omega arith in
    record {
      inverse = inverse_with _ _ c.args.node.file place old.inverse
          (ap (option_map (λ (kept : StoredNode). kept.file)) inserted.was_vacant) absent changed c.put.ensures.at;
      small = λ file p is. elim (cases_eq c.args.node.file file) [
        | inl e ↦ (let same = same_Some place p (sym (at_written _ _ c.args.node.file
            (Some place) c.put.ensures.at file e) ∙ is) in omega arith)
        | inr ne ↦ old.small file p (sym (at_other _ _ c.args.node.file (Some place) c.put.ensures.at file ne) ∙ is)
      ];
    }

pub returns-clause-free : goal.returns-clause-free
returns-clause-free g c = get_at c.args.self.now.nodes.slots _ ∙ ap
    (option_map node_of) c.insert_reserved-place.ensures.was_vacant

pub returns-clause-rows : goal.returns-clause-rows
returns-clause-rows g c =
    let updates = c.insert_reserved-place.ensures.updates in
    rows-write _ c.args.self.now.nodes.slots _ c.args.node updates.changed updates.others
