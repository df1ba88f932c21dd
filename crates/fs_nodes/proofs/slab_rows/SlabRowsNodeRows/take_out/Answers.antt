use Rattle.std.proofs.Common.{None, nat_eq, inl, inr, sym, ◌∙◌, ap}
use Rattle.std.specs.Map.{lookup}
use Rattle.std.specs.Option.{option_map}
use Rattle.std.proofs.lemmas.Bool.{cases_eq}
use Rattle.std.proofs.lemmas.Option.{none-some}
use Rattle.slab.specs.Slab.{Slab}
use Rattle.fuse_spec.specs.Values.Maps.{get, remove}
use Rattle.fs_nodes.specs.Rows.{node_of}
use Rattle.fs_nodes.specs.Slots.{rows_from}
use Rattle.fs_nodes.specs.declared.stored_node.StoredNode.{StoredNode}
use Rattle.fs_nodes.proofs.Inverse.{inverse_without, at_written, at_other}
use Rattle.fs_nodes.proofs.Slots.{get_low, get_at, rows-take_out, rows_without_none, file_at-changed, place-low, place-high}
use Rattle.fs_nodes.proofs.slab_rows.SlabRowsNodeRows.take_out.Goals as goal

pub returns-in_default-clause-rows : goal.returns-in_default-clause-rows
returns-in_default-clause-rows g c =
    let slots = c.args.self.now.nodes.slots in
    rows_without_none slots c.args.id (get_low slots c.args.id
    (place-low c.args.id (sym c.place_of_node.ensures ∙ c.in_default.is)))

pub returns-in_default-try_remove-clause-rows : goal.returns-in_default-try_remove-clause-rows
returns-in_default-try_remove-clause-rows g c =
    let slots = c.args.self.now.nodes.slots in
    let id_is = place-high c.args.id c.in-Some.place (sym c.place_of_node.ensures ∙ c.in-Some.is) in
    let none = ap (get (rows_from 2 slots)) id_is ∙ get_at slots c.in-Some.place ∙ ap (option_map node_of)
    (sym c.try_remove.ensures.value ∙ c.in_default-try_remove.is) in
    ap (λ (s : Slab StoredNode). rows_from 2 s.slots) c.in_default-try_remove.ensures.absent ∙ rows_without_none slots c.args.id none

pub invariant_of-self-2 : goal.invariant_of-self-2
invariant_of-self-2 g c =
    let old = c.args.self.now in
    let place = c.in-Some.place in
    let node = c.in-Some-try_remove.node in
    let updates = c.try_remove.ensures.updates in
    let there = sym c.try_remove.ensures.value ∙ c.in-Some-try_remove.is in
    let removed = c.swap_remove-place.ensures.updates.0 in
    record {
      inverse = inverse_without _ _ node.file place old.inverse
          (ap (option_map (λ (kept : StoredNode). kept.file)) there)
          (file_at-changed _ old.nodes.slots place None updates.changed updates.others) removed;
      small = λ file p is. elim (cases_eq node.file file) [
        | inl e ↦ absurd (none-some p (sym (at_written _
            (λ q. lookup (nat_eq q) old.places.entries) node.file None removed file e) ∙ is))
        | inr ne ↦ old.small file p (sym (at_other _ (λ q. lookup
            (nat_eq q) old.places.entries) node.file None removed file ne) ∙ is)
      ];
    }

pub returns-clause-rows : goal.returns-clause-rows
returns-clause-rows g c =
    let slots = c.args.self.now.nodes.slots in
    let id_is = place-high c.args.id c.in-Some.place (sym c.place_of_node.ensures ∙ c.in-Some.is) in
    let updates = c.try_remove.ensures.updates in
    rows-take_out _ slots c.in-Some.place updates.changed updates.others ∙ ap (remove (rows_from 2 slots)) (sym id_is)
