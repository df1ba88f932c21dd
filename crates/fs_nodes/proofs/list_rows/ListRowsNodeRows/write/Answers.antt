use Rattle.std.proofs.Common.{Some, sym, ◌∙◌, ap, subst, arith}
use Rattle.fuse_spec.specs.Values.Maps.{put}
use Rattle.fs_nodes.specs.Rows.{node_of, IsOf}
use Rattle.fs_nodes.specs.Slots.{rows_from}
use Rattle.fs_nodes.proofs.Slots.{get_low, place-low, place-high}
use Rattle.fs_nodes.proofs.Vacant.{kept_within, kept_under, counts_kept, vacant_write, rows_set}
use Rattle.fs_nodes.proofs.list_rows.ListRowsNodeRows.write.Goals as goal

pub put_slot-requires : goal.put_slot-requires
put_slot-requires g c =
    let old = c.args.self.now in
    let some = kept_under old.slots.items c.args.id c.in-Some.place c.args.node.file
    (place-high _ _ (sym c.place_of_node.ensures ∙ c.in-Some.is)) c.requires in
    omega (arith, kept_within old.slots.items c.in-Some.place some, old.slots.ok.0)

pub invariant_of-self : goal.invariant_of-self
invariant_of-self g c =
    let old = c.args.self.now in
    let some = kept_under old.slots.items c.args.id c.in-Some.place c.args.node.file
    (place-high _ _ (sym c.place_of_node.ensures ∙ c.in-Some.is)) c.requires in
    let counts = counts_kept _ old.slots.items c.in-Some.place (Some c.args.node) some c.put_slot.ensures.items in
    record {
      vacant = vacant_write _ c.in-Some.place (Some c.args.node) old.vacant some c.put_slot.ensures.items;
      counted = omega (arith, old.counted, counts.len, counts.count);
      fits = omega (arith, old.fits, counts.len);
    }

pub returns-in-Some-clause-rows : goal.returns-in-Some-clause-rows
returns-in-Some-clause-rows g c =
    let slots = c.args.self.now.slots.items in
    let id_is = place-high c.args.id c.in-Some.place (sym c.place_of_node.ensures ∙ c.in-Some.is) in
    let some = kept_under slots c.args.id c.in-Some.place c.args.node.file id_is c.requires in
    rows_set _ slots c.in-Some.place c.args.node (kept_within slots c.in-Some.place some) c.put_slot.ensures.items ∙ ap
    (λ id. put (rows_from 2 slots) id (node_of c.args.node)) (sym id_is)

pub returns-in_default-clause-rows : goal.returns-in_default-clause-rows
returns-in_default-clause-rows g c =
    let low = get_low c.args.self.now.slots.items c.args.id
    (place-low c.args.id (sym c.place_of_node.ensures ∙ c.in_default.is)) in
    absurd (subst (λ o. IsOf o c.args.node.file) low c.requires)
