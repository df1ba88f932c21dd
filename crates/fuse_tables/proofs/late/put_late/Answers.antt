use Rattle.std.proofs.Common.{◌≡◌, ◌∙◌, None, ap, arith, subst, sym}
use Rattle.fuse_spec.specs.Values.Maps.{get, put}
use Rattle.fuse_tables.specs.LiveRows.{live}
use Rattle.fuse_tables.specs.LateValues.{with_late}
use Rattle.fuse_tables.proofs.Live.{sorted_live}
use Rattle.fuse_tables.proofs.LateEntries.{absent_both, length_late, row_put, kept_row_put, kept_same}
use Rattle.fuse_tables.proofs.late.put_late.Goals as goal

pub returns-in-Some-clause-entries : goal.returns-in-Some-clause-entries
returns-in-Some-clause-entries g c =
    let late = c.args.late.now.entries in
    let rows = live c.args.rows.now.items in
    let absent = absent_both rows late c.args.key c.requires.absent in
    ap (λ es. with_late es late) c.fill_row.ensures.live
    ∙ row_put rows late c.args.key c.args.value (sorted_live c.args.rows.now.items c.requires.kept.sorted) absent.0

pub returns-in-Some-clause-kept : goal.returns-in-Some-clause-kept
returns-in-Some-clause-kept g c =
    let absent = absent_both (live c.args.rows.now.items) c.args.late.now.entries c.args.key c.requires.absent in
    kept_row_put c.requires.kept c.fill_row.new.rows.items c.args.key c.args.value c.fill_row.ensures.sorted
    c.fill_row.ensures.live absent.0

pub free_row-requires-clause-few : goal.free_row-requires-clause-few
free_row-requires-clause-few g c =
    let fewer = length_late (live c.args.rows.now.items) c.args.late.now.entries
    (sorted_live c.args.rows.now.items c.requires.kept.sorted) in
    omega (arith, fewer, c.requires.few)

pub put_between-requires-clause-kept : goal.put_between-requires-clause-kept
put_between-requires-clause-kept g c =
    kept_same c.requires.kept c.free_row.new.rows.items c.free_row.ensures.sorted c.free_row.ensures.live

pub put_between-requires-clause-absent : goal.put_between-requires-clause-absent
put_between-requires-clause-absent g c =
    subst (λ es. get (with_late es c.args.late.now.entries) c.args.key ≡ None) (sym c.free_row.ensures.live)
    c.requires.absent

pub returns-clause-entries : goal.returns-clause-entries
returns-clause-entries g c =
    c.put_between.ensures.entries
    ∙ ap (λ es. put (with_late es c.args.late.now.entries) c.args.key c.args.value) c.free_row.ensures.live
