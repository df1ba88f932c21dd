use Rattle.std.proofs.Common.{◌∙◌, ap, Some}
use Rattle.fuse_tables.specs.LiveRows.{live}
use Rattle.fuse_tables.specs.LateValues.{with_late}
use Rattle.fuse_tables.proofs.Live.{sorted_live}
use Rattle.fuse_tables.proofs.LateEntries.{absent_both, row_put, late_put, kept_row_put, kept_late}
use Rattle.fuse_tables.proofs.late.put_between.Goals as goal

pub returns-then-capacity-le-FEW-clause-entries : goal.returns-then-capacity-le-FEW-clause-entries
returns-then-capacity-le-FEW-clause-entries g c =
    let late = c.args.late.now.entries in
    let rows = live c.args.rows.now.items in
    let absent = absent_both rows late c.args.key c.requires.absent in
    ap (λ es. with_late es late) c.put_row.ensures.live
    ∙ row_put rows late c.args.key c.args.value (sorted_live c.args.rows.now.items c.requires.kept.sorted) absent.0

pub returns-then-capacity-le-FEW-clause-kept : goal.returns-then-capacity-le-FEW-clause-kept
returns-then-capacity-le-FEW-clause-kept g c =
    let absent = absent_both (live c.args.rows.now.items) c.args.late.now.entries c.args.key c.requires.absent in
    kept_row_put c.requires.kept c.put_row.new.rows.items c.args.key c.args.value c.put_row.ensures.sorted
    c.put_row.ensures.live absent.0

pub returns-in-Ok-clause-entries : goal.returns-in-Ok-clause-entries
returns-in-Ok-clause-entries g c =
    let rows = live c.args.rows.now.items in
    late_put rows c.args.late.now.entries c.insert.new.self.entries c.args.key c.args.value
    (sorted_live c.args.rows.now.items c.requires.kept.sorted) c.in-Ok.ensures.updates.0

pub returns-in-Ok-clause-kept : goal.returns-in-Ok-clause-kept
returns-in-Ok-clause-kept g c =
    let rows = live c.args.rows.now.items in
    let absent = absent_both rows c.args.late.now.entries c.args.key c.requires.absent in
    kept_late c.requires.kept c.insert.new.self.entries c.args.key (Some c.args.value) absent.1
    c.in-Ok.ensures.updates.0

pub returns-clause-entries : goal.returns-clause-entries
returns-clause-entries g c =
    let rows = live c.args.rows.now.items in
    let absent = absent_both rows c.args.late.now.entries c.args.key c.requires.absent in
    let sorted = sorted_live c.args.rows.now.items c.requires.kept.sorted in
    let value = ap (λ p. p.1) c.in-Err.ensures.value_returned in
    ap (λ os. with_late (live c.put_row-in-Err.new.rows.items) os) c.in-Err.ensures.err
    ∙ ap (λ es. with_late es c.args.late.now.entries) c.put_row-in-Err.ensures.live
    ∙ row_put rows c.args.late.now.entries c.args.key c.in-Err.back.value.1 sorted absent.0
    ∙ ap (λ v. Rattle.fuse_spec.specs.Values.Maps.put (with_late rows c.args.late.now.entries) c.args.key v) value

pub returns-clause-kept : goal.returns-clause-kept
returns-clause-kept g c =
    let rows = live c.args.rows.now.items in
    let absent = absent_both rows c.args.late.now.entries c.args.key c.requires.absent in
    rw c.in-Err.ensures.err (kept_row_put c.requires.kept c.put_row-in-Err.new.rows.items c.args.key c.in-Err.back.value.1
    c.put_row-in-Err.ensures.sorted c.put_row-in-Err.ensures.live absent.0)
