use Rattle.std.proofs.Common.{◌∙◌, ap, arith}
use Rattle.fuse_spec.specs.Values.Maps.{put}
use Rattle.fuse_tables.specs.LiveRows.{live}
use Rattle.fuse_tables.specs.LateValues.{with_late}
use Rattle.fuse_tables.proofs.Live.{sorted_live}
use Rattle.fuse_tables.proofs.LateEntries.{absent_both, length_late, row_put, kept_row_put}
use Rattle.fuse_tables.proofs.late.put_value.Goals as goal

pub free_row-requires-clause-few : goal.free_row-requires-clause-few
free_row-requires-clause-few g c =
    let fewer = length_late (live c.args.rows.now.items) c.args.late.now.entries
    (sorted_live c.args.rows.now.items c.requires.kept.sorted) in
    omega (arith, fewer, c.requires.few)

pub push_last-requires-clause-above : goal.push_last-requires-clause-above
push_last-requires-clause-above g c = c.free_row.ensures.above c.args.key (c.is_above.ensures c.if-is_above.true)

pub returns-then-is_above-clause-entries : goal.returns-then-is_above-clause-entries
returns-then-is_above-clause-entries g c =
    let rows = live c.args.rows.now.items in
    let late = c.args.late.now.entries in
    let absent = absent_both rows late c.args.key c.requires.absent in
    ap (λ es. with_late es late) (c.push_last.ensures.live
    ∙ ap (λ es. put es c.args.key c.args.value) c.free_row.ensures.live)
    ∙ row_put rows late c.args.key c.args.value (sorted_live c.args.rows.now.items c.requires.kept.sorted) absent.0

pub returns-then-is_above-clause-kept : goal.returns-then-is_above-clause-kept
returns-then-is_above-clause-kept g c =
    let rows = live c.args.rows.now.items in
    let absent = absent_both rows c.args.late.now.entries c.args.key c.requires.absent in
    kept_row_put c.requires.kept c.push_last.new.rows.items c.args.key c.args.value c.push_last.ensures.sorted
    (c.push_last.ensures.live ∙ ap (λ es. put es c.args.key c.args.value) c.free_row.ensures.live) absent.0
