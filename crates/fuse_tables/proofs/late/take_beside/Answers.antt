use Rattle.std.proofs.Common.{◌∙◌, ap, sym, None}
use Rattle.fuse_tables.specs.LiveRows.{live}
use Rattle.fuse_tables.specs.LateValues.{with_late}
use Rattle.fuse_tables.proofs.Live.{sorted_live}
use Rattle.fuse_tables.proofs.LateEntries.{row_none, value_row, value_late, row_gone, late_gone, kept_row_gone, kept_late}
use Rattle.fuse_tables.proofs.late.take_beside.Goals as goal

pub returns-in-Some-clause-value : goal.returns-in-Some-clause-value
returns-in-Some-clause-value g c =
    sym (value_late c.requires c.args.key c.in-Some.value (sym c.in-Some.ensures.value))

pub returns-in-Some-clause-entries : goal.returns-in-Some-clause-entries
returns-in-Some-clause-entries g c =
    late_gone (live c.args.rows.now.items) c.args.late.now.entries c.remove.new.self.entries c.args.key
    (sorted_live c.args.rows.now.items c.requires.sorted)
    (row_none c.requires c.args.key c.in-Some.value (sym c.in-Some.ensures.value)) c.in-Some.ensures.updates.0

pub returns-in-Some-clause-kept : goal.returns-in-Some-clause-kept
returns-in-Some-clause-kept g c =
    kept_late c.requires c.remove.new.self.entries c.args.key None
    (row_none c.requires c.args.key c.in-Some.value (sym c.in-Some.ensures.value)) c.in-Some.ensures.updates.0

pub returns-clause-value : goal.returns-clause-value
returns-clause-value g c =
    c.take_row.ensures.value ∙ sym (value_row c.requires c.args.key (sym c.in_default.ensures.value))

pub returns-clause-entries : goal.returns-clause-entries
returns-clause-entries g c =
    let late = c.args.late.now.entries in
    ap (with_late (live c.take_row.new.rows.items)) c.in_default.ensures.unchanged
    ∙ ap (λ es. with_late es late) c.take_row.ensures.live
    ∙ row_gone (live c.args.rows.now.items) late c.args.key (sorted_live c.args.rows.now.items c.requires.sorted)
    (sym c.in_default.ensures.value)

pub returns-clause-kept : goal.returns-clause-kept
returns-clause-kept g c =
    rw c.in_default.ensures.unchanged (kept_row_gone c.requires c.take_row.new.rows.items c.args.key
    c.take_row.ensures.sorted c.take_row.ensures.live)
