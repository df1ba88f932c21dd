use Rattle.std.proofs.Common.{◌∙◌, ap, sym, is_some, Some}
use Rattle.std.specs.Option.{option_copied_mut}
use Rattle.fuse_spec.specs.Values.Maps.{put}
use Rattle.fuse_tables.specs.LiveRows.{live}
use Rattle.fuse_tables.specs.LateValues.{with_late}
use Rattle.fuse_tables.proofs.Live.{sorted_live}
use Rattle.fuse_tables.proofs.LateEntries.{value_row, value_late, row_put, late_put, kept_replaced}
use Rattle.fuse_tables.proofs.late.replace_beside.Goals as goal

pub returns-in-Some-clause-value : goal.returns-in-Some-clause-value
returns-in-Some-clause-value g c = ap Some c.replace.ensures.value
    ∙ sym (value_late c.requires c.args.key c.in-Some.there.now (sym c.in-Some.ensures.value))

pub returns-in-Some-clause-entries : goal.returns-in-Some-clause-entries
returns-in-Some-clause-entries g c = λ _.
    let rows = live c.args.rows.now.items in
    let wrote = c.get_mut.follows.holds c.replace.new.dest in
    late_put rows c.args.late.now.entries (c.get_mut.follows.lender c.replace.new.dest).entries c.args.key
    c.replace.new.dest (sorted_live c.args.rows.now.items c.requires.sorted)
    (wrote.3 (ap is_some (sym c.in-Some.ensures.value))).0
    ∙ ap (put (with_late rows c.args.late.now.entries) c.args.key) c.replace.ensures.after

pub returns-clause-value : goal.returns-clause-value
returns-clause-value g c =
    let none = sym c.get_mut.ensures.value ∙ ap option_copied_mut c.in_default.is in
    c.replace_row.ensures.value ∙ sym (value_row c.requires c.args.key none)

pub returns-clause-entries : goal.returns-clause-entries
returns-clause-entries g c = λ some.
    let rows = live c.args.rows.now.items in
    let late = c.args.late.now.entries in
    let none = sym c.get_mut.ensures.value ∙ ap option_copied_mut c.in_default.is in
    rw c.get_mut.follows.holds-at-none (ap (λ es. with_late es late) (c.replace_row.ensures.live some)
    ∙ row_put rows late c.args.key c.args.value (sorted_live c.args.rows.now.items c.requires.sorted) none)

pub returns-clause-kept : goal.returns-clause-kept
returns-clause-kept g c =
    let none = sym c.get_mut.ensures.value ∙ ap option_copied_mut c.in_default.is in
    rw c.get_mut.follows.holds-at-none (kept_replaced c.requires c.replace_row.new.rows.items c.args.key c.args.value
    c.replace_row.result c.replace_row.ensures.sorted c.replace_row.ensures.live c.replace_row.ensures.absent none)
