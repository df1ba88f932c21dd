use Rattle.std.proofs.Common.{◌∙◌, sym}
use Rattle.fuse_tables.proofs.LateEntries.{value_late, value_row}
use Rattle.fuse_tables.proofs.late.value_beside.Goals as goal

pub returns-in-Some : goal.returns-in-Some
returns-in-Some g c = sym (value_late c.requires c.args.key c.in-Some.value.now (sym c.in-Some.ensures.value))

pub returns : goal.returns
returns g c = c.value_in.ensures ∙ sym (value_row c.requires c.args.key (sym c.in_default.ensures.value))
