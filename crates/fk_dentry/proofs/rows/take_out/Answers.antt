use Rattle.std.proofs.Common.{sym, ◌∙◌, ap}
use Rattle.fuse_spec.specs.Values.Maps.{Place}
use Rattle.fk_dentry.specs.Keys.{sought}
use Rattle.fk_dentry.specs.Rows.{bound_in}
use Rattle.fk_dentry.proofs.KeyedRows.{found_by_key, keeps_by_key, slots-remove, under_key}
use Rattle.fk_dentry.proofs.rows.take_out.Goals as goal

pub returns-in-Some-clause-dentry : goal.returns-in-Some-clause-dentry
returns-in-Some-clause-dentry g c =
    let key : Place = (c.args.directory, c.args.name.now) in
    ap bound_in (sym c.in-Some.is ∙ c.remove.ensures.value
    ∙ found_by_key c.args.rows.now.entries key (sought c.of.result) c.of.ensures)

pub returns-in-Some-clause-slots : goal.returns-in-Some-clause-slots
returns-in-Some-clause-slots g c =
    let key : Place = (c.args.directory, c.args.name.now) in
    slots-remove c.args.rows.now.entries _ key (under_key _ key (sought c.of.result) c.of.ensures _ c.remove.ensures.updates.1)
    (keeps_by_key key (sought c.of.result) c.of.ensures c.args.rows.now.entries _ c.remove.ensures.updates.3)

pub returns-in-None-clause-dentry : goal.returns-in-None-clause-dentry
returns-in-None-clause-dentry g c =
    let key : Place = (c.args.directory, c.args.name.now) in
    ap bound_in (sym c.in-None.is ∙ c.remove.ensures.value
    ∙ found_by_key c.args.rows.now.entries key (sought c.of.result) c.of.ensures)

pub returns-in-None-clause-slots : goal.returns-in-None-clause-slots
returns-in-None-clause-slots g c =
    let key : Place = (c.args.directory, c.args.name.now) in
    slots-remove c.args.rows.now.entries _ key (under_key _ key (sought c.of.result) c.of.ensures _ c.remove.ensures.updates.1)
    (keeps_by_key key (sought c.of.result) c.of.ensures c.args.rows.now.entries _ c.remove.ensures.updates.3)
