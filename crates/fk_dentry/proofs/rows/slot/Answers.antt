use Rattle.std.proofs.Common.{◌∙◌}
use Rattle.fuse_spec.specs.Values.Maps.{Place}
use Rattle.fk_dentry.specs.Keys.{sought}
use Rattle.fk_dentry.proofs.KeyedRows.{found_by_key}
use Rattle.fk_dentry.proofs.rows.slot.Goals as goal

pub returns : goal.returns
returns g c =
    let key : Place = (c.args.directory, c.args.name.now) in
    c.copied.ensures ∙ c.get.ensures.value ∙ found_by_key c.args.rows.now.entries key (sought c.of.result) c.of.ensures
