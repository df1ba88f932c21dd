use Rattle.std.proofs.Common.{refl}
use Rattle.fk_dentry.proofs.KeyedRows.{keeps_by_key, slots-put, under_key}
use Rattle.fk_dentry.proofs.rows.add.Goals as goal

pub returns-clause-slots : goal.returns-clause-slots
returns-clause-slots g c =
    let updates = c.in_ok-_old.ensures.updates in
    let old = c.args.rows.now.entries in
    let key = c.args.key in
    slots-put old _ key c.args.dentry (under_key _ key key refl _ updates.1)
    (keeps_by_key key key refl old _ updates.3)
