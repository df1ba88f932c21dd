use Rattle.std.proofs.Common.{refl}
use Rattle.fk_wire.proofs.RecordLists.{records_are_named}
use Rattle.fuseworld_codec.proofs.reply_bytes.put_dirents.Goals as goal

pub records-init : goal.records-init
records-init c = rw c.into_iter-dirent-iterator.ensures.into_iter_gives
    (tt, tt, refl, refl, refl, (λ h. h), records_are_named c.args.records)
