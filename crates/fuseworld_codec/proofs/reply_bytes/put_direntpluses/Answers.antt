use Rattle.std.proofs.Common.{refl}
use Rattle.fk_wire.proofs.RecordLists.{pluses_are_named}
use Rattle.fuseworld_codec.proofs.reply_bytes.put_direntpluses.Goals as goal

pub pairs-init : goal.pairs-init
pairs-init c = rw c.into_iter-pair-iterator.ensures.into_iter_gives
    (tt, tt, refl, refl, refl, (λ h. h), pluses_are_named c.args.records)
