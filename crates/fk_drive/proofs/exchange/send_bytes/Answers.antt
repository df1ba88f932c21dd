use Rattle.std.proofs.Common.{[], ◌∷◌, refl}
use Rattle.fuse_device.specs.Transfers.{sent, unsent}
use Rattle.fk_drive.specs.Driving.{at_end, with_result}
use Rattle.fk_drive.proofs.exchange.send_bytes.Goals as goal

pub returns-in-Ok : goal.returns-in-Ok
returns-in-Ok g c =
    (sent c.args.bytes.now c.in-Ok._result ∷ [], c.in-Ok.ensures.result, refl, with_result c.in-Ok._result)

pub returns-in-Err : goal.returns-in-Err
returns-in-Err g c =
    (unsent c.args.bytes.now c.in-Err.unsent ∷ [], c.in-Err.ensures.end, (refl, refl), at_end c.in-Err.unsent)
