use Rattle.std.proofs.Common.{[], ◌∷◌, refl}
use Rattle.fuse_device.specs.Transfers.{sent, unsent}
use Rattle.fs_serve.specs.Sending.{with_result, at_end}
use Rattle.fs_serve.proofs.errors.send_bytes.Goals as goal

pub returns-in-Ok : goal.returns-in-Ok
returns-in-Ok g c = (sent c.args.bytes.now c.in-Ok._result ∷ [], c.in-Ok.ensures.result, with_result c.in-Ok._result, refl)

pub returns-in-Err : goal.returns-in-Err
returns-in-Err g c = (unsent c.args.bytes.now c.in-Err.end ∷ [], c.in-Err.ensures.end, at_end c.in-Err.end, refl)
