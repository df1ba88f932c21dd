use Rattle.std.proofs.Common.{[], refl}
use Rattle.fs_serve.specs.Sending.{replied, unreplied}
use Rattle.fs_serve.proofs.errors.send_fault.Goals as goal

pub returns-in-Some : goal.returns-in-Some
returns-in-Some g c = let (log, logs, sends, ends) = c.send_bytes.ensures in
    (log, logs, replied c.in-Some.reply c.in-Some.ensures log sends, ends)

pub returns-in-None : goal.returns-in-None
returns-in-None g c = ([], g.met.D.Device.stays c.args.device.now, unreplied c.in-None.ensures, refl)
