use Rattle.std.proofs.Common.{rules}
use Rattle.fs_serve.proofs.errors.send_error.Goals as goal

pub returns : goal.returns
returns g c = let (log, logs, sends, ends) = c.send_bytes.ensures in
    (log, logs, record { bytes = c.frame_of_error.result; written = search rules; sends = sends }, ends)
