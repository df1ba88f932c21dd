use Rattle.fw_drive.proofs.Words.{no_flags}
use Rattle.fw_drive.proofs.line.read_open.Goals as goal

pub returns-in-None : goal.returns-in-None
returns-in-None c = no_flags _ _ _ _ _ c.in_ok-call.ensures c.in-None.ensures
