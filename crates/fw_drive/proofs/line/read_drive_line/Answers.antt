use Rattle.std.proofs.Common.{rules}
use Rattle.fw_drive.specs.DriveLines.{foreign}
use Rattle.fw_drive.proofs.line.read_drive_line.Goals as goal

pub returns-then-begins_foreign : goal.returns-then-begins_foreign
returns-then-begins_foreign c = foreign (search rules)
