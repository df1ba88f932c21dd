use Rattle.std.proofs.Common.{refl}
use Rattle.fw_drive.specs.Notes.{compared}
use Rattle.fw_drive.proofs.Texts.{says_right, says_right_part}
use Rattle.fw_drive.proofs.beside.Beside.print_count.Goals as goal

pub returns-in-Ok-clause-printed : goal.returns-in-Ok-clause-printed
returns-in-Ok-clause-printed g c = says_right (compared c.args.self.now.answers c.args.self.now.differences) _ _ c.in-Ok.ensures.ok refl

pub returns-in-Err-clause-printed : goal.returns-in-Err-clause-printed
returns-in-Err-clause-printed g c = says_right_part (compared c.args.self.now.answers c.args.self.now.differences) _ _ c.in-Err.ensures.refused refl
