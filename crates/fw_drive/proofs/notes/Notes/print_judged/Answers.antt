use Rattle.std.proofs.Common.{refl}
use Rattle.fw_drive.specs.Notes.{wrong}
use Rattle.fw_drive.proofs.Texts.{says_part, says_wrong}
use Rattle.fw_drive.proofs.notes.Notes.print_judged.Goals as goal

pub returns-in-Ok-clause-printed : goal.returns-in-Ok-clause-printed
returns-in-Ok-clause-printed g c =
    says_wrong (wrong c.in-Ok-Some.fault) _ _ c.in-Ok.ensures.ok refl c.args.self.now.is_wrong

pub returns-in-Err-print_fault-clause-printed : goal.returns-in-Err-print_fault-clause-printed
returns-in-Err-print_fault-clause-printed g c = says_part (wrong c.in-Ok-Some.fault) _ _ c.in-Err-print_fault.ensures.refused
