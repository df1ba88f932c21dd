use Rattle.std.proofs.Common.{refl}
use Rattle.fw_drive.specs.Notes.{raised}
use Rattle.fw_drive.proofs.Texts.{says_right, says_right_part}
use Rattle.fw_drive.proofs.notes.Notes.note_raised.Goals as goal

pub returns-in-Ok-clause-printed : goal.returns-in-Ok-clause-printed
returns-in-Ok-clause-printed g c = says_right (raised c.in-Some.minor) _ _ c.in-Ok.ensures.ok refl

pub returns-in-Err-clause-printed : goal.returns-in-Err-clause-printed
returns-in-Err-clause-printed g c = says_right_part (raised c.in-Some.minor) _ _ c.in-Err.ensures.refused refl
