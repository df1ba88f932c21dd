use Rattle.fw_drive.specs.Printed.{outcome_text}
use Rattle.fw_drive.specs.declared.stop.Stop.TheVariants as stops
use Rattle.fw_drive.proofs.Texts.{gets_all_at}
use Rattle.fw_drive.proofs.notes.Notes.note_outcome.Goals as goal

pub returns-in-Err-follow-clause-printed : goal.returns-in-Err-follow-clause-printed
returns-in-Err-follow-clause-printed g c =
    gets_all_at stops.NoMemory _ _ (outcome_text g.row.T-Heap.Denot c.args.outcome) c.in-Ok.ensures.ok
