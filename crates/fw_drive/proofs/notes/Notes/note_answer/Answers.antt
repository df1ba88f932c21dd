use Rattle.fw_script.specs.Records.{answer_text}
use Rattle.fw_drive.specs.Notes.{notes_text}
use Rattle.fw_drive.proofs.Texts.{gets_then}
use Rattle.fw_drive.proofs.notes.Notes.note_answer.Goals as goal

pub returns-in-Answered-clause-printed : goal.returns-in-Answered-clause-printed
returns-in-Answered-clause-printed g c =
    let (said, more, told) = c.compare.ensures.printed in (
      said,
      gets_then c.compare.result (g.W.Write.contents c.args.out.now) (g.W.Write.contents c.write_record.new.out)
          (g.W.Write.contents c.compare.new.out) (answer_text c.args.call c.args.answer) (notes_text said) c.in-Ok.ensures.ok
          more,
      told,
    )
