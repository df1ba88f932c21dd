use Rattle.fw_drive.specs.Findings.{is_any_wrong}
use Rattle.fw_drive.specs.Notes.{notes_text}
use Rattle.std.proofs.KnownBytes.{Appends-kept}
use Rattle.fw_drive.proofs.Texts.{gets_all, told_given}
use Rattle.fw_drive.proofs.notes.Notes.print_noted.Goals as goal

pub returns-in-Ok : goal.returns-in-Ok
returns-in-Ok g c =
    let (said, all, told) = c.in-Ok.ensures.printed in
    let had = g.W.Write.contents c.args.out.now in
    let mid = g.W.Write.contents c.print_one.new.out in
    let has = g.W.Write.contents c.flush.new.out in (
      c.flush.ensures.own,
      said,
      gets_all c.flush.result had has (notes_text said) (Appends-kept had mid has (notes_text said) all c.flush.ensures.keeps),
      told_given c.flush.result c.args.self.now.is_wrong c.print_one.new.self.is_wrong (is_any_wrong said) told,
    )

pub returns-in-Err : goal.returns-in-Err
returns-in-Err g c = let (said, some, told) = c.in-Err.ensures.printed in (c.in-Err.ensures.own, said, some, told)
