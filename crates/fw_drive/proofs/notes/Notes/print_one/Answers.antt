use Rattle.fw_drive.proofs.Texts.{right_then}
use Rattle.fw_drive.proofs.notes.Notes.print_one.Goals as goal

pub returns-in-Ok-clause-printed : goal.returns-in-Ok-clause-printed
returns-in-Ok-clause-printed g c =
    right_then _ c.print_judged.result (g.W.Write.contents c.args.out.now) (g.W.Write.contents c.print_aside.new.out)
    (g.W.Write.contents c.print_judged.new.out) c.args.self.now.is_wrong c.print_judged.new.self.is_wrong
    c.in-Ok.ensures.printed c.print_judged.ensures.printed
