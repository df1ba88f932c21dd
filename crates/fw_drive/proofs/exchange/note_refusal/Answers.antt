use Rattle.fw_drive.specs.Notes.{notes_text}
use Rattle.fw_drive.specs.Printed.{of_frame, refusal_text}
use Rattle.fw_drive.specs.declared.stop.Stop.TheVariants as stops
use Rattle.std.proofs.KnownBytes.{Appends-trans}
use Rattle.fw_drive.proofs.Texts.{gets_more, gets_then_at}
use Rattle.fw_drive.proofs.exchange.note_refusal.Goals as goal

pub returns-in-Err : goal.returns-in-Err
returns-in-Err g c had told (own, said, some, tells) =
    let line = of_frame c.args.form (refusal_text g.row.A.Denot c.args.refusal) in
    let unprinted = rw c.in-Err.is at own in (
      unprinted,
      said,
      gets_more c.in-Err.stop had.0 (g.W.Write.contents c.args.out.now) (notes_text said) line unprinted
          (rw c.in-Err.is at some),
      tt,
    )

pub returns-in-Ok-print_refused : goal.returns-in-Ok-print_refused
returns-in-Ok-print_refused g c had told (own, said, all, tells) =
    let line = of_frame c.args.form (refusal_text g.row.A.Denot c.args.refusal) in (
      tt,
      said,
      Appends-trans had.0 (g.W.Write.contents c.args.out.now) (g.W.Write.contents c.print_refused.new.out) (notes_text said)
          line (rw c.in-Ok.is at all) c.in-Ok-print_refused.ensures.ok,
      rw c.in-Ok.is at tells,
    )

pub returns-in-Err-print_refused : goal.returns-in-Err-print_refused
returns-in-Err-print_refused g c had told (own, said, all, tells) =
    let line = of_frame c.args.form (refusal_text g.row.A.Denot c.args.refusal) in (
      tt,
      said,
      gets_then_at stops.OutputRefused had.0 (g.W.Write.contents c.args.out.now)
          (g.W.Write.contents c.print_refused.new.out) (notes_text said) line (rw c.in-Ok.is at all)
          c.in-Err-print_refused.ensures.refused,
      tt,
    )
