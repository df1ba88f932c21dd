use Rattle.std.proofs.Common.{◌++◌, List, ℕ, [], refl, subst}
use Rattle.fw_world.specs.declared.event.Outcome.TheVariants as outcome
use Rattle.fw_drive.specs.Findings.{is_any_wrong}
use Rattle.fw_drive.specs.Notes.{notes_text}
use Rattle.fw_drive.specs.Printed.{IsShownUnique, of_frame, outcome_text}
use Rattle.fw_drive.specs.declared.stop.Stop.TheVariants as stops
use Rattle.fw_drive.proofs.Texts.{gets_more, gets_then, gets_then_at, tells_then}
use Rattle.fw_drive.proofs.exchange.print_reply.Goals as goal

pub returns-in-Err : goal.returns-in-Err
returns-in-Err g c had (own, said, some, tells) =
    let unique = c.shown_unique-unique.result in
    let line = of_frame c.args.form (outcome_text g.row.T-Heap.Denot (outcome.Written unique c.args.written.now.result)) in
    let unprinted = rw c.in-Err.is at own in (
      unprinted,
      said,
      [],
      line,
      (unique, subst (λ (l : List ℕ). IsShownUnique l unique) c.as_slice.ensures.value c.shown_unique-unique.ensures, refl),
      gets_more c.in-Err.stop _ _ (notes_text said) (line ++ []) unprinted (rw c.in-Err.is at some),
      tt,
    )

pub returns-in-Ok-print_frame : goal.returns-in-Ok-print_frame
returns-in-Ok-print_frame g c had (own, said, all, tells) =
    let unique = c.shown_unique-unique.result in
    let line = of_frame c.args.form (outcome_text g.row.T-Heap.Denot (outcome.Written unique c.args.written.now.result)) in
    let (after, more, tell) = c.note_written.ensures.printed in
    let noted = g.W.Write.contents c.args.out.now in
    let mid = g.W.Write.contents c.print_frame.new.out in
    let has = g.W.Write.contents c.note_written.new.out in (
      c.note_written.ensures.own,
      said,
      after,
      line,
      (unique, subst (λ (l : List ℕ). IsShownUnique l unique) c.as_slice.ensures.value c.shown_unique-unique.ensures, refl),
      gets_then c.note_written.result had.0 noted has (notes_text said) (line ++ notes_text after) (rw c.in-Ok.is at all)
          (gets_then c.note_written.result noted mid has line (notes_text after) c.in-Ok-print_frame.ensures.ok more),
      tells_then c.note_written.result had.1 c.args.notes.now.is_wrong c.note_written.new.self.is_wrong (is_any_wrong said)
          (is_any_wrong after) (rw c.in-Ok.is at tells) tell,
    )

pub returns-in-Err-print_frame : goal.returns-in-Err-print_frame
returns-in-Err-print_frame g c had (own, said, all, tells) =
    let unique = c.shown_unique-unique.result in
    let line = of_frame c.args.form (outcome_text g.row.T-Heap.Denot (outcome.Written unique c.args.written.now.result)) in
    let noted = g.W.Write.contents c.args.out.now in
    let has = g.W.Write.contents c.print_frame.new.out in (
      tt,
      said,
      [],
      line,
      (unique, subst (λ (l : List ℕ). IsShownUnique l unique) c.as_slice.ensures.value c.shown_unique-unique.ensures, refl),
      gets_then_at stops.OutputRefused had.0 noted has (notes_text said) (line ++ []) (rw c.in-Ok.is at all)
          (gets_more stops.OutputRefused noted has line [] tt c.in-Err-print_frame.ensures.refused),
      tt,
    )
