use Rattle.std.proofs.Common.{◌++◌, ◌∙◌, length, refl}
use Rattle.std.proofs.KnownBytes.{Appends-trans}
use Rattle.fw_world.specs.declared.event.Outcome.TheVariants as outcome
use Rattle.fw_drive.specs.Findings.{is_any_wrong}
use Rattle.fw_drive.specs.Notes.{notes_text}
use Rattle.fw_drive.specs.Printed.{of_frame, outcome_text}
use Rattle.fw_drive.specs.declared.stop.Stop.TheVariants as stops
use Rattle.fw_drive.proofs.Following.{collects_failed, collects_given, none_collected}
use Rattle.fw_drive.proofs.OneMove.{request_line}
use Rattle.fw_drive.proofs.Texts.{gets_all_at, gets_more, gets_then_at}
use Rattle.fw_drive.proofs.exchange.note_request.Goals as goal

pub returns-in-Err : goal.returns-in-Err
returns-in-Err g c had (own, said, some, tells) =
    let A = g.row.T-Heap.Denot in
    let line = of_frame c.args.form (outcome_text A (outcome.Read c.head-unique.result.0 c.head-unique.result.1 (length c.bytes-len.result.now))) in
    let has = g.W.Write.contents c.args.out.now in (
      said,
      line,
      request_line A c.args.form c.args.frame.now c.bytes-len.result.now c.head-unique.result.0 c.head-unique.result.1 (length c.bytes-len.result.now)
          c.bytes-len.ensures c.head-unique.ensures.unique c.head-unique.ensures.opcode refl,
      none_collected c.args.form (notes_text said ++ line) (is_any_wrong said) had (has, c.args.notes.now.is_wrong)
          c.args.driver.now c.in-Err.stop (rw c.in-Err.is at own)
          (gets_more c.in-Err.stop had.0 has (notes_text said) line (rw c.in-Err.is at own) (rw c.in-Err.is at some)),
    )

pub returns-then-is_err : goal.returns-then-is_err
returns-then-is_err g c had (own, said, all, tells) =
    let A = g.row.T-Heap.Denot in
    let line = of_frame c.args.form (outcome_text A (outcome.Read c.head-unique.result.0 c.head-unique.result.1 (length c.bytes-len.result.now))) in
    let has = g.W.Write.contents c.args.out.now in (
      said,
      line,
      request_line A c.args.form c.args.frame.now c.bytes-len.result.now c.head-unique.result.0 c.head-unique.result.1 (length c.bytes-len.result.now)
          c.bytes-len.ensures c.head-unique.ensures.unique c.head-unique.ensures.opcode refl,
      none_collected c.args.form (notes_text said ++ line) (is_any_wrong said) had (has, c.note_sent.new.self.is_wrong)
          c.args.driver.now stops.NoMemory tt
          (gets_more stops.NoMemory had.0 has (notes_text said) line tt
          (gets_all_at stops.NoMemory had.0 has (notes_text said) (rw c.in-Ok.is at all))),
    )

pub returns-in-Ok-collect_answers : goal.returns-in-Ok-collect_answers
returns-in-Ok-collect_answers g c had (own, said, all, tells) =
    let A = g.row.T-Heap.Denot in
    let line = of_frame c.args.form (outcome_text A (outcome.Read c.head-unique.result.0 c.head-unique.result.1 (length c.bytes-len.result.now))) in
    let noted = g.W.Write.contents c.args.out.now in
    let mid = g.W.Write.contents c.print_frame.new.out in (
      said,
      line,
      request_line A c.args.form c.args.frame.now c.bytes-len.result.now c.head-unique.result.0 c.head-unique.result.1 (length c.bytes-len.result.now)
          c.bytes-len.ensures c.head-unique.ensures.unique c.head-unique.ensures.opcode refl,
      collects_given c.args.form (notes_text said ++ line) (is_any_wrong said) had (mid, c.note_sent.new.self.is_wrong)
          (g.W.Write.contents c.collect_answers.new.out, c.collect_answers.new.notes.is_wrong)
          c.args.driver.now c.collect_answers.new.driver _ _
          (Appends-trans had.0 noted mid (notes_text said) line (rw c.in-Ok.is at all) c.in-Ok-print_frame.ensures.ok)
          (c.note_sent.ensures ∙ rw c.in-Ok.is at tells) (c.in-Ok-collect_answers.ensures c.args.form),
    )

pub returns-in-Err-collect_answers : goal.returns-in-Err-collect_answers
returns-in-Err-collect_answers g c had (own, said, all, tells) =
    let A = g.row.T-Heap.Denot in
    let line = of_frame c.args.form (outcome_text A (outcome.Read c.head-unique.result.0 c.head-unique.result.1 (length c.bytes-len.result.now))) in
    let noted = g.W.Write.contents c.args.out.now in
    let mid = g.W.Write.contents c.print_frame.new.out in (
      said,
      line,
      request_line A c.args.form c.args.frame.now c.bytes-len.result.now c.head-unique.result.0 c.head-unique.result.1 (length c.bytes-len.result.now)
          c.bytes-len.ensures c.head-unique.ensures.unique c.head-unique.ensures.opcode refl,
      collects_failed c.args.form (notes_text said ++ line) (is_any_wrong said) had (mid, c.note_sent.new.self.is_wrong)
          (g.W.Write.contents c.collect_answers.new.out, c.collect_answers.new.notes.is_wrong)
          c.args.driver.now c.collect_answers.new.driver c.in-Err-collect_answers.stop
          (Appends-trans had.0 noted mid (notes_text said) line (rw c.in-Ok.is at all) c.in-Ok-print_frame.ensures.ok)
          (c.in-Err-collect_answers.ensures c.args.form),
    )

pub returns-in-Err-print_frame : goal.returns-in-Err-print_frame
returns-in-Err-print_frame g c had (own, said, all, tells) =
    let A = g.row.T-Heap.Denot in
    let line = of_frame c.args.form (outcome_text A (outcome.Read c.head-unique.result.0 c.head-unique.result.1 (length c.bytes-len.result.now))) in
    let noted = g.W.Write.contents c.args.out.now in
    let has = g.W.Write.contents c.print_frame.new.out in (
      said,
      line,
      request_line A c.args.form c.args.frame.now c.bytes-len.result.now c.head-unique.result.0 c.head-unique.result.1 (length c.bytes-len.result.now)
          c.bytes-len.ensures c.head-unique.ensures.unique c.head-unique.ensures.opcode refl,
      none_collected c.args.form (notes_text said ++ line) (is_any_wrong said) had (has, c.note_sent.new.self.is_wrong)
          c.args.driver.now stops.OutputRefused tt
          (gets_then_at stops.OutputRefused had.0 noted has (notes_text said) line (rw c.in-Ok.is at all) c.in-Err-print_frame.ensures.refused),
    )
