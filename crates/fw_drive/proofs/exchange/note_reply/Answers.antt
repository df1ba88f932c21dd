use Rattle.std.proofs.Common.{◌++◌, ◌||◌, List, ℕ, append_assoc, inl, inr, refl, subst, sym}
use Rattle.fw_drive.specs.Findings.{Told, is_any_wrong}
use Rattle.fw_drive.specs.Notes.{notes_text}
use Rattle.fw_drive.specs.Printed.{GetsAt}
use Rattle.fw_drive.proofs.Following.{collects_failed, collects_given, said_alone, said_within}
use Rattle.fw_drive.proofs.OneMove.{ends_behind, ends_some, if_none, if_some}
use Rattle.fw_drive.proofs.Texts.{gets_all_at}
use Rattle.fw_drive.proofs.exchange.note_reply.Goals as goal

pub returns-in-Err-clause-some : goal.returns-in-Err-clause-some
returns-in-Err-clause-some g c had noted =
    let (own, before, after, line, is, some, tells) = c.in-Err.ensures had noted in
    if_some c.args.written.now.end _
    (λ end. (
      refl,
      ends_behind c.args.form c.args.written.now end _ _ c.in-Err.stop (inr own) before after
          line is some,
    ))

pub returns-in-Err-clause-none : goal.returns-in-Err-clause-none
returns-in-Err-clause-none g c had noted =
    let (own, before, after, line, is, some, tells) = c.in-Err.ensures had noted in
    if_none c.args.written.now.end _ (
      before,
      line,
      is,
      said_alone c.args.form (notes_text before ++ line) (is_any_wrong before) had
          (g.W.Write.contents c.print_reply.new.out, c.print_reply.new.notes.is_wrong) c.args.driver.now c.in-Err.stop
          own after
          (subst (λ (l : List ℕ). GetsAt c.in-Err.stop had.0
          (g.W.Write.contents c.print_reply.new.out) l) (sym (append_assoc (notes_text before) line (notes_text after))) some),
    )

pub returns-in-Some-clause-some : goal.returns-in-Some-clause-some
returns-in-Some-clause-some g c had noted =
    let (own, before, after, line, is, all, tells) = c.in_default.ensures had noted in
    let has = g.W.Write.contents c.print_reply.new.out in
    ends_some c.args.form c.args.written.now c.args.written.now.end c.in-Some.end had.0 has c.args.driver.now _ c.in-Some.is
    (ends_behind c.args.form c.args.written.now c.in-Some.end had.0 has c.stop_at.result (inl c.stop_at.ensures) before after
    line is (gets_all_at c.stop_at.result had.0 has (notes_text before ++ (line ++ notes_text after)) all))

pub returns-in-Ok-clause-none : goal.returns-in-Ok-clause-none
returns-in-Ok-clause-none g c had noted =
    let (own, before, after, line, is, all, tells) = c.in_default.ensures had noted in
    let mid : Told = (g.W.Write.contents c.print_reply.new.out, c.print_reply.new.notes.is_wrong) in
    let has : Told = (g.W.Write.contents c.collect_answers.new.out, c.collect_answers.new.notes.is_wrong) in
    if_none c.args.written.now.end _ (
      before,
      line,
      is,
      said_within c.args.form had has c.args.driver.now c.collect_answers.new.driver _
          (notes_text before ++ line) (is_any_wrong before) after
          (collects_given c.args.form ((notes_text before ++ line) ++ notes_text after)
          (is_any_wrong before || is_any_wrong after) had mid has c.args.driver.now
          c.collect_answers.new.driver _ _ (rw (append_assoc (notes_text before) line (notes_text after)) all) tells
          (c.in-Ok.ensures c.args.form)),
    )

pub returns-in-Err-collect_answers-clause-none : goal.returns-in-Err-collect_answers-clause-none
returns-in-Err-collect_answers-clause-none g c had noted =
    let (own, before, after, line, is, all, tells) = c.in_default.ensures had noted in
    let mid : Told = (g.W.Write.contents c.print_reply.new.out, c.print_reply.new.notes.is_wrong) in
    let has : Told = (g.W.Write.contents c.collect_answers.new.out, c.collect_answers.new.notes.is_wrong) in
    if_none c.args.written.now.end _ (
      before,
      line,
      is,
      said_within c.args.form had has c.args.driver.now c.collect_answers.new.driver _
          (notes_text before ++ line) (is_any_wrong before) after
          (collects_failed c.args.form ((notes_text before ++ line) ++ notes_text after)
          (is_any_wrong before || is_any_wrong after) had mid has c.args.driver.now
          c.collect_answers.new.driver c.in-Err-collect_answers.stop
          (rw (append_assoc (notes_text before) line (notes_text after)) all)
          (c.in-Err-collect_answers.ensures c.args.form)),
    )
