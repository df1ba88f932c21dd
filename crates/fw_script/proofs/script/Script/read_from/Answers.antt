use Rattle.std.proofs.Common.{List, ℕ, subst}
use Rattle.fw_script.specs.Running.{JudgingEnds, UnreadEnds}
use Rattle.fw_script.proofs.Ending.{judging_unread, reading_unread}
use Rattle.fw_script.proofs.Stepping.{err_by_error}
use Rattle.fw_script.proofs.script.Script.read_from.Goals as goal

pub returns-in_err-text-clause-refused : goal.returns-in_err-text-clause-refused
returns-in_err-text-clause-refused g c =
    let known = g.R.Read.remaining c.args.input.now in
    err_by_error c.from_residual.result c.in_err-text.field-0.0 (UnreadEnds known)
    c.from_residual.ensures.1
    (reading_unread known c.in_err-text.field-0.0 c.in_err-text.ensures.err)

pub returns-in_err-lines-clause-refused : goal.returns-in_err-lines-clause-refused
returns-in_err-lines-clause-refused g c =
    let known = g.R.Read.remaining c.args.input.now in
    err_by_error c.from_residual-in_err-lines.result c.in_err-lines.field-0.0 (UnreadEnds known)
    c.from_residual-in_err-lines.ensures.1
    (judging_unread known c.in_ok-text.text.items c.in_err-lines.field-0.0 c.in_ok-text.ensures.ok
    (subst (λ (text : List ℕ). JudgingEnds text c.in_err-lines.field-0.0) c.as_slice.ensures.value
    c.in_err-lines.ensures.refused))
