use Rattle.std.proofs.Common.{Bool, List, ℕ, Result, subst, sym}
use Rattle.fw_script.specs.Running.{IsEither, JudgingEnds, OverEnds, Say, SessionEnds}
use Rattle.fw_script.specs.Scripts.{IsRunOver}
use Rattle.fuse_text.specs.Lines.{lines_of}
use Rattle.fw_script.specs.declared.line.Line.{Line}
use Rattle.fuse_text.specs.declared.stop.Stop.{Stop}
use Rattle.fw_script.specs.declared.line.LineFault.{LineFault}
use Rattle.fw_script.proofs.Ending.{judged_ends, ran_over_ends, unread_ends}
use Rattle.fw_script.proofs.Stepping.{by_error}
use Rattle.fw_script.proofs.script.run_input_over.Goals as goal

pub returns-in_err-script-clause-ends : goal.returns-in_err-script-clause-ends
returns-in_err-script-clause-ends g c =
    let known = g.R.Read.remaining c.args.input.now in
    let old = g.W.Write.contents c.args.out.now in
    by_error c.from_residual.result c.in_err-script.field-0.0
    (λ (r : Result Bool (Stop LineFault)). OverEnds (IsRunOver _ g.L.Link.carries g.L.Link.failed c.args.link c.args.hex) known r old old)
    c.from_residual.ensures.1
    (unread_ends Bool (IsEither (IsRunOver _ g.L.Link.carries g.L.Link.failed c.args.link c.args.hex)) known c.in_err-script.field-0.0 old
    c.in_err-script.ensures.err)

pub returns-in_err-lines-clause-ends : goal.returns-in_err-lines-clause-ends
returns-in_err-lines-clause-ends g c =
    let known = g.R.Read.remaining c.args.input.now in
    let old = g.W.Write.contents c.args.out.now in
    by_error c.from_residual-in_err-lines.result c.in_err-lines.field-0.0
    (λ (r : Result Bool (Stop LineFault)). OverEnds (IsRunOver _ g.L.Link.carries g.L.Link.failed c.args.link c.args.hex) known r old old)
    c.from_residual-in_err-lines.ensures.1
    (judged_ends Bool (IsEither (IsRunOver _ g.L.Link.carries g.L.Link.failed c.args.link c.args.hex)) known c.in_ok-script.script.items
    c.in_err-lines.field-0.0 old c.in_ok-script.ensures.ok
    (subst (λ (text : List ℕ). JudgingEnds text c.in_err-lines.field-0.0) c.as_slice.ensures.value
    c.in_err-lines.ensures.refused))

pub returns-clause-ends : goal.returns-clause-ends
returns-clause-ends g c =
    let known = g.R.Read.remaining c.args.input.now in
    let said = subst (λ (lines : List Line). Say (lines_of c.as_slice.result.now) lines) (sym c.as_slice-2.ensures.value)
    c.in_ok-lines.ensures.say in
    ran_over_ends (IsRunOver _ g.L.Link.carries g.L.Link.failed c.args.link c.args.hex) known c.in_ok-script.script.items c.run_session.result
    (g.W.Write.contents c.args.out.now) (g.W.Write.contents c.run_session.new.out) c.in_ok-script.ensures.ok
    (subst (λ (text : List ℕ). SessionEnds (IsRunOver _ g.L.Link.carries g.L.Link.failed c.args.link c.args.hex) (lines_of text) c.run_session.result
    (g.W.Write.contents c.args.out.now) (g.W.Write.contents c.run_session.new.out)) c.as_slice.ensures.value
    (c.run_session.ensures (lines_of c.as_slice.result.now) said))
