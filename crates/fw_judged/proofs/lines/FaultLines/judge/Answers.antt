use Rattle.std.proofs.Common.{◌≡◌, ◌∙◌, List, ℕ, refl, subst, sym}
use Rattle.std.specs.Io.KnownBytes.{Appends}
use Rattle.fuse_text.specs.Outputs.{AppendsSome}
use Rattle.fw_judged.specs.declared.form.Form.{Form}
use Rattle.fw_judged.specs.declared.stage.Stage.TheVariants as stage
use Rattle.fw_judged.specs.Judged.{Judges, LinesState, state_of}
use Rattle.fw_judged.proofs.Stepping.{err_holds, judged_refused, judged_whole, ok_holds}
use Rattle.fw_judged.proofs.lines.FaultLines.judge.Goals as goal

pub returns-then-is_err : goal.returns-then-is_err
returns-then-is_err g c f s right judging =
    let text = c.judge_next-judged.new.text.items in
    let had = g.W.Write.contents c.args.self.now.out in
    let has = g.W.Write.contents c.print.new.out in
    let new : LinesState = record {
      judge = c.judge_next-judged.new.judge;
      number = c.in-Ok.number;
      form = c.args.self.now.form;
      stage = stage.Refused;
      counts = c.in-Ok.counts;
    } in
    let (later, judges, seen, counted) = c.in-Ok.ensures s (right.judged judging) right.counts in
    judged_refused f (λ said. said ≡ c.args.transfer) (state_of c.args.self.now) new had has s later text right.form judging refl
    (subst (λ (form : Form). Judges form (λ said. said ≡ c.args.transfer) s later text) right.form judges) counted
    (subst (λ (l : List ℕ). AppendsSome had has l) c.as_slice.ensures.value
    (err_holds (AppendsSome had has c.as_slice.result.now) c.print.result (sym c.is_err.ensures.value ∙ c.if-is_err.true)
    c.print.ensures.refused))

pub returns-else-is_err : goal.returns-else-is_err
returns-else-is_err g c f s right judging =
    let text = c.judge_next-judged.new.text.items in
    let had = g.W.Write.contents c.args.self.now.out in
    let has = g.W.Write.contents c.print.new.out in
    let new : LinesState = record {
      judge = c.judge_next-judged.new.judge;
      number = c.in-Ok.number;
      form = c.args.self.now.form;
      stage = c.args.self.now.stage;
      counts = c.in-Ok.counts;
    } in
    let (later, judges, seen, counted) = c.in-Ok.ensures s (right.judged judging) right.counts in
    judged_whole f (λ said. said ≡ c.args.transfer) (state_of c.args.self.now) new had has s later text right.form judging judging
    (subst (λ (form : Form). Judges form (λ said. said ≡ c.args.transfer) s later text) right.form judges) seen counted
    (subst (λ (l : List ℕ). Appends had has l) c.as_slice.ensures.value
    (ok_holds (Appends had has c.as_slice.result.now) c.print.result (sym c.is_err.ensures.value ∙ c.if-is_err.false)
    c.print.ensures.ok))
