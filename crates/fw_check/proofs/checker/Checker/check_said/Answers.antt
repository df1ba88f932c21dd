use Rattle.std.proofs.Common.{subst, ◌∙◌}
use Rattle.std.specs.Io.KnownBytes.{Appends}
use Rattle.fuse_text.specs.Outputs.{AppendsSome}
use Rattle.fw_check.proofs.CheckLaws.{from_no_error}
use Rattle.fw_check.proofs.checker.Checker.check_said.Goals as goal

pub returns-in-Ok : goal.returns-in-Ok
returns-in-Ok g c j kept =
    let line = c.judge_line in
    let (so, text) = from_no_error _ line.result c.is_err.result c.is_err.ensures.value c.if-is_err.false line.ensures j kept in (
      line.new.self.acts.items,
      line.new.self.verdicts.items,
      so,
      subst (Appends (g.W.Write.contents c.args.out.now) (g.W.Write.contents c.print.new.out))
          (c.as_slice.ensures.value ∙ text) c.in-Ok.ensures.ok,
    )

pub returns-in-Err : goal.returns-in-Err
returns-in-Err g c j kept =
    let line = c.judge_line in
    let (so, text) = from_no_error _ line.result c.is_err.result c.is_err.ensures.value c.if-is_err.false line.ensures j kept in (
      line.new.self.acts.items,
      line.new.self.verdicts.items,
      so,
      subst (AppendsSome (g.W.Write.contents c.args.out.now) (g.W.Write.contents c.print.new.out))
          (c.as_slice.ensures.value ∙ text) c.in-Err.ensures.refused,
    )
