use Rattle.std.proofs.Common.{subst}
use Rattle.std.specs.Io.KnownBytes.{Appends}
use Rattle.fuse_text.specs.Outputs.{AppendsSome}
use Rattle.fw_check.proofs.CheckLaws.{not_begun}
use Rattle.fw_check.proofs.check.check_all.Goals as goal

pub returns-in-Ok : goal.returns-in-Ok
returns-in-Ok g c kept =
    let had = g.W.Write.contents c.args.out.now in
    c.check_rest.ensures had (subst (Appends had (g.W.Write.contents c.print.new.out)) c.head_text.ensures c.in-Ok.ensures.ok)
    kept

pub returns-in-Err : goal.returns-in-Err
returns-in-Err g c kept =
    let had = g.W.Write.contents c.args.out.now in
    let has = g.W.Write.contents c.print.new.out in
    not_begun c.args.options (g.R.Read.remaining c.args.input.now) had has
    (subst (AppendsSome had has) c.head_text.ensures c.in-Err.ensures.refused)
