use Rattle.std.proofs.Common.{ap, arith, drop, ◌+◌, sym, ◌∙◌}
use Rattle.std.proofs.lemmas.List.{drop_more}
use Rattle.fw_check.specs.Names.{removal_in}
use Rattle.fw_check.proofs.NameLaws.{removal_passed}
use Rattle.fw_check.proofs.names.removal_in.Goals as goal

pub loop-act-preserved : goal.loop-act-preserved
loop-act-preserved c =
    let acts = c.args.acts.now in
    let i = c.loop-act.act-index in
    sym (removal_passed _ (drop (i + 1) acts) c.in_default.not-Read)
    ∙ ap removal_in (sym (drop_more acts i _ (omega arith)))
    ∙ c.loop-act.invariant
