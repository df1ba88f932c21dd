use Rattle.std.proofs.Common.{arith, rules}
use Rattle.std.proofs.lemmas.List.Edits.{map_over_more}
use Rattle.fw_check.specs.Asked.{asked_verdict}
use Rattle.fw_check.proofs.asked.keep_in.Goals as goal

pub loop-verdict-preserved : goal.loop-verdict-preserved
loop-verdict-preserved c =
    rw c.asked_verdict.ensures
    (map_over_more (asked_verdict c.args.only) c.args.verdicts.now c.loop-verdict.verdicts c.loop-verdict.verdict-index _
    (omega arith) c.loop-verdict.invariant (search rules))
