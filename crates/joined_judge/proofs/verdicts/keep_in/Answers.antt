use Rattle.std.proofs.Common.{arith, rules}
use Rattle.std.proofs.lemmas.List.Edits.{map_over_more}
use Rattle.joined_judge.specs.Judging.{certain_verdict}
use Rattle.joined_judge.proofs.verdicts.keep_in.Goals as goal

pub loop-verdict-preserved : goal.loop-verdict-preserved
loop-verdict-preserved c =
    rw c.certain_verdict.ensures
    (map_over_more certain_verdict c.args.verdicts.now c.loop-verdict.verdicts c.loop-verdict.verdict-index _
    (omega arith) c.loop-verdict.invariant (search rules))
