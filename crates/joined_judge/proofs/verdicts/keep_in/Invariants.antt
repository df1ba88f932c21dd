use Rattle.std.proofs.Common.{◌≡◌, ◌++◌, map, take, drop}
use Rattle.joined_judge.specs.Judging.{certain_verdict}
use Rattle.joined_judge.proofs.verdicts.keep_in.Given as goal

-- what the loop has passed has no fault that is not certain, and the rest is as it was
abbrev pub invariant-loop-verdict : goal.invariant-loop-verdict
invariant-loop-verdict l =
    l.verdicts ≡ map certain_verdict (take l.verdict-index l.initial.verdicts) ++ drop l.verdict-index l.initial.verdicts
