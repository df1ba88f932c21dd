use Rattle.std.proofs.Common.{◌≡◌, ◌++◌, map, take, drop}
use Rattle.fw_check.specs.Asked.{asked_verdict}
use Rattle.fw_check.proofs.asked.keep_in.Given as goal

-- what the loop has passed has no fault that is not asked for, and the rest is as it was
abbrev pub invariant-loop-verdict : goal.invariant-loop-verdict
invariant-loop-verdict l =
    l.verdicts ≡ map (asked_verdict l.fn.only) (take l.verdict-index l.initial.verdicts) ++ drop l.verdict-index l.initial.verdicts
