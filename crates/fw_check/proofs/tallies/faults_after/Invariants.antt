use Rattle.std.proofs.Common.{◌≡◌, ◌+◌, take}
use Rattle.std.specs.Prelude.{sum_by}
use Rattle.fw_check.specs.Tallies.{is_of, one_if}
use Rattle.fw_check.proofs.tallies.faults_after.Given as goal

abbrev pub invariant-loop-verdict : goal.invariant-loop-verdict
invariant-loop-verdict l =
    l.faults ≡ l.fn.count + sum_by (λ v. one_if (is_of l.fn.party v)) (take l.verdict-index l.verdicts)
