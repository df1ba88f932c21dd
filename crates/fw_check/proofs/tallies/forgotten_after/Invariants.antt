use Rattle.std.proofs.Common.{◌≡◌, ◌+◌, take}
use Rattle.std.specs.Prelude.{sum_by}
use Rattle.fw_check.specs.Tallies.{forgotten_by}
use Rattle.fw_check.proofs.tallies.forgotten_after.Given as goal

abbrev pub invariant-loop-act : goal.invariant-loop-act
invariant-loop-act l = l.forgotten ≡ l.fn.count + sum_by forgotten_by (take l.act-index l.acts)
