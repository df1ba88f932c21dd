use Rattle.std.proofs.Common.{◌≡◌, ◌+◌, take}
use Rattle.std.specs.Prelude.{sum_by}
use Rattle.fw_check.specs.Tallies.{entries_of}
use Rattle.fw_check.proofs.tallies.entries_after.Given as goal

abbrev pub invariant-loop-act : goal.invariant-loop-act
invariant-loop-act l = l.entries ≡ l.fn.count + sum_by entries_of (take l.act-index l.acts)
