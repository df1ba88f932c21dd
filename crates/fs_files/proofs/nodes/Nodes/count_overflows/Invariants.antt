use Rattle.std.proofs.Common.{◌≡◌, ◌+◌, length}
use Rattle.fs_files.specs.Giving.{AreCountable}
use Rattle.fs_files.proofs.nodes.Nodes.count_overflows.Given as goal

abbrev pub invariant-loop : goal.invariant-loop
invariant-loop g l = (AreCountable l.self.table l.files l.left → AreCountable l.self.table l.files l.files)
    × (l.counter + length l.left ≡ l.end)
