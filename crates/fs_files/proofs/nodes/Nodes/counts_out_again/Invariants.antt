use Rattle.std.proofs.Common.{◌≡◌, ◌+◌, length}
use Rattle.fs_files.specs.Giving.{AreCountable, files_of}
use Rattle.fs_files.proofs.nodes.Nodes.counts_out_again.Given as goal

abbrev pub invariant-loop : goal.invariant-loop
invariant-loop g l =
    (AreCountable l.self.table (files_of l.self.table l.entries) (files_of l.self.table l.left)
    → AreCountable l.self.table (files_of l.self.table l.entries) (files_of l.self.table l.entries))
    × (l.counter + length l.left ≡ l.end)
