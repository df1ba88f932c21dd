use Rattle.std.proofs.Common.{◌≡◌, ◌≤◌, ◌+◌, length}
use Rattle.fs_files.specs.Giving.{has_node_already, new_among}
use Rattle.fs_files.proofs.nodes.Nodes.new_among.Given as goal

abbrev pub invariant-loop : goal.invariant-loop
invariant-loop g l =
    (l.count + new_among (has_node_already l.self.table) l.left ≡ new_among (has_node_already l.self.table) l.files)
    × (l.count + length l.left ≤ length l.files) × (l.counter + length l.left ≡ l.end)
