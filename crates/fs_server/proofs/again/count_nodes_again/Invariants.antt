use Rattle.std.proofs.Common.{◌≡◌, drop}
use Rattle.fuse_spec.specs.Server.Copies.{rows_counted}
use Rattle.fs_files.specs.Giving.{files_of}
use Rattle.fs_files.proofs.HeldBelow.{IsWithin}
use Rattle.fs_server.proofs.again.count_nodes_again.Given as goal

abbrev pub invariant-loop-entry : goal.invariant-loop-entry
invariant-loop-entry g l =
    (rows_counted l.files.nodes (drop l.entry-index l.entries) ≡ rows_counted l.fn.files.nodes l.entries)
    × IsWithin l.files.nodes (files_of l.files.nodes (drop l.entry-index l.entries))
    × (l.files.tree ≡ l.fn.files.tree)
    × (l.files.handles ≡ l.fn.files.handles)
