use Rattle.std.proofs.Common.{◌≡◌, drop}
use Rattle.fuse_spec.specs.Server.Copies.{rows_back}
use Rattle.fs_server.specs.Effects.{DiscardsUnheld}
use Rattle.fs_server.proofs.settle.entries_back.Given as goal

abbrev pub invariant-loop-entry : goal.invariant-loop-entry
invariant-loop-entry g l = (rows_back l.files.nodes (drop l.entry-index l.entries)
    ≡ rows_back l.fn.files.nodes l.entries)
    × DiscardsUnheld l.fn.files l.files.nodes l.fn.files.handles l.files
