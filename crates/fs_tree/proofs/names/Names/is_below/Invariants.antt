use Rattle.std.proofs.Common.{◌≡◌, ◌-◌, length}
use Rattle.fuse_spec.specs.Files.Trees.{is_within}
use Rattle.fs_tree.proofs.names.Names.is_below.Given as goal

abbrev pub invariant-loop-step : goal.invariant-loop-step
invariant-loop-step g l = is_within (length l.self) l.self l.top l.directory
    ≡ is_within (length l.self - l._step) l.self l.top l.at
