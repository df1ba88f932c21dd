use Rattle.std.proofs.Common.{[]}
use Rattle.fuse_device.specs.Calls.{TriedAgain, read_result}
use Rattle.std.specs.Io.KnownBytes.{Consumes}
use Rattle.fuse_device.proofs.reading.read_some.Given as goal

-- nothing is read yet, and each call so far is tried again
abbrev pub invariant-loop-try : goal.invariant-loop-try
invariant-loop-try g l = Consumes (g.R.Read.remaining l.initial.from) (g.R.Read.remaining l.from) []
    × TriedAgain g.R.ReadOnce.gives (read_result l.times_out) l.initial.from l._try l.from
