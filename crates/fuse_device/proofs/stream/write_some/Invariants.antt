use Rattle.std.proofs.Common.{[]}
use Rattle.fuse_device.specs.Calls.{TriedAgain, write_result}
use Rattle.std.specs.Io.KnownBytes.{Appends}
use Rattle.fuse_device.proofs.stream.write_some.Given as goal

-- nothing is written yet, and each call so far is tried again
abbrev pub invariant-loop-try : goal.invariant-loop-try
invariant-loop-try g l = Appends (g.W.Write.contents l.initial.out) (g.W.Write.contents l.out) []
    × TriedAgain (λ old new r. g.W.WriteOnce.takes old new l.bytes r) write_result l.initial.out l._try l.out
