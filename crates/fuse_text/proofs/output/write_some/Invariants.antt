use Rattle.std.proofs.Common.{[]}
use Rattle.std.specs.Io.KnownBytes.{Appends}
use Rattle.fuse_text.proofs.output.write_some.Given as goal

-- nothing is written yet
abbrev pub invariant-loop-try : goal.invariant-loop-try
invariant-loop-try g l = Appends (g.W.Write.contents l.initial.out) (g.W.Write.contents l.out) []
