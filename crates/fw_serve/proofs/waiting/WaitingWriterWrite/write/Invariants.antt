use Rattle.std.specs.Io.KnownBytes.{Keeps}
use Rattle.fw_serve.proofs.waiting.WaitingWriterWrite.write.Given as goal

-- nothing is written so far
abbrev pub invariant-loop-try : goal.invariant-loop-try
invariant-loop-try g l = Keeps (g.W.Write.contents l.initial.self.writer) (g.W.Write.contents l.self.writer)
