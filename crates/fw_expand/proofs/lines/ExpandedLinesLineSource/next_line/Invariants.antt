use Rattle.std.proofs.Common.{[]}
use Rattle.std.specs.Io.KnownBytes.{Keeps as KeepsContents}
use Rattle.fw_expand.specs.Given.{GivesExpanded}
use Rattle.fw_expand.proofs.lines.ExpandedLinesLineSource.next_line.Given as goal

-- The raw lines so far gave none.
abbrev pub invariant-loop-taken : goal.invariant-loop-taken
invariant-loop-taken g l =
    (KeepsContents (g.O.Write.contents l.initial.out) (g.O.Write.contents l.out))
    × (GivesExpanded g.S.LineSource.gives l.initial.self l.self [])
