use Rattle.std.proofs.Common.{ℕ, List}
use Rattle.fw_sides.specs.Lines.{DoLines}
use Rattle.fw_sides.proofs.side.do_lines.Given as goal

-- the lines so far are done
abbrev pub invariant-loop-line : goal.invariant-loop-line
invariant-loop-line g l = (lines : List (List ℕ))
    × DoLines g.S.Side.does (g.S.Side.state l.initial.side) lines (g.S.Side.state l.side)
