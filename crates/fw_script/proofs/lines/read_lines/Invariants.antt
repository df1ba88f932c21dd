use Rattle.std.proofs.Common.{length, option_copied}
use Rattle.fuse_text.specs.Lines.{lines_left}
use Rattle.fw_script.proofs.ReadSoFar.{ReadSoFar}
use Rattle.fw_script.proofs.lines.read_lines.Given as goal

abbrev pub invariant-lines : goal.invariant-lines
invariant-lines g l = ReadSoFar l.fn.script (option_copied l.rest) l.number l.lines.items

abbrev pub decreases-lines : goal.decreases-lines
decreases-lines g l = length (lines_left (option_copied l.rest))
