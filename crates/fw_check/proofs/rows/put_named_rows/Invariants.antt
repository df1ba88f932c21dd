use Rattle.std.proofs.Common.{◌≡◌, ◌++◌}
use Rattle.fw_check.specs.Summary.{exchanges_of, rows_to}
use Rattle.fw_check.proofs.rows.put_named_rows.Given as goal

-- the rows up to the last opcode that the loop has passed
abbrev pub invariant-loop-before : goal.invariant-loop-before
invariant-loop-before g l = l.text.items ≡ l.initial.text.items ++ rows_to l.form (exchanges_of l.exchanges) l.before
