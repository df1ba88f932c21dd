use Rattle.std.proofs.Common.{ℕ, List}
use Rattle.std.specs.Prelude.{Option, IfSome}
use Rattle.std.specs.Io.KnownBytes.{Appends}
use Rattle.fw_check.specs.Checks.{nothing_judged}
use Rattle.fw_check.specs.Forms.{head_text}
use Rattle.fw_check.specs.Running.{IsKept, IsUpTo, seen_by}
use Rattle.fw_check.proofs.check.check_lines.Given as goal

abbrev pub invariant-loop-number : goal.invariant-loop-number
invariant-loop-number g l = (had : Option (List ℕ))
    → Appends had (g.W.Write.contents l.initial.out) (head_text l.options.form)
    → IsKept (nothing_judged l.options.is_joined) (seen_by l.initial.checker.seen) l.initial.checker.counts
    → IfSome (g.R.Read.remaining l.initial.input)
    (λ capture. IsUpTo l.options capture (g.R.Read.remaining l.input) l.number (seen_by l.checker.seen) l.checker.counts had
    (g.W.Write.contents l.out))
