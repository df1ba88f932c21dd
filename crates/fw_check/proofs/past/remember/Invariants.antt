use Rattle.std.proofs.Common.{◌≡◌, ◌++◌, List, take}
use Rattle.fw_check.specs.declared.past.Trace.{Trace}
use Rattle.fw_check.specs.Past.{remembered}
use Rattle.fw_check.proofs.past.remember.Given as goal

-- the traces that the loop has passed are remembered too
abbrev pub invariant-loop-trace : goal.invariant-loop-trace
invariant-loop-trace g l = (all : List Trace) → l.initial.past.items ≡ remembered all
    → l.past.items ≡ remembered (all ++ take l.trace-index l.traces)
