use Rattle.std.proofs.Common.{◌≡◌, drop}
use Rattle.std.specs.Prelude.{fold}
use Rattle.fw_call_names.specs.CallNames.{names_of}
use Rattle.fw_call_names.specs.Naming.{newer, number_of}
use Rattle.fw_call_names.proofs.name.number_of.Given as goal

-- what was found, and what is left to look at
abbrev pub invariant-loop-call : goal.invariant-loop-call
invariant-loop-call g l =
    fold (newer l.word) l.number (names_of (drop l.call-index l.names)) ≡ number_of (names_of l.names) l.word
