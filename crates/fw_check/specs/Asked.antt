-- Which faults are asked for.
use Rattle.std.specs.Prelude.{if◌then◌else◌, List, Option, Some, None, map}
use Rattle.fuse_sessions.specs.declared.fault.Fault.{Fault}
use Rattle.fuse_sessions.specs.declared.fault.Party.{Party}
use Rattle.fw_check.specs.Tallies.{is_of}

-- a verdict without a fault that is not asked for: all faults are, or one party's alone
abbrev pub asked_verdict : (only : Option Party) → Option Fault → Option Fault
asked_verdict None v = v
asked_verdict (Some p) v = if is_of p v then v else None

abbrev pub asked_verdicts : (only : Option Party) → List (Option Fault) → List (Option Fault)
asked_verdicts only verdicts = map (asked_verdict only) verdicts
