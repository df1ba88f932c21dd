-- What is said on standard error of a script that is not run.
use Rattle.std.specs.Prelude.{ℕ, List, Option, ◌⊎◌, ◌++◌, IfSome, codes}
use Rattle.fuse_text.specs.Outputs.{AppendsSome}
use Rattle.fuse_text.specs.Stops.{bad_line, unreadable}
use Rattle.fw_script.specs.Scripts.{FirstFaultIs}
use Rattle.fw_script.specs.declared.line.LineFault.{LineFault}
use Rattle.fw_script.specs.declared.line.LineFault.TheVariants as faults

-- a line's fault
abbrev pub line_fault_words : LineFault → List ℕ
line_fault_words faults.UnknownEvent = codes "unknown event"
line_fault_words faults.WrongWords = codes "wrong words"
line_fault_words faults.BadNumber = codes "bad number"
line_fault_words faults.BadText = codes "bad text"

-- What standard error got of a script that is not run, or a beginning of it: that the file cannot be read, or the first
-- bad line of the script.
abbrev pub SaysFault : (name : List ℕ) → (script : Option (List ℕ)) → (old new : Option (List ℕ)) → Type 0
SaysFault name script old new =
    AppendsSome old new (unreadable name ++ codes "\n")
    ⊎ IfSome script (λ s. (number : ℕ) × (fault : LineFault) × FirstFaultIs s number fault
    × AppendsSome old new (bad_line number (line_fault_words fault) ++ codes "\n"))
