-- The numbers by which a call answers, and by which a caller names a minor version.
use Rattle.std.specs.Prelude.{◌≡◌, ◌≢◌, ◌≤◌, ◌<◌, ◌+◌, ◌++◌, ◌∷◌, ℕ, List, drop, length}
use Rattle.fk_wire.specs.declared.fault.WireFault.{WireFault}
use Rattle.fk_wire.specs.declared.opcode.Minor.{Minor}
use Rattle.fk_wire.specs.declared.opcode.Minor.TheVariants as minors
use Rattle.fk_wire.specs.declared.opcode.Opcode.{Opcode}
use Rattle.fk_wire.specs.Opcodes.{code_of}
use Rattle.fk_wire.specs.WireFaults.{fault_number}

-- the number of a minor version
abbrev pub minor_number_of : Minor → ℕ
minor_number_of minors.M15 = 15
minor_number_of minors.M31 = 31

-- A number that is no minor version.
abbrev pub IsNoMinor : ℕ → Type 0
IsNoMinor number = (m : Minor) → minor_number_of m ≢ number

-- A number that is no opcode.
abbrev pub IsNoOpcode : ℕ → Type 0
IsNoOpcode number = (o : Opcode) → code_of o ≢ number

-- The answer is the number of a fault of which this holds.
abbrev pub AnswersFault : ℕ → (WireFault → Type 0) → Type 0
AnswersFault answer Is = (f : WireFault) × (answer ≡ fault_number f) × Is f

-- A buffer begins with a text and a NUL byte where it has room for both. Else it is as it was.
abbrev pub HasText : List ℕ → List ℕ → List ℕ → Type 0
HasText text before after = (length text < length before → after ≡ text ++ 0 ∷ drop (length text + 1) before)
    × (length before ≤ length text → after ≡ before)
