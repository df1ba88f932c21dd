-- The first fault of a frame, each where those before it do not apply.
use Rattle.std.specs.Prelude.{◌≡◌, ◌≢◌, IsTrue, ◌≤◌, ◌<◌, ℕ, Bool, true, false, ◌+◌, ◌*◌, List, [], ◌∷◌, length}
use Rattle.fk_wire.specs.declared.fault.WireFault.{WireFault}
use Rattle.fk_wire.specs.declared.fault.WireFault.TheVariants as faults
use Rattle.fk_wire.specs.declared.opcode.Opcode.{Opcode}
use Rattle.fk_wire.specs.declared.opcode.Minor.{Minor}
use Rattle.fk_wire.specs.Opcodes.{Shape, exactly, name_after, names_after, sized, counted}
use Rattle.fk_wire.specs.Opcodes.{code_of, minor_knows, latest_minor, has_node, shape_of}
use Rattle.fk_wire.specs.Fields.{number_at, named, ReadsAs, HaveNames, sizes}
use Rattle.fk_wire.specs.Requests.{max_frame, opcode_of, IsNodeOf, RequestMessage, request_body}

-- The frame has what its shape has, whatever its names are.
abbrev pub Fills : Shape → List ℕ → Type 0
Fills (exactly size) bytes = length bytes ≡ size
Fills (name_after size) bytes = size ≤ length bytes
Fills (names_after size) bytes = size ≤ length bytes
Fills sized bytes = (80 ≤ length bytes) × (80 + number_at 56 4 bytes ≡ length bytes)
Fills counted bytes = (48 ≤ length bytes) × (48 + 16 * number_at 40 4 bytes ≡ length bytes)

-- Its names are names.
abbrev pub HasNames : Shape → List ℕ → Type 0
HasNames (name_after size) bytes = (name : List ℕ) × ReadsAs size (named name ∷ []) bytes
HasNames (names_after size) bytes = (old : List ℕ) × (new : List ℕ) × ReadsAs size (named old ∷ named new ∷ []) bytes
HasNames shape bytes = Unit {0}

-- the fault of a frame of this shape whose header is good
abbrev pub BodyFaultIs : Shape → List ℕ → WireFault → Type 0
BodyFaultIs shape bytes faults.Body = Fills shape bytes → ⊥
BodyFaultIs shape bytes faults.Name = Fills shape bytes × (HasNames shape bytes → ⊥)
BodyFaultIs shape bytes _ = ⊥

-- The first fault of a frame. In each line the faults of the lines above do not apply.
abbrev pub HasLength : List ℕ → Type 0
HasLength bytes = (40 ≤ length bytes) × (number_at 0 4 bytes ≡ length bytes)

-- A frame has this opcode, and the minor version knows it.
abbrev pub HasOpcode : Minor → List ℕ → Opcode → Type 0
HasOpcode minor bytes o = IsTrue (minor_knows minor o) × (code_of o ≡ number_at 4 4 bytes)

abbrev pub FaultIsAt : Minor → List ℕ → WireFault → Type 0
FaultIsAt minor bytes faults.Short = length bytes < 40
FaultIsAt minor bytes faults.Length = (40 ≤ length bytes) × (number_at 0 4 bytes ≢ length bytes)
FaultIsAt minor bytes faults.Opcode = HasLength bytes × ((o : Opcode) → HasOpcode minor bytes o → ⊥)
FaultIsAt minor bytes faults.Body = HasLength bytes × (o : Opcode) × HasOpcode minor bytes o
    × ((length bytes ≤ max_frame) × Fills (shape_of o) bytes → ⊥)
FaultIsAt minor bytes faults.Name = HasLength bytes × (o : Opcode) × HasOpcode minor bytes o
    × (length bytes ≤ max_frame) × Fills (shape_of o) bytes × (HasNames (shape_of o) bytes → ⊥)
FaultIsAt minor bytes _ = ⊥

-- what a request has to be, whatever its names are
abbrev pub FitsFrame : RequestMessage → Type 0
FitsFrame m = IsNodeOf (has_node (opcode_of m.content)) m.nodeid × (40 + sizes (request_body m.content) ≤ max_frame)

-- A request has a spelling at a minor version.
abbrev pub HasSpelling : Minor → RequestMessage → Type 0
HasSpelling minor m = IsTrue (minor_knows minor (opcode_of m.content)) × FitsFrame m × HaveNames (request_body m.content)

-- The first fault of a request that is to be written. Memory runs out only for one that has a spelling.
abbrev pub RefusalIsAt : Minor → RequestMessage → WireFault → Type 0
RefusalIsAt minor m faults.Opcode = IsTrue (minor_knows minor (opcode_of m.content)) → ⊥
RefusalIsAt minor m faults.Body = IsTrue (minor_knows minor (opcode_of m.content)) × (FitsFrame m → ⊥)
RefusalIsAt minor m faults.Name = IsTrue (minor_knows minor (opcode_of m.content)) × FitsFrame m
    × (HaveNames (request_body m.content) → ⊥)
RefusalIsAt minor m faults.Memory = HasSpelling minor m
RefusalIsAt minor m _ = ⊥

-- The fault of a request at the latest minor version.
abbrev pub FaultIs : List ℕ → WireFault → Type 0
FaultIs = FaultIsAt latest_minor

abbrev pub RefusalIs : RequestMessage → WireFault → Type 0
RefusalIs = RefusalIsAt latest_minor

-- what the header says of the node
abbrev pub NodeReads : Bool → List ℕ → ℕ → Type 0
NodeReads true bytes node = number_at 16 8 bytes ≡ node
NodeReads false bytes node = node ≡ 0

-- the faults that a header alone shows
abbrev pub IsHeadFault : WireFault → Type 0
IsHeadFault faults.Short = Unit {0}
IsHeadFault faults.Length = Unit {0}
IsHeadFault _ = ⊥
