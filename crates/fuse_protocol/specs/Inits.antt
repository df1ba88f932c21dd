-- The frames that are an INIT's request.
use Rattle.std.specs.Prelude.{◌≡◌, ◌≢◌, ◌⊎◌, List, ℕ}
use Rattle.fuse_protocol.specs.declared.fault.ShapeFault.{ShapeFault}
use Rattle.fuse_protocol.specs.declared.fault.ShapeFault.TheVariants as faults
use Rattle.fuse_protocol.specs.declared.opcode.Opcode.{Opcode}
use Rattle.fuse_protocol.specs.declared.opcode.Opcode.TheVariants as op
use Rattle.fuse_protocol.specs.Agreement.{before_init}
use Rattle.fuse_protocol.specs.Table.{row_at}
use Rattle.fuse_protocol.specs.Requests.{IsRequest, RequestMessage}
use Rattle.fuse_protocol.specs.Faults.{FaultIs}

-- The bytes are a request of INIT's row, under what is agreed before it.
abbrev pub IsInit : List ℕ → Type 0
IsInit bytes = (m : RequestMessage) × IsRequest before_init bytes (row_at op.Init) m

-- They are a request of another row.
abbrev pub IsOther : List ℕ → Type 0
IsOther bytes = (o : Opcode) × (o ≢ op.Init) × (m : RequestMessage) × IsRequest before_init bytes (row_at o) m

-- Why they are no INIT: the fault of the frame as a request, or another opcode.
abbrev pub InitFaultIs : List ℕ → ShapeFault → Type 0
InitFaultIs bytes f = FaultIs before_init bytes f ⊎ (IsOther bytes × (f ≡ faults.Opcode))
