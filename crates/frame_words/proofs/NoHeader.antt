-- Frames without a whole header.
use Rattle.std.proofs.Common.{◌≤◌, ℕ, List, length, arith}
use Rattle.fuse_protocol.specs.declared.fault.ShapeFault.{ShapeFault}
use Rattle.fuse_protocol.specs.declared.fault.ShapeFault.TheVariants as shape_fault
use Rattle.fuse_protocol.specs.declared.opcode.Opcode.{Opcode}
use Rattle.fuse_protocol.specs.Agreement.{before_init}
use Rattle.fuse_protocol.specs.Faults.{FaultIs, HasOpcode, IsHeadFault}

-- A frame with a fault that its header shows has no opcode.
pub no_opcode : (bytes : List ℕ) (f : ShapeFault) → FaultIs before_init bytes f × IsHeadFault f → (o : Opcode)
    → HasOpcode bytes o → ⊥
no_opcode bytes shape_fault.Short h o has =
    let long : 40 ≤ length bytes = has.0.0 in
    absurd (omega (arith, long, h.0))
no_opcode bytes shape_fault.Length h o has = h.0.1 has.0
no_opcode bytes shape_fault.Opcode h o has = h.0.1 o has.1
no_opcode bytes shape_fault.Struct h o has = h.1
no_opcode bytes shape_fault.Name h o has = h.1
no_opcode bytes shape_fault.Tail h o has = h.1
