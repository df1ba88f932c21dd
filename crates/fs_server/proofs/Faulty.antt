-- Replies to faulty request frames.
use Rattle.std.proofs.Common.{ℕ, List, arith}
use Rattle.fk_wire.specs.Faults.{FaultIsAt, HasLength, IsHeadFault}
use Rattle.fk_wire.specs.Opcodes.{latest_minor}
use Rattle.fk_wire.specs.declared.fault.WireFault.{WireFault}
use Rattle.fk_wire.specs.declared.fault.WireFault.TheVariants as faults

-- a frame with a fault of its header has no whole one
pub no_header : (bytes : List ℕ) (f : WireFault) → FaultIsAt latest_minor bytes f → IsHeadFault f → HasLength bytes → ⊥
no_header bytes faults.Short fault head has = absurd (omega (arith, fault, has.0))
no_header bytes faults.Length fault head has = fault.1 has.1
no_header bytes faults.ErrorRange fault head has = head
no_header bytes faults.Opcode fault head has = head
no_header bytes faults.Body fault head has = head
no_header bytes faults.Name fault head has = head
no_header bytes faults.Memory fault head has = head
