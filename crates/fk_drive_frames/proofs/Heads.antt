-- Bytes with the fault of a head have no reply's head.
use Rattle.std.proofs.Common.{List, ℕ, arith}
use Rattle.fk_wire.specs.declared.fault.WireFault.{WireFault}
use Rattle.fk_wire.specs.declared.fault.WireFault.TheVariants as faults
use Rattle.fk_wire.specs.declared.opcode.Opcode.TheVariants as op
use Rattle.fk_wire.specs.Opcodes.{latest_minor}
use Rattle.fk_wire.specs.ReplyFaults.{IsReplyHeadFault, ReplyFaultIsAt}
use Rattle.fuse_frames.specs.DecodedReplies.{HasReplyHead}

pub no_head : (bytes : List ℕ) (f : WireFault) → ReplyFaultIsAt latest_minor op.Open bytes f → IsReplyHeadFault f
    → HasReplyHead bytes → ⊥
no_head bytes faults.Short short is ((long, stated), error) = omega (arith, short, long)
no_head bytes faults.Length (long, other) is ((_, stated), error) = other stated
no_head bytes faults.ErrorRange (long, none) is (whole, error) = none error
no_head bytes other fault is head = absurd is
