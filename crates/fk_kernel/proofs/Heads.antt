-- A head in which a fault was found is none.
use Rattle.std.proofs.Common.{◌≡◌, sym, subst, arith}
use Rattle.std.specs.Prelude.{ℕ, ℤ, List}
use Rattle.std.specs.Int.{w32, cast_unsigned, cast_signed}
use Rattle.fk_wire.specs.Fields.{number_at}
use Rattle.fk_wire.specs.Replies.{IsErrorNumber}
use Rattle.fk_wire.specs.declared.fault.WireFault.{WireFault}
use Rattle.fk_wire.specs.declared.fault.WireFault.TheVariants as faults
use Rattle.fk_wire.specs.declared.opcode.Opcode.TheVariants as op
use Rattle.fk_wire.specs.Opcodes.{latest_minor}
use Rattle.fk_wire.specs.ReplyFaults.{HasReplyLength, ReplyFaultIsAt, IsReplyHeadFault}
use Rattle.fk_kernel.specs.AwaitedReplies.{HasReplyHead}
use Rattle.fuse_frames.proofs.Sayings.{same_error}

pub no_head : (bytes : List ℕ) (f : WireFault) → ReplyFaultIsAt latest_minor op.Getattr bytes f → IsReplyHeadFault f
    → HasReplyHead bytes → ⊥
no_head bytes faults.Short is head has = omega (arith, is, has.0.0)
no_head bytes faults.Length is head has = is.1 has.0.1
no_head bytes faults.ErrorRange is head has = is.1 has.1
no_head bytes faults.Opcode is head has = head
no_head bytes faults.Name is head has = head
no_head bytes faults.Body is head has = head
no_head bytes faults.Memory is head has = head

-- and one in which none was found is a head
pub has_head : (bytes : List ℕ) (z : ℤ) → HasReplyLength bytes → IsErrorNumber z
    → cast_unsigned w32 z ≡ number_at 4 4 bytes → HasReplyHead bytes
has_head bytes z long range same = (
  long,
  subst (λ (n : ℕ). IsErrorNumber (cast_signed w32 n)) same
      (subst IsErrorNumber (sym (same_error z range)) range),
)
