use Rattle.std.proofs.Common.{refl, sym}
use Rattle.fk_wire.specs.Replies.{SpellsReplyAt}
use Rattle.fk_wire.specs.ReplyFaults.{ReplyFaultIsAt}
use Rattle.fk_wire.specs.declared.opcode.Minor.{Minor}
use Rattle.fk_wire.specs.declared.opcode.Opcode.{Opcode}
use Rattle.fuseworld_codec.proofs.Minors.{moved}
use Rattle.fuseworld_codec.proofs.reading_reply.fuseworld_read_reply.Goals as goal

pub returns-in-Ok-clause-only : goal.returns-in-Ok-clause-only
returns-in-Ok-clause-only c = λ v o ev eo t h. (
  refl,
  c.in-Ok.ensures.only t
      (moved (λ (m : Minor) (p : Opcode). SpellsReplyAt m p c.args.bytes.now t) v c.in-Some.version o
      c.replied_opcode.result c.args.minor ev c.in-Some.ensures (sym (c.replied_opcode.ensures.known o eo)) h),
)

pub returns-in-Ok-clause-others : goal.returns-in-Ok-clause-others
returns-in-Ok-clause-others c = λ v o ev eo t h. c.in-Ok.ensures.others t
    (moved (λ (m : Minor) (p : Opcode). SpellsReplyAt m p c.args.bytes.now t) v c.in-Some.version o
    c.replied_opcode.result c.args.minor ev c.in-Some.ensures (sym (c.replied_opcode.ensures.known o eo)) h)

pub returns-in-Err-clause-only : goal.returns-in-Err-clause-only
returns-in-Err-clause-only c = λ v o ev eo t h. absurd
    (c.in-Err.ensures.only t
    (moved (λ (m : Minor) (p : Opcode). SpellsReplyAt m p c.args.bytes.now t) v c.in-Some.version o
    c.replied_opcode.result c.args.minor ev c.in-Some.ensures (sym (c.replied_opcode.ensures.known o eo)) h))

pub returns-in-Err-clause-fault : goal.returns-in-Err-clause-fault
returns-in-Err-clause-fault c = λ v o ev eo h. (
  c.in-Err.fault,
  c.number.ensures,
  moved (λ (m : Minor) (p : Opcode). ReplyFaultIsAt m p c.args.bytes.now c.in-Err.fault) c.in-Some.version v
      c.replied_opcode.result o c.args.minor c.in-Some.ensures ev (c.replied_opcode.ensures.known o eo)
      c.in-Err.ensures.fault,
)
