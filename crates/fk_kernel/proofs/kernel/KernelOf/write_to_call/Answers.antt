use Rattle.std.proofs.Common.{◌≡◌, true, cond, Some, ap, sym, subst, ◌∙◌}
use Rattle.std.specs.Prelude.{is_some}
use Rattle.fuse_spec.specs.declared.WriteResult.TheVariants.{Accepted, Invalid}
use Rattle.fuse_spec.specs.Values.Maps.{get}
use Rattle.fuse_spec.specs.Kernel.Replies.{reply_written}
use Rattle.fuse_spec.specs.Calls.Vfs.{asked}
use Rattle.fk_kernel.specs.Refused.{IsWriteRefusal, no_memory, exhausted}
use Rattle.fk_kernel.specs.AwaitedReplies.{reply_to, awaited_by_call}
use Rattle.fuse_spec.specs.Kernel.Messages.{asks}
use Rattle.fuse_frames.specs.RequestTies.{asked_opcode}
use Rattle.fuse_frames.specs.ReplyDecoding.{decoded_wire_of}
use Rattle.fuse_frames.proofs.Sayings.{says_one}
use Rattle.fk_kernel.proofs.Replied.{judged_op}
use Rattle.fk_kernel.proofs.RepliesTaken.{taken_judged}
use Rattle.fk_kernel.proofs.kernel.KernelOf.write_to_call.Goals as goal

pub returns-in-Err-clause-refusal : goal.returns-in-Err-clause-refusal
returns-in-Err-clause-refusal g c =
    let now = c.args.self.now in
    let standing = awaited_by_call (get now.vfs.calls c.args.call) in
    subst (IsWriteRefusal now c.args.head.unique c.args.bytes.now standing) (sym c.in-Err.ensures.refusal)
    (exhausted c.in-Err.ensures.past)

pub returns-in-Ok-replied-clause-taken : goal.returns-in-Ok-replied-clause-taken
returns-in-Ok-replied-clause-taken g c =
    let now = c.args.self.now in
    let state = c.waiting_call-state.result.now in
    let here : get now.vfs.calls c.args.call ≡ Some state = c.waiting_call-state.ensures in
    let o = asked_opcode (asks (asked state)) in
    let awaits : awaited_by_call (get now.vfs.calls c.args.call) ≡ reply_to o = ap awaited_by_call here in
    let bytes = c.args.bytes.now in
    let said = decoded_wire_of c.in-Some.said in
    let says = (rw c.in-Some.is at c.in-Ok.ensures.said).says in
    let goes : c.is_some.result ≡ true = c.is_some.ensures ∙ ap is_some c.in-Some.is in
    let written : c.result_of-written.result ≡ Accepted = c.result_of-written.ensures
    ∙ ap (λ b. cond b Accepted Invalid) goes in
    let ok = c.in-Ok-replied.ensures.ok in
    rw (awaits, written)
    (taken_judged now c.args.head.unique bytes _ _ o (judged_op (asked state))
    (λ wire other. ap (reply_written now c.args.head.unique) (says_one o bytes wire said other says) ∙ ok)
    (λ none. absurd (none said says)))

pub returns-in-Err-replied-clause-refusal : goal.returns-in-Err-replied-clause-refusal
returns-in-Err-replied-clause-refusal g c =
    let now = c.args.self.now in
    let standing = awaited_by_call (get now.vfs.calls c.args.call) in
    subst (IsWriteRefusal now c.args.head.unique c.args.bytes.now standing) (sym c.in-Err-replied.ensures.refusal)
    (no_memory c.in-Ok.ensures.stays)
