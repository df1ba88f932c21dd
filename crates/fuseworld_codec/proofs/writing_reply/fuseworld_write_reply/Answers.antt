use Rattle.std.proofs.Common.{◌≡◌, ◌≢◌, ◌≤◌, ◌+◌, ◌∙◌, None, length, subst, sym, take, inl, inr}
use Rattle.fk_wire.specs.Fields.{sizes}
use Rattle.fk_wire.specs.Replies.{GoesWith, ReplyMessage, WrittenReplyAt, reply_body, reply_kind, reply_message}
use Rattle.fk_wire.specs.ReplyFaults.{ReplyRefusalIsAt}
use Rattle.fk_wire.specs.declared.opcode.Minor.{Minor}
use Rattle.fk_wire.specs.declared.opcode.Opcode.{Opcode}
use Rattle.fk_wire.proofs.OneRequest.{same_code}
use Rattle.fuseworld_codec.specs.ReplyStructs.{HasReplySpelling, LeadsBeyond}
use Rattle.fuseworld_codec.specs.Status.{AnswersFault}
use Rattle.fuseworld_codec.proofs.Minors.{moved}
use Rattle.fuseworld_codec.proofs.Replied.{replies_one}
use Rattle.fuseworld_codec.proofs.writing_reply.fuseworld_write_reply.Goals as goal

pub returns-in-Ok-clause-ok : goal.returns-in-Ok-clause-ok
returns-in-Ok-clause-ok c = λ v o ev eo h.
    let opcode = c.in-Some-opcode_of_code.opcode in
    let same : opcode ≡ o = same_code opcode o (c.in-Some-opcode_of_code.ensures ∙ sym eo) in
    let done = c.write_message.ensures.ok h in (
      reply_message c.in-Ok.message,
      moved (λ (m : Minor) (p : Opcode). GoesWith m p (reply_message c.in-Ok.message)) c.in-Some.version v opcode o
          c.args.minor c.in-Some.ensures ev same c.in-Ok.ensures.ok.0,
      c.in-Ok.ensures.ok.1,
      moved (λ (m : Minor) (p : Opcode). WrittenReplyAt m (reply_message c.in-Ok.message)
          (take c.write_message.new.wanted c.write_message.new.buffer)) c.in-Some.version v opcode o c.args.minor
          c.in-Some.ensures ev same done.0,
      done.1,
    )

pub returns-in-Ok-clause-room : goal.returns-in-Ok-clause-room
returns-in-Ok-clause-room c = λ v o ev eo h.
    let opcode = c.in-Some-opcode_of_code.opcode in
    let same : opcode ≡ o = same_code opcode o (c.in-Some-opcode_of_code.ensures ∙ sym eo) in
    let full = c.write_message.ensures.room h in (
      reply_message c.in-Ok.message,
      moved (λ (m : Minor) (p : Opcode). GoesWith m p (reply_message c.in-Ok.message)) c.in-Some.version v opcode o
          c.args.minor c.in-Some.ensures ev same c.in-Ok.ensures.ok.0,
      c.in-Ok.ensures.ok.1,
      moved (λ (m : Minor) (p : Opcode). HasReplySpelling m (reply_message c.in-Ok.message)) c.in-Some.version v opcode
          o c.args.minor c.in-Some.ensures ev same (c.write_message.ensures.spelled h),
      full.0,
      full.1,
    )

pub returns-in-Ok-clause-fault : goal.returns-in-Ok-clause-fault
returns-in-Ok-clause-fault c = λ v o ev eo h k error place.
    let opcode = c.in-Some-opcode_of_code.opcode in
    let same : opcode ≡ o = same_code opcode o (c.in-Some-opcode_of_code.ensures ∙ sym eo) in
    inr (
      reply_message c.in-Ok.message,
      moved (λ (m : Minor) (p : Opcode). GoesWith m p (reply_message c.in-Ok.message)) c.in-Some.version v opcode o
          c.args.minor c.in-Some.ensures ev same c.in-Ok.ensures.ok.0,
      c.in-Ok.ensures.ok.1,
      moved (λ (m : Minor) (p : Opcode). AnswersFault c.write_message.result
          (ReplyRefusalIsAt m (reply_message c.in-Ok.message))) c.in-Some.version v opcode o c.args.minor
          c.in-Some.ensures ev same (c.write_message.ensures.fault h k),
    )

pub returns-in-Err-clause-fault : goal.returns-in-Err-clause-fault
returns-in-Err-clause-fault c = λ v o ev eo h k error near.
    let opcode = c.in-Some-opcode_of_code.opcode in
    let same : opcode ≡ o = same_code opcode o (c.in-Some-opcode_of_code.ensures ∙ sym eo) in
    inl (λ t goes says. c.in-Err.ensures.none
    (λ e. near (subst (λ (p : Opcode). LeadsBeyond p c.args.reply.now c.args.bytes.now) same
    (c.in-Err.ensures.beyond e)))
    t (moved (λ (m : Minor) (p : Opcode). GoesWith m p t) v c.in-Some.version o opcode c.args.minor ev c.in-Some.ensures
    (sym same) goes) says)

pub returns-in-Ok-clause-body : goal.returns-in-Ok-clause-body
returns-in-Ok-clause-body c = λ v o ev eo error kind near none.
    let opcode = c.in-Some-opcode_of_code.opcode in
    let same : opcode ≡ o = same_code opcode o (c.in-Some-opcode_of_code.ensures ∙ sym eo) in
    absurd (none (reply_message c.in-Ok.message)
    (moved (λ (m : Minor) (p : Opcode). GoesWith m p (reply_message c.in-Ok.message)) c.in-Some.version v opcode o
    c.args.minor c.in-Some.ensures ev same c.in-Ok.ensures.ok.0) c.in-Ok.ensures.ok.1)

pub returns-in-Err-clause-body : goal.returns-in-Err-clause-body
returns-in-Err-clause-body c = λ v o ev eo error kind near none.
    let opcode = c.in-Some-opcode_of_code.opcode in
    let same : opcode ≡ o = same_code opcode o (c.in-Some-opcode_of_code.ensures ∙ sym eo) in
    (c.in-Err.ensures.body
    (moved (λ (m : Minor) (p : Opcode). reply_kind m p ≢ None) v c.in-Some.version o opcode c.args.minor ev
    c.in-Some.ensures (sym same) kind)
    (λ e. near (subst (λ (p : Opcode). LeadsBeyond p c.args.reply.now c.args.bytes.now) same
    (c.in-Err.ensures.beyond e)))).0

pub returns-in-Ok-clause-done : goal.returns-in-Ok-clause-done
returns-in-Ok-clause-done c = λ v o ev eo t goes says near spelled fits.
    let opcode = c.in-Some-opcode_of_code.opcode in
    let same : opcode ≡ o = same_code opcode o (c.in-Some-opcode_of_code.ensures ∙ sym eo) in
    let one : t ≡ reply_message c.in-Ok.message =
    replies_one v o c.args.reply.now c.args.bytes.now t (reply_message c.in-Ok.message) goes
    (moved (λ (m : Minor) (p : Opcode). GoesWith m p (reply_message c.in-Ok.message)) c.in-Some.version v opcode o
    c.args.minor c.in-Some.ensures ev same c.in-Ok.ensures.ok.0) says c.in-Ok.ensures.ok.1 in
    c.write_message.ensures.done
    (moved (λ (m : Minor) (p : Opcode). HasReplySpelling m (reply_message c.in-Ok.message)) v c.in-Some.version o opcode
    c.args.minor ev c.in-Some.ensures (sym same) (subst (λ (u : ReplyMessage). HasReplySpelling v u) one spelled))
    (subst (λ (u : ReplyMessage). 16 + sizes (reply_body u.content) ≤ length c.args.buffer.now) one fits)

pub returns-in-Err-clause-done : goal.returns-in-Err-clause-done
returns-in-Err-clause-done c = λ v o ev eo t goes says near spelled fits.
    let opcode = c.in-Some-opcode_of_code.opcode in
    let same : opcode ≡ o = same_code opcode o (c.in-Some-opcode_of_code.ensures ∙ sym eo) in
    absurd (c.in-Err.ensures.none
    (λ e. near (subst (λ (p : Opcode). LeadsBeyond p c.args.reply.now c.args.bytes.now) same
    (c.in-Err.ensures.beyond e)))
    t (moved (λ (m : Minor) (p : Opcode). GoesWith m p t) v c.in-Some.version o opcode c.args.minor ev c.in-Some.ensures
    (sym same) goes) says)
