use Rattle.std.proofs.Common.{◌≡◌, ◌≤◌, ◌+◌, length, subst, sym, take}
use Rattle.fk_wire.specs.Faults.{HasSpelling, RefusalIsAt}
use Rattle.fk_wire.specs.Fields.{sizes}
use Rattle.fk_wire.specs.Requests.{RequestMessage, WrittenAt, request_body, request_message}
use Rattle.fk_wire.specs.declared.opcode.Minor.{Minor}
use Rattle.fuseworld_codec.specs.Status.{AnswersFault}
use Rattle.fuseworld_codec.proofs.Asked.{says_one}
use Rattle.fuseworld_codec.proofs.Minors.{one_minor_of}
use Rattle.fuseworld_codec.proofs.writing.fuseworld_write_request.Goals as goal

pub returns-in-Ok-clause-ok : goal.returns-in-Ok-clause-ok
returns-in-Ok-clause-ok c = λ v e h.
    let same : c.in-Some.version ≡ v = one_minor_of c.in-Some.version v c.args.minor c.in-Some.ensures e in
    let done = c.write_message.ensures.ok h in (
      request_message c.in-Ok.message,
      c.in-Ok.ensures.ok,
      subst (λ (m : Minor). WrittenAt m (request_message c.in-Ok.message)
          (take c.write_message.new.wanted c.write_message.new.buffer)) same done.0,
      done.1,
    )

pub returns-in-Ok-clause-room : goal.returns-in-Ok-clause-room
returns-in-Ok-clause-room c = λ v e h.
    let same : c.in-Some.version ≡ v = one_minor_of c.in-Some.version v c.args.minor c.in-Some.ensures e in
    let full = c.write_message.ensures.room h in (
      request_message c.in-Ok.message,
      c.in-Ok.ensures.ok,
      subst (λ (m : Minor). HasSpelling m (request_message c.in-Ok.message)) same (c.write_message.ensures.spelled h),
      full.0,
      full.1,
    )

pub returns-in-Ok-clause-done : goal.returns-in-Ok-clause-done
returns-in-Ok-clause-done c = λ v e m says places spelled fits.
    let same : c.in-Some.version ≡ v = one_minor_of c.in-Some.version v c.args.minor c.in-Some.ensures e in
    let one : m ≡ request_message c.in-Ok.message =
    says_one c.args.request.now c.args.bytes.now m (request_message c.in-Ok.message) says c.in-Ok.ensures.ok in
    c.write_message.ensures.done
    (subst (λ (w : Minor). HasSpelling w (request_message c.in-Ok.message)) (sym same)
    (subst (λ (n : RequestMessage). HasSpelling v n) one spelled))
    (subst (λ (n : RequestMessage). 40 + sizes (request_body n.content) ≤ length c.args.buffer.now) one fits)

pub returns-in-Ok-clause-fault : goal.returns-in-Ok-clause-fault
returns-in-Ok-clause-fault c = λ v e h k m says places.
    let same : c.in-Some.version ≡ v = one_minor_of c.in-Some.version v c.args.minor c.in-Some.ensures e in
    let one : request_message c.in-Ok.message ≡ m =
    says_one c.args.request.now c.args.bytes.now (request_message c.in-Ok.message) m c.in-Ok.ensures.ok says in
    subst (λ (n : RequestMessage). AnswersFault c.write_message.result (RefusalIsAt v n)) one
    (subst (λ (w : Minor). AnswersFault c.write_message.result (RefusalIsAt w (request_message c.in-Ok.message))) same
    (c.write_message.ensures.fault h k))

pub returns-in-Ok-clause-body : goal.returns-in-Ok-clause-body
returns-in-Ok-clause-body c = λ v o e eo places none. absurd (none (request_message c.in-Ok.message) c.in-Ok.ensures.ok)
