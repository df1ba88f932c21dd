use Rattle.std.proofs.Common.{◌++◌, sym, ◌∙◌}
use Rattle.std.specs.Option.{option_map}
use Rattle.fuse_protocol.specs.Requests.{request_message}
use Rattle.name_sessions.specs.RequestNames.{beginning}
use Rattle.name_judge.specs.Kept.{asked_of}
use Rattle.name_judge.proofs.RequestLaws.{asked_on}
use Rattle.name_judge.proofs.requests.see_request.Goals as goal

pub returns-clause-right : goal.returns-clause-right
returns-clause-right g c = λ s are.
    let o = c.args.request.now.head.opcode in
    let m = request_message c.args.request.now in
    asked_on s c.wait.new.tables o m (option_map asked_of c.in_ok-asked.asked) c.in_ok-asked.ensures
    (sym c.takes_no_reply.ensures ∙ c.if-takes_no_reply.false)
    (c.in_ok-wait.ensures (s ++ beginning o m) (c.begin-fault.ensures.right s are))
