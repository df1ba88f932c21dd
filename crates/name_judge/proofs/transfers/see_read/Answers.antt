use Rattle.fuse_protocol.specs.Requests.{request_message}
use Rattle.name_judge.proofs.TransferLaws.{seen_request}
use Rattle.name_judge.proofs.transfers.see_read.Goals as goal

pub returns-in_ok-fault-in-Ok : goal.returns-in_ok-fault-in-Ok
returns-in_ok-fault-in-Ok g c = λ s are sure.
    let is = rw c.in-Ok.is at c.read_request-read.ensures.ok in
    seen_request s c.see_request.new.tables c.args.agreed c.args.bytes.now c.in-Ok.request.head.opcode
    (request_message c.in-Ok.request) c.in_ok-fault-in-Ok.fault is (c.in_ok-fault-in-Ok.ensures.fault s are sure)
    (c.in_ok-fault-in-Ok.ensures.right s are)
