use Rattle.std.proofs.Common.{refl}
use Rattle.fw_link.specs.declared.side.Side.TheVariants.{Kernel}
use Rattle.fw_world.specs.Sends.{SendsRequest}
use Rattle.fw_world.proofs.Sending.{at_err, at_ok, request_whole}
use Rattle.fw_world.proofs.envelopes.send_request.Goals as goal
use Rattle.fw_world.proofs.envelopes.send_request.Given.{Over}

pub carry-requires-clause-whole : goal.carry-requires-clause-whole
carry-requires-clause-whole g c = let (request, is_last, spells) =
    c.in-Some.ensures.some in request_whole c.in-Some.frame.now request spells

sends : (g : Over) (c : goal.After-carry g) → SendsRequest c.args.world.now
    (record { from = Kernel; kind = 0; copy = 0; frame = c.in-Some.frame.now })
sends g c =
    let (request, is_last, spells) = c.in-Some.ensures.some in
    record { request = request; is_last = is_last; spells = spells; from = refl; kind = refl; copy = refl }

pub returns-clause-ok : goal.returns-clause-ok
returns-clause-ok g c = at_ok _ _ c.carry.result
    (λ carried. record {
      envelope = record { from = Kernel; kind = 0; copy = 0; frame = c.in-Some.frame.now };
      sends = sends g c;
      carried = carried;
    }) c.carry.ensures.ok

pub returns-clause-err : goal.returns-clause-err
returns-clause-err g c = at_err _ _ c.carry.result
    (λ is_lost. record {
      envelope = record { from = Kernel; kind = 0; copy = 0; frame = c.in-Some.frame.now };
      sends = sends g c;
      is_lost = is_lost;
    }) c.carry.ensures.err
