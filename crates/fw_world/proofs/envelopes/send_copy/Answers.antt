use Rattle.std.proofs.Common.{refl, rules}
use Rattle.fw_link.specs.declared.side.Side.TheVariants.{Server}
use Rattle.fw_world.specs.Sends.{SendsReply}
use Rattle.fw_world.proofs.Sending.{at_err, at_ok, reply_whole}
use Rattle.fw_world.proofs.envelopes.send_copy.Goals as goal
use Rattle.fw_world.proofs.envelopes.send_copy.Given.{Over}

pub carry-requires-clause-whole : goal.carry-requires-clause-whole
carry-requires-clause-whole g c = let (reply, is_last, number, frame) =
    c.in-Some.ensures.some in reply_whole c.in-Some.frame.now reply c.in-Some.copy (search rules) frame

sends : (g : Over) (c : goal.After-carry g) → SendsReply c.args.world.now
    (record { from = Server; kind = 1; copy = c.in-Some.copy; frame = c.in-Some.frame.now })
sends g c =
    let (reply, is_last, number, frame) = c.in-Some.ensures.some in
    record { reply = reply; is_last = is_last; frame = frame; from = refl; kind = refl; copy = number }

pub returns-clause-ok : goal.returns-clause-ok
returns-clause-ok g c = at_ok _ _ c.carry.result
    (λ carried. record {
      envelope = record {
        from = Server;
        kind = 1;
        copy = c.in-Some.copy;
        frame = c.in-Some.frame.now;
      };
      sends = sends g c;
      carried = carried;
    }) c.carry.ensures.ok

pub returns-clause-err : goal.returns-clause-err
returns-clause-err g c = at_err _ _ c.carry.result
    (λ is_lost. record {
      envelope = record {
        from = Server;
        kind = 1;
        copy = c.in-Some.copy;
        frame = c.in-Some.frame.now;
      };
      sends = sends g c;
      is_lost = is_lost;
    }) c.carry.ensures.err
