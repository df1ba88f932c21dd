use Rattle.fk_wire.specs.Requests.{Written, request_message}
use Rattle.fuse_frames.proofs.RequestLemmas.{all_written, framed_is, is_framed}
use Rattle.fuse_frames.proofs.request_frame.framed.Goals as goal

pub invariant_of-result : goal.invariant_of-result
invariant_of-result g c =
    let w : Written (request_message c.args.request.now) c.write_request.new.out.items =
    all_written {P = Written
    (request_message c.args.request.now)} c.clear.new.self.items c.write_request.new.out.items c.clear.ensures.items c.in-Ok.ensures.ok in
    is_framed (request_message c.args.request.now) c.write_request.new.out.items c.requires.0 w c.requires.1 c.requires.2

pub returns-in-Ok : goal.returns-in-Ok
returns-in-Ok g c body e =
    let w : Written (request_message c.args.request.now) c.write_request.new.out.items =
    all_written {P = Written
    (request_message c.args.request.now)} c.clear.new.self.items c.write_request.new.out.items c.clear.ensures.items c.in-Ok.ensures.ok in
    framed_is (request_message c.args.request.now) c.write_request.new.out.items body w e
