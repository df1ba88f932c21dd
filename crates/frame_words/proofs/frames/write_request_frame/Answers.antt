use Rattle.std.proofs.Common.{◌++◌, inl, inr, refl, length}
use Rattle.fuse_protocol.specs.Requests.{request_message}
use Rattle.frame_words.specs.Frames.{bad_request_words}
use Rattle.frame_words.specs.Requests.{request_words}
use Rattle.std.proofs.KnownBytes.{Appends-trans}
use Rattle.fuse_text.proofs.Writes.{OnOk-map}
use Rattle.frame_words.proofs.frames.write_request_frame.Goals as goal

pub returns-in_ok-write_request-in-Ok : goal.returns-in_ok-write_request-in-Ok
returns-in_ok-write_request-in-Ok g c =
    let now = g.W.Write.contents in
    let request = c.in-Ok.request in
    let text = request_words request.head.opcode (request_message request) (length c.args.bytes.now) in
    OnOk-map _ _ c.write_offer.result (λ offer. (
      text ++ offer.0,
      inl
          (request.head.opcode, request_message request, c.in-Ok.ensures.ok, offer.0, offer.1, refl),
      Appends-trans (now c.args.out.now) (now c.write_request.new.out) (now c.write_offer.new.out) text offer.0
          c.in_ok-write_request-in-Ok.ensures offer.2,
    )) c.write_offer.ensures

pub returns-in_ok-write_known_head-in-Err : goal.returns-in_ok-write_known_head-in-Err
returns-in_ok-write_known_head-in-Err g c =
    let now = g.W.Write.contents in
    let head = c.in_ok-write_known_head-in-Err.ensures in
    let text = bad_request_words c.in-Err.fault (length c.args.bytes.now) in
    OnOk-map _ _ c.write_shape_fault.result (λ wrote. (
      head.0 ++ text,
      inr
          (c.in-Err.fault, c.in-Err.ensures.fault, head.0, head.1, refl),
      Appends-trans (now c.args.out.now) (now c.write_known_head.new.out) (now c.write_shape_fault.new.out) head.0 text
          head.2 wrote,
    )) c.write_shape_fault.ensures
