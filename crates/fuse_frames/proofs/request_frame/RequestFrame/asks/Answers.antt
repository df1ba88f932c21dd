use Rattle.std.proofs.Common.{ap, ◌∙◌}
use Rattle.fuse_frames.specs.RequestTies.{body_asking, body_in, request_content_of}
use Rattle.fuse_frames.proofs.RequestLemmas.{asked_at}
use Rattle.fuse_frames.proofs.request_frame.RequestFrame.asks.Goals as goal

pub framed-requires : goal.framed-requires
framed-requires g c =
    let operation = c.args.operation.now in
    let body = c.body_of-body.ensures in
    let node = c.header_node-nodeid.ensures in (
      body_asking operation,
      ap (body_in c.header_node-nodeid.result) body
          ∙ (λ i. body_in (node i) (request_content_of (body_asking operation))) ∙ asked_at operation,
      body,
    )

pub returns : goal.returns
returns g c =
    let operation = c.args.operation.now in
    let body = c.body_of-body.ensures in
    let node = c.header_node-nodeid.ensures in
    c.framed.ensures (body_asking operation)
    (ap (body_in c.header_node-nodeid.result) body
    ∙ (λ i. body_in (node i) (request_content_of (body_asking operation))) ∙ asked_at operation)
