use Rattle.std.proofs.Common.{subst}
use Rattle.fk_wire.specs.Fields.{ReadsAs}
use Rattle.fk_wire.specs.Pairs.{pairs_in}
use Rattle.fk_wire.specs.Requests.{request_body, request_content}
use Rattle.fk_wire.specs.declared.request.RequestBody.{RequestBody}
use Rattle.fuseworld_codec.proofs.Places.{pairs_end}
use Rattle.fuseworld_codec.proofs.request_fields.flat_of.Goals as goal

pub overflow_sub-frame : goal.overflow_sub-frame
overflow_sub-frame c = pairs_end (pairs_in c.in-BatchForget.pairs) c.args.frame.now
    (subst (λ (b : RequestBody). ReadsAs 40 (request_body (request_content b)) c.args.frame.now) c.in-BatchForget.is
    c.requires)
