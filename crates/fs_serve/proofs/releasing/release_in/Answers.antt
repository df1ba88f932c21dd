use Rattle.std.proofs.Common.{refl, ap}
use Rattle.fk_wire.specs.Requests.{request_content, request_message}
use Rattle.fk_wire.specs.declared.request.RequestBody.{RequestBody}
use Rattle.fuse_frames.specs.RequestTies.{body_in}
use Rattle.fs_serve.proofs.releasing.release_in.Goals as goal

pub returns-in-Release : goal.returns-in-Release
returns-in-Release c =
    let r = c.in-Ok.request in
    record {
      message = request_message r;
      spells = c.in-Ok.ensures.ok;
      unique = refl;
      says = ap (λ (b : RequestBody). body_in r.nodeid (request_content b)) c.in-Release.is;
    }
