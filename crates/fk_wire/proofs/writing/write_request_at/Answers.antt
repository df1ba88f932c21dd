use Rattle.std.proofs.Common.{◌≡◌, arith}
use Rattle.fk_wire.specs.Faults.{HasSpelling}
use Rattle.fk_wire.specs.Requests.{request_message, request_content, opcode_of}
use Rattle.fk_wire.specs.Opcodes.{code_of}
use Rattle.fk_wire.proofs.Frames.{frame}
use Rattle.fk_wire.proofs.writing.write_request_at.Goals as goal

pub returns-clause-ok : goal.returns-clause-ok
returns-clause-ok g c =
    let size = c.in_ok-size.ensures.size in
    let spelled : HasSpelling c.args.minor (request_message c.args.request.now) = c.in_ok-size.ensures.spelled in
    let code : c.code.result ≡ code_of (opcode_of (request_content c.args.request.now.body)) = cc in
    frame c.args.minor (request_message c.args.request.now) c.args.out.now.items c.put_body.new.out.items
    c.in_ok-size.size
    (omega (arith, size)) (omega (arith, spelled.1.1, size)) (omega arith) (omega arith) (omega (arith, code))
    spelled.0 spelled.1.0 c.put_body.ensures.fits spelled.2 (cc)
