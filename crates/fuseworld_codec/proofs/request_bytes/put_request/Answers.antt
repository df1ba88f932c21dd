use Rattle.std.proofs.Common.{◌++◌, ℕ, List, length, ap, ◌∙◌, arith}
use Rattle.fk_wire.specs.Fields.{spellings}
use Rattle.fk_wire.specs.Requests.{request_body, request_content, request_message}
use Rattle.fuseworld_codec.proofs.Written.{whole_request}
use Rattle.fuseworld_codec.proofs.request_bytes.put_request.Goals as goal

pub returns : goal.returns
returns c =
    let len : ℕ = length c.args.out.now in
    whole_request c.args.version (request_message c.args.request.now) c.put_body.new.out len c.put_body.result
    c.args.code (omega (arith, c.put_body.ensures.len, c.put_header-place.ensures.len))
    (omega (arith, c.put_body.ensures.place, c.put_header-place.ensures.place, c.requires.size))
    (omega (arith, c.requires.size)) (omega (arith, c.requires.fits.1, c.requires.size)) (omega arith) (omega arith)
    (omega arith) c.requires.code c.requires.known c.requires.fits.0 c.put_body.ensures.fits c.requires.named
    (c.put_body.ensures.items ∙ ap
    (λ (x : List ℕ). x ++ spellings (request_body (request_content c.args.request.now.body)))
    c.put_header-place.ensures.items)
