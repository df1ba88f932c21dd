use Rattle.std.proofs.Common.{ap, sym, ◌∙◌}
use Rattle.fk_wire.specs.Requests.{RequestMessage, opcode_of}
use Rattle.fs_serve.proofs.ReplyKinds.{opcode_said}
use Rattle.fs_serve.proofs.serving.opcode_of.Goals as goal

pub returns : goal.returns
returns c request says =
    let m = says.message in
    let same = c.in-Ok.ensures.only m says.spells in
    sym (opcode_said m.nodeid m.content request.body says.says)
    ∙ sym (ap (λ (m : RequestMessage). opcode_of m.content) same) ∙ sym c.opcode.ensures
