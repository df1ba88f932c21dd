use Rattle.std.proofs.Common.{refl}
use Rattle.fk_wire.specs.Opcodes.{reply_kind_of, minor_knows, latest_minor}
use Rattle.fk_wire.specs.Requests.{opcode_of, request_content}
use Rattle.callers.proofs.Answering.{kind_there}
use Rattle.callers.proofs.server.reply_to.Goals as goal

pub returns-in_default-clause-goes : goal.returns-in_default-clause-goes
returns-in_default-clause-goes c =
    let opcode = opcode_of (request_content c.args.request.now.body) in
    let there = kind_there (minor_knows latest_minor opcode) (reply_kind_of opcode) c.requires.known c.requires.replies in
    (there.0, there.1, refl)
