use Rattle.fk_wire.specs.Requests.{request_message}
use Rattle.fs_server.proofs.Judged.{answers_frame}
use Rattle.fs_server.proofs.server.ServerOf.take_answers.Goals as goal

pub returns-in-Ok : goal.returns-in-Ok
returns-in-Ok g c = answers_frame c.args.self.now c.args.bytes.now (request_message c.in-Ok.request) c.in-Ok.ensures.takeable c.answers.result (c.answers.ensures c.in-Ok.request.nodeid)
