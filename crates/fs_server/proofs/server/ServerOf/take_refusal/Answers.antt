use Rattle.fk_wire.specs.Requests.{request_message}
use Rattle.fs_server.proofs.Judged.{can_take_it}
use Rattle.fs_server.proofs.server.ServerOf.take_refusal.Goals as goal

pub returns-clause-none : goal.returns-clause-none
returns-clause-none g c =
    can_take_it request_message c.args.self.now c.args.bytes.now c.judged.result c.judged.ensures.takeable c.err.result c.err.ensures.value
