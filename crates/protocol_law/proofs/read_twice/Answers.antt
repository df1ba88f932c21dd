use Rattle.protocol_law.proofs.Alike.{read_alike, refused_by_both}
use Rattle.protocol_law.proofs.read_twice.Goals as goal

pub returns-clause-alike : goal.returns-clause-alike
returns-clause-alike c = read_alike c.args.minor c.args.agreed c.args.bytes.now c.read_request_at.result
    c.read_request.result c.requires c.read_request_at.ensures.ok c.read_request.ensures.only

pub returns-clause-refused : goal.returns-clause-refused
returns-clause-refused c = refused_by_both c.args.minor c.args.agreed c.args.bytes.now c.read_request_at.result
    c.read_request.result c.requires c.read_request_at.ensures.ok c.read_request.ensures.fault
