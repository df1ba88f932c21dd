use Rattle.std.proofs.Common.{◌∙◌}
use Rattle.fk_queues.proofs.Requests.{above_absent, put_last}
use Rattle.fk_queues.proofs.kernel_queues.put_served.Goals as goal

pub put-requires-clause-absent : goal.put-requires-clause-absent
put-requires-clause-absent g c = above_absent c.args.calls.now.entries c.args.unique c.requires.above

pub returns-in-Call-clause-calls : goal.returns-in-Call-clause-calls
returns-in-Call-clause-calls g c =
    rw c.in-Call.is
    (c.put.ensures.entries ∙ put_last c.args.calls.now.entries c.args.unique c.in-Call.call c.requires.above)
