use Rattle.fw_any.proofs.Statuses.{with_two}
use Rattle.fw_any.proofs.any_reply.run_any_reply.Goals as goal

pub returns-in-Some-clause-statuses : goal.returns-in-Some-clause-statuses
returns-in-Some-clause-statuses g c = with_two c.run_opcode.result c.run_opcode.ensures.statuses
