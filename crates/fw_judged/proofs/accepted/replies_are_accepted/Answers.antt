use Rattle.fw_judged.proofs.Heard.{accepted_where_served}
use Rattle.fw_judged.proofs.WholeSessions.{all_accepted}
use Rattle.fw_judged.proofs.accepted.replies_are_accepted.Goals as goal

pub returns-clause-one : goal.returns-clause-one
returns-clause-one c = accepted_where_served

pub returns-clause-all : goal.returns-clause-all
returns-clause-all c = all_accepted
