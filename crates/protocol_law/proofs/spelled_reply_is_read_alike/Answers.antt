use Rattle.protocol_law.proofs.RepliedAlike.{replied_alike}
use Rattle.protocol_law.proofs.spelled_reply_is_read_alike.Goals as goal

pub returns : goal.returns
returns c = replied_alike
