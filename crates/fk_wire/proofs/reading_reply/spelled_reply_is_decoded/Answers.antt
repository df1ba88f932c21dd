use Rattle.fk_wire.proofs.OneReply.{decoded_reply_is_at}
use Rattle.fk_wire.proofs.reading_reply.spelled_reply_is_decoded.Goals as goal

pub returns : goal.returns
returns c = decoded_reply_is_at
