use Rattle.fk_wire.proofs.OneRequest.{decoded_is_at}
use Rattle.fk_wire.proofs.reading.spelled_is_decoded.Goals as goal

pub returns : goal.returns
returns c = decoded_is_at
