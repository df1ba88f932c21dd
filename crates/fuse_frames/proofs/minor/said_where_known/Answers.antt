use Rattle.fuse_frames.proofs.RequestLemmas.{said_and_known, said_at}
use Rattle.fuse_frames.proofs.minor.said_where_known.Goals as goal

pub returns : goal.returns
returns c minor bytes request = (said_and_known minor bytes request, said_at minor bytes request)
