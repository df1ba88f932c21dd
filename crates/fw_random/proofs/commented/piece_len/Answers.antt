use Rattle.fw_random.proofs.Pieces.{piece_at_feed}
use Rattle.fw_random.proofs.commented.piece_len.Goals as goal

pub returns-in-Some-clause-piece : goal.returns-in-Some-clause-piece
returns-in-Some-clause-piece c = rw c.in-Some.is at (piece_at_feed c.args.bytes.now c.find_feed.result c.find_feed.ensures)

pub returns-in-None-clause-piece : goal.returns-in-None-clause-piece
returns-in-None-clause-piece c = rw c.in-None.is at (piece_at_feed c.args.bytes.now c.find_feed.result c.find_feed.ensures)
