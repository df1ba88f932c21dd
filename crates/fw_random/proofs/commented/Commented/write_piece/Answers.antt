use Rattle.std.proofs.KnownBytes.{Appends-trans}
use Rattle.fw_random.proofs.Pieces.{begun_by_last, piece_commented}
use Rattle.fw_random.proofs.commented.Commented.write_piece.Goals as goal

pub returns-clause-ok : goal.returns-clause-ok
returns-clause-ok g c =
    rw (piece_commented c.args.self.now.is_begun c.args.piece.now c.requires.some c.requires.piece)
    (Appends-trans _ _ _ _ _ c.in_ok-begin_line.ensures.ok c.in_ok-write_all.ensures.bytes)

pub returns-clause-begun : goal.returns-clause-begun
returns-clause-begun g c = begun_by_last c.args.self.now.is_begun c.args.piece.now c.requires.some
