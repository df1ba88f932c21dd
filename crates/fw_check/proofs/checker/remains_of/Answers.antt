use Rattle.fw_check.proofs.CheckLaws.{left_of}
use Rattle.fw_check.proofs.checker.remains_of.Goals as goal

pub returns : goal.returns
returns g c start transfers s seen stands = left_of s c.unanswered.result c.counted_nodes.result c.open_files.result
    (c.unanswered.ensures.count start transfers s seen) (c.counted_nodes.ensures s stands) (c.open_files.ensures s stands)
