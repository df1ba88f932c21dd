use Rattle.fw_check.proofs.RankLaws.{at_rank_is}
use Rattle.fw_check.proofs.percentile.at_rank.Goals as goal

pub returns : goal.returns
returns c = λ all same. at_rank_is all c.args.times.now c.args.rank same c.requires.sorted c.requires.some c.requires.within
