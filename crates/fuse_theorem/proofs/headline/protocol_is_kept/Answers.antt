use Rattle.fuse_theorem.proofs.WholeLists.AllKeeps.{all_keep}
use Rattle.fuse_theorem.proofs.headline.protocol_is_kept.Goals as goal

pub returns : goal.returns
returns g = λ w p all. all_keep w p all
