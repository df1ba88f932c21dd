use Rattle.fs_tree.proofs.Below.{refused_below}
use Rattle.fs_tree.proofs.shape.rename_below_itself.Goals as goal

pub returns : goal.returns
returns c = λ tree shaped from to moved old new from_is to_is at named. refused_below tree shaped from to moved old new from_is to_is at named
