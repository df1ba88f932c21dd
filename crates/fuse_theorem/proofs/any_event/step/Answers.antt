use Rattle.fuse_theorem.proofs.WholeLists.EachEvent.{each_moves}
use Rattle.fuse_theorem.proofs.any_event.step.Goals as goal

pub returns : goal.returns
returns g = λ w p same choice e o after needs stepped. each_moves w p same o after choice e needs stepped
