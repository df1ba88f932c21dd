use Rattle.fuse_theorem.proofs.Refining.InitialWorld.{first_alike}
use Rattle.fuse_theorem.proofs.any_event.first_worlds.Goals as goal

pub returns : goal.returns
returns g = first_alike
