use Rattle.fuse_theorem.proofs.WholeLists.NoPremise.{left_sound}
use Rattle.fuse_theorem.proofs.counterexamples.nodes_differ_before_rest.Goals as goal

pub returns : goal.returns
returns g = (left_sound, λ same. same)
