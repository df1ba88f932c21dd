use Rattle.fuse_theorem.proofs.RefusalCases.SameRefusals.{same_refusal}
use Rattle.fuse_theorem.proofs.refusals.same_refusal_for_each_choice.Goals as goal

pub returns : goal.returns
returns g = λ w e c d may other r refused. same_refusal w c d e may other r refused
