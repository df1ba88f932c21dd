use Rattle.fuse_theorem.proofs.RefusalCases.RefusalsByCases.{refused_once}
use Rattle.fuse_theorem.proofs.refusals.refused_once.Goals as goal

pub returns : goal.returns
returns g = λ choice w e r s first second. refused_once choice w e r s first second
