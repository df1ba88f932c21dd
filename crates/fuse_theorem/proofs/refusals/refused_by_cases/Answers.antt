use Rattle.fuse_theorem.proofs.RefusalCases.RefusalsByCases.{only_refused, also_refused}
use Rattle.fuse_theorem.proofs.refusals.refused_by_cases.Goals as goal

pub returns-clause-only : goal.returns-clause-only
returns-clause-only g = λ choice w e r stepped. only_refused choice w e r stepped

pub returns-clause-also : goal.returns-clause-also
returns-clause-also g = λ choice w e r refuses. also_refused choice w e r refuses
