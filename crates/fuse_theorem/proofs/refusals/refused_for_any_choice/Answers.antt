use Rattle.fuse_theorem.proofs.RefusalCases.RefusalsByCases.{only_refused, also_refused}
use Rattle.fuse_theorem.proofs.refusals.refused_for_any_choice.Goals as goal

pub returns-clause-only : goal.returns-clause-only
returns-clause-only g = λ w e r refused choice may. only_refused choice w e r (refused choice may)

pub returns-clause-also : goal.returns-clause-also
returns-clause-also g = λ w e r refuses choice may. also_refused choice w e r (refuses choice may)
