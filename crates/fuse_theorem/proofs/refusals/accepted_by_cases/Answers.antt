use Rattle.fuse_theorem.proofs.RefusalCases.RefusalsByCases.{only_accepted, within_accepted, also_accepted}
use Rattle.fuse_theorem.proofs.refusals.accepted_by_cases.Goals as goal

pub returns-clause-only : goal.returns-clause-only
returns-clause-only g = λ choice w e o after stepped. only_accepted choice w e o after stepped

pub returns-clause-within : goal.returns-clause-within
returns-clause-within g = λ choice w e o after stepped allocated. within_accepted choice w e o after stepped allocated

pub returns-clause-also : goal.returns-clause-also
returns-clause-also g = λ choice w e o after leads within. also_accepted choice w e o after leads within
