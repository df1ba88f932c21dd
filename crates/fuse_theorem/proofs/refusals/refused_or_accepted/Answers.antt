use Rattle.fuse_theorem.proofs.Refining.Choosing.{some_choice, one_refusal, not_both}
use Rattle.fuse_theorem.proofs.refusals.refused_or_accepted.Goals as goal

pub returns-clause-choice : goal.returns-clause-choice
returns-clause-choice g = λ w e. some_choice w e

pub returns-clause-once : goal.returns-clause-once
returns-clause-once g = λ w e r s first second. one_refusal w e r s first second

pub returns-clause-apart : goal.returns-clause-apart
returns-clause-apart g = λ w e r refused o after happens. not_both w e r refused o after happens
