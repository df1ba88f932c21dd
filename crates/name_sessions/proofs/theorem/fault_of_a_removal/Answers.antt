use Rattle.name_sessions.proofs.TheoremLaws.{fault_means, fault_where}
use Rattle.name_sessions.proofs.theorem.fault_of_a_removal.Goals as goal

pub returns : goal.returns
returns c = λ s name. (fault_means s name, fault_where s name)
