use Rattle.driven_sessions.proofs.Files.DirectoriesUsedRightly.{directories_used_rightly}
use Rattle.driven_sessions.proofs.never_accused.directories_are_used_rightly.Goals as goal

pub returns : goal.returns
returns c = directories_used_rightly
