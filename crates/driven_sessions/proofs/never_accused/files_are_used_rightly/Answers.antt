use Rattle.driven_sessions.proofs.Files.UsedRightly.{files_used_rightly}
use Rattle.driven_sessions.proofs.never_accused.files_are_used_rightly.Goals as goal

pub returns : goal.returns
returns c = files_used_rightly
