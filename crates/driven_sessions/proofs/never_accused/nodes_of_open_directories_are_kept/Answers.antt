use Rattle.driven_sessions.proofs.Files.OpenedKept.{opened_are_kept}
use Rattle.driven_sessions.proofs.never_accused.nodes_of_open_directories_are_kept.Goals as goal

pub returns : goal.returns
returns c = opened_are_kept
