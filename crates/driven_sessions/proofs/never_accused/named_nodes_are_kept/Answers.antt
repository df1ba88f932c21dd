use Rattle.driven_sessions.proofs.Files.NamedKept.{named_are_kept}
use Rattle.driven_sessions.proofs.never_accused.named_nodes_are_kept.Goals as goal

pub returns : goal.returns
returns c = named_are_kept
