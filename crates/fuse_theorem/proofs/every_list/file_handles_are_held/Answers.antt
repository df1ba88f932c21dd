use Rattle.fuse_theorem.proofs.OpenFiles.OpenNeeds.{opens_held, release_handle, released_held_still, held_handles, settled_held}
use Rattle.fuse_theorem.proofs.every_list.file_handles_are_held.Goals as goal

pub returns-clause-live : goal.returns-clause-live
returns-clause-live g = λ w p both old live. (opens_held w p both old live, held_handles w p both old live)

pub returns-clause-release : goal.returns-clause-release
returns-clause-release g = λ w p both old live unique t at o is.
    (release_handle w p both old live unique t at o is, released_held_still w p both old live unique t at o is)

pub returns-clause-settle : goal.returns-clause-settle
returns-clause-settle g =
    λ w p both releases old k result copy there known. settled_held w p both releases old k result copy there known
