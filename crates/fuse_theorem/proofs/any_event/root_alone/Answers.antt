use Rattle.fuse_theorem.proofs.Refining.Aborting.{aborted_means}
use Rattle.fuse_theorem.proofs.Refining.Mounting.{mounted_means}
use Rattle.fuse_theorem.proofs.any_event.root_alone.Goals as goal

pub returns : goal.returns
returns g = λ w id file. (
  λ found_ms missing_ms minor means. mounted_means w found_ms missing_ms minor id file means,
  λ means. aborted_means w id file means,
)
