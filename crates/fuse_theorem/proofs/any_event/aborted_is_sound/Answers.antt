use Rattle.fuse_theorem.proofs.Requests.AfterMount.{aborted_numbered, aborted_known}
use Rattle.fuse_theorem.proofs.any_event.aborted_is_sound.Goals as goal

pub returns : goal.returns
returns g = λ w one tables. (
  aborted_numbered w,
  one,
  aborted_known w,
  record { no_root = tables.no_root; new_handle = tables.new_handle },
)
