use Rattle.fuse_theorem.proofs.Requests.AfterMount.{mounted_numbered, mounted_one_id, mounted_known, mounted_tables}
use Rattle.fuse_theorem.proofs.any_event.mounted_is_sound.Goals as goal

pub returns : goal.returns
returns g = λ w found_ms missing_ms minor. (
  mounted_numbered w found_ms missing_ms minor,
  mounted_one_id w found_ms missing_ms minor,
  mounted_known w found_ms missing_ms minor,
  mounted_tables w found_ms missing_ms minor,
)
