use Rattle.std.proofs.Common.{◌∙◌, nat_lt}
use Rattle.std.specs.Prelude.{filter}
use Rattle.std.specs.List.{flat_map}
use Rattle.fuse_sessions.specs.OpenFiles.{opened}
use Rattle.fw_check.specs.Standing.{opened_by}
use Rattle.fw_check.proofs.StandingLaws.{as_many_files, file_members}
use Rattle.fw_check.proofs.standing.open_files.Goals as goal

pub returns : goal.returns
returns g c s stands =
    c.held_keys.ensures _ (file_members s c.args.standing.now.files.entries stands.files_held) ∙ as_many_files (filter (λ file. nat_lt 0 (opened s file)) (flat_map opened_by s))
