use Rattle.std.proofs.Common.{nat_eq}
use Rattle.fuse_sessions.specs.Counts.{forgets_of, gives_most}
use Rattle.fuse_sessions.specs.OpenFiles.{opens_this, releases_this}
use Rattle.fw_check.specs.Standing.{file_of, same_key}
use Rattle.fw_check.proofs.StandingLaws.{step_of}
use Rattle.fuse_text.proofs.Writes.{OnOk-map}
use Rattle.fw_check.proofs.standing.note_act.Goals as goal

pub returns : goal.returns
returns g c = OnOk-map _ _ c.note_step-2.result (λ noted s stands. record {
  nodes_held = c.in_ok-note_step.ensures _ _ stands.nodes_held
      (step_of nat_eq gives_most forgets_of s c.args.act c.node_step.result c.node_step.ensures);
  files_held = noted _ _ stands.files_held
      (step_of same_key (λ k. opens_this (file_of k)) (λ k. releases_this (file_of k)) s c.args.act c.file_step.result
      c.file_step.ensures);
}) c.note_step-2.ensures
