use Rattle.std.proofs.Common.{[], refl, sym, subst, ◌∙◌, inl, inr}
use Rattle.fuse_spec.specs.Server.Server.{Server}
use Rattle.fs_server.specs.Effects.{RefusesFrame}
use Rattle.fk_wire.specs.declared.opcode.Opcode.TheVariants.{Release}
use Rattle.fs_server.specs.Releasing.{bare_reply}
use Rattle.fs_serve.specs.Sending.{IsFilledFrame}
use Rattle.fs_serve.specs.Serving.{ServesFrame, released, unreleased}
use Rattle.fs_serve.proofs.Releases.{bare_frame, exhausted, refuses_frame, replies_live, replies_lost}
use Rattle.fs_serve.proofs.releasing.serve_release.Goals as goal

pub returns-then-is_aborted : goal.returns-then-is_aborted
returns-then-is_aborted g c = (
  [],
  g.met.D.Device.stays c.args.device.now,
  released c.args.unique c.args.opened c.requires c.in-Ok.errno c.release.new.self c.in-Ok.ensures.effect []
      (replies_lost c.args.server.now c.args.unique c.in-Ok.errno []
      (sym c.is_aborted-is_aborted.ensures ∙ c.if-is_aborted.true) refl),
  refl,
)

pub returns-else-is_aborted : goal.returns-else-is_aborted
returns-else-is_aborted g c =
    let (log, logs, sends, ends) = c.send_error.ensures in
    let live = sym c.is_aborted-is_aborted.ensures ∙ c.if-is_aborted.false in
    let written = sends.written in
    let framed : IsFilledFrame Release sends.bytes (record { unique = c.args.unique; wire = bare_reply c.in-Ok.errno }) =
    elim c.in-Ok.ensures.error [
      | inl is ↦ bare_frame c.args.unique c.in-Ok.errno sends.bytes (inl is) (rw is (rw is at written))
      | inr is ↦ bare_frame c.args.unique c.in-Ok.errno sends.bytes (inr is) (rw is (rw is at written))
    ] in (
      log,
      logs,
      released c.args.unique c.args.opened c.requires c.in-Ok.errno c.release.new.self c.in-Ok.ensures.effect log
          (replies_live c.args.server.now c.args.unique c.in-Ok.errno log live sends.bytes framed sends.sends),
      ends,
    )

pub returns-in-Exhausted : goal.returns-in-Exhausted
returns-in-Exhausted g c =
    let (log, logs, sends, ends) = c.send_error-in-Exhausted.ensures in
    let refuses = exhausted c.args.server.now c.args.unique c.args.opened c.in-Err.fault c.in-Exhausted.is c.in-Err.ensures.effect in (
      log,
      logs,
      subst (λ (s : Server). ServesFrame c.args.server.now c.args.frame.now log s) (sym c.in-Err.ensures.refused)
          (unreleased c.args.unique c.args.opened c.requires refuses log sends),
      ends,
    )

pub refuse-requires : goal.refuse-requires
refuse-requires g c =
    let refuses = refuses_frame c.args.server.now c.args.unique c.args.opened c.args.frame.now c.requires c.in-Err.fault c.in_default.not-Exhausted c.in-Err.ensures.effect in
    record {
      refused = subst (λ (s : Server). RefusesFrame s c.args.frame.now c.in-Err.fault) (sym c.in-Err.ensures.refused)
          refuses.0;
      can = λ memory. absurd (refuses.1 memory);
      wants = λ memory. absurd (refuses.1 memory);
      other = λ memory. absurd (refuses.1 memory);
    }

pub returns-in_default : goal.returns-in_default
returns-in_default g c =
    let (log, logs, serves, ends) = c.refuse.ensures in
    (log, logs, subst (λ (s : Server). ServesFrame s c.args.frame.now log c.release.new.self) c.in-Err.ensures.refused serves, ends)
