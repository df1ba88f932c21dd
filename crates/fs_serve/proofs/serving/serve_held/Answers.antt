use Rattle.std.proofs.Common.{Option, [], inl, inr, refl, sym, subst, ap, ◌∙◌}
use Rattle.fuse_spec.specs.Values.Maps.{remove}
use Rattle.fuse_spec.specs.Server.Server.{Server}
use Rattle.fuse_spec.specs.World.Worlds.{Sent}
use Rattle.fs_server.specs.Effects.{PerformsHeld}
use Rattle.fs_serve.specs.Serving.{ServesHeld, replied, unreplied, dropped}
use Rattle.fs_serve.proofs.ReplyKinds.{performed_replies}
use Rattle.fs_serve.proofs.serving.serve_held.Goals as goal

pub deliver-requires : goal.deliver-requires
deliver-requires g c =
    let performs = subst (λ (s : Option Sent). PerformsHeld c.args.server.now c.args.unique c.in-Ok.done.errno s c.perform.new.self) c.in-Some.is c.in-Ok.ensures.performed in
    performed_replies c.args.server.now c.perform.new.self c.args.unique c.in-Ok.done.errno c.args.opcode c.in-Some.sent
    c.requires performs

pub returns-in-Some : goal.returns-in-Some
returns-in-Some g c =
    let (log, logs, delivers, ends) = c.deliver.ensures in
    let performs = subst (λ (s : Option Sent). PerformsHeld c.args.server.now c.args.unique c.in-Ok.done.errno s c.perform.new.self) c.in-Some.is c.in-Ok.ensures.performed in
    (log, logs, replied c.in-Ok.done.errno c.in-Some.sent c.perform.new.self performs log c.deliver.new.server delivers, ends)

pub returns-in-Ok : goal.returns-in-Ok
returns-in-Ok g c =
    let performs = subst (λ (s : Option Sent). PerformsHeld c.args.server.now c.args.unique c.in-Ok.done.errno s c.perform.new.self) c.in-None.is c.in-Ok.ensures.performed in
    ([], g.met.D.Device.stays c.args.device.now, unreplied c.in-Ok.done.errno c.perform.new.self performs, refl)

pub returns : goal.returns
returns g c =
    let (log, logs, sends, ends) = c.send_refusal.ensures in
    let same = c.drop_held.ensures ∙ ap (λ (s : Server). record s { held = remove s.held c.args.unique }) c.in-Err.ensures.err in (
      log,
      logs,
      subst (λ (s : Server). ServesHeld c.args.server.now c.args.unique log s) (sym same)
          (dropped c.in-Err.refusal (elim c.in-Err.ensures.refusal [
            | inl refuses ↦ inl refuses
            | inr none_left ↦
                let both = c.in-Err.ensures.memory none_left in inr (none_left, both.0, both.1)
          ]) log sends),
      ends,
    )
