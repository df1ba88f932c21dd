use Rattle.std.proofs.Common.{ℕ, [], ◌∙◌, refl, sym, subst}
use Rattle.fk_wire.specs.declared.opcode.Opcode.{Opcode}
use Rattle.fuse_frames.specs.RequestTies.{asked_opcode}
use Rattle.fuse_spec.specs.Server.Server.{Server}
use Rattle.fs_server.specs.Effects.{CanTake, RefusesFrame, TakingNeedsMemory}
use Rattle.fs_serve.specs.Sending.{RepliesTo}
use Rattle.fs_serve.specs.Serving.{HoldsOpcode, ServesFrame}
use Rattle.fs_serve.proofs.Servings.{serves_at_once, serves_silently, serves_performed}
use Rattle.fs_serve.proofs.ReplyKinds.{answered_goes, replies_to, taken_holds}
use Rattle.fs_serve.proofs.serving.serve_other.Goals as goal

pub opcode_of-opcode-requires : goal.opcode_of-opcode-requires
opcode_of-opcode-requires g c = let t = c.in-Ok.ensures.effect in (t.request, t.says)

pub deliver-requires : goal.deliver-requires
deliver-requires g c =
    let t = c.in-Ok.ensures.effect in
    let copy = c.in-Some.sent in
    let goes = answered_goes c.args.server.now t.request.unique c.args.server.now.next_copy copy t.request.body
    (sym c.in-Some.is ∙ t.copy) in
    subst (λ (o : Opcode). RepliesTo o copy) (c.opcode_of-opcode.ensures t.request t.says)
    (replies_to t.request.body copy goes)

pub serve_held-requires : goal.serve_held-requires
serve_held-requires g c =
    let t = c.in-Ok.ensures.effect in
    let holds = taken_holds c.args.server.now t.request.unique t.request.body (t.as_word ∙ c.in-Held.is) in
    let as_new = subst (λ (s : Server). HoldsOpcode s t.request.unique (asked_opcode t.request.body)) (sym t.after) holds in
    let under = subst (λ (u : ℕ). HoldsOpcode c.take.new.self u (asked_opcode t.request.body)) t.under as_new in
    subst (λ (o : Opcode). HoldsOpcode c.take.new.self c.in-Ok.taken.unique o)
    (c.opcode_of-opcode.ensures t.request t.says) under

pub returns-in-Err : goal.returns-in-Err
returns-in-Err g c =
    let (log, logs, serves, ends) = c.refuse.ensures in
    (log, logs, subst (λ (s : Server). ServesFrame s c.args.frame.now log c.take.new.self) c.in-Err.ensures.refused serves, ends)

pub refuse-requires-clause-refused : goal.refuse-requires-clause-refused
refuse-requires-clause-refused g c =
    subst (λ (s : Server). RefusesFrame s c.args.frame.now c.in-Err.fault) (sym c.in-Err.ensures.refused) c.in-Err.ensures.effect

pub refuse-requires-clause-can : goal.refuse-requires-clause-can
refuse-requires-clause-can g c memory =
    subst (λ (s : Server). CanTake s c.args.frame.now) (sym c.in-Err.ensures.refused) (c.in-Err.ensures.can memory)

pub refuse-requires-clause-wants : goal.refuse-requires-clause-wants
refuse-requires-clause-wants g c memory =
    subst (λ (s : Server). TakingNeedsMemory s c.args.frame.now) (sym c.in-Err.ensures.refused) (c.in-Err.ensures.memory memory)

pub refuse-requires-clause-other : goal.refuse-requires-clause-other
refuse-requires-clause-other g c memory request says = c.requires request says

pub returns-in-Some : goal.returns-in-Some
returns-in-Some g c =
    let (log, logs, delivers, ends) = c.deliver.ensures in (
      log,
      logs,
      serves_at_once c.args.server.now c.take.new.self c.args.frame.now c.in-Ok.taken c.in-Ok.ensures.effect
          c.in-Some.sent c.in-Some.is log c.deliver.new.server delivers,
      ends,
    )

pub returns-in-Held : goal.returns-in-Held
returns-in-Held g c =
    let (log, logs, serves, ends) = c.serve_held.ensures in (
      log,
      logs,
      serves_performed c.args.server.now c.take.new.self c.args.frame.now c.in-Ok.taken c.in-Ok.ensures.effect
          c.in-Held.is (let t = c.in-Ok.ensures.effect in c.requires t.request t.says) log c.serve_held.new.server serves,
      ends,
    )

pub returns : goal.returns
returns g c = (
  [],
  g.met.D.Device.stays c.args.device.now,
  serves_silently c.args.server.now c.take.new.self c.args.frame.now
      c.in-Ok.taken c.in-Ok.ensures.effect c.in_default.is c.in_default-word.not-Held,
  refl,
)
