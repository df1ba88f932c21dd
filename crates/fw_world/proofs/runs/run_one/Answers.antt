use Rattle.std.proofs.Common.{◌+◌, ◌≤◌, sym, ap, length, ◌∙◌, arith}
use Rattle.fuse_spec.specs.World.Worlds.{World}
use Rattle.std.specs.Vec.{vec_len, vec_capacity}
use Rattle.fuse_theorem.proofs.Answers.WaitingAnswers.{one_more_waits}
use Rattle.world_sessions.specs.WorldTransfers.{mounts_at}
use Rattle.world_sessions.proofs.GoingOn.{stays}
use Rattle.fw_world.proofs.Transferred.{goes_still}
use Rattle.fw_world.specs.Values.{event_of, outcome_of}
use Rattle.fw_world.proofs.Recording.{adds_refusal, adds_outcome, made_room, wanted_room}
use Rattle.fw_world.proofs.runs.run_one.Goals as goal

pub collect_all-requires : goal.collect_all-requires
collect_all-requires g c =
    let room : vec_len c.reserve.new.self + c.in-Some.room ≤ vec_capacity c.reserve.new.self =
    made_room c.reserve.result _ _ _ c.reserve.ensures.ok (sym c.is_err.ensures.value ∙ c.if-is_err.false) in
    let few = one_more_waits c.args.world.now.sides (event_of c.args.event.now)
    (outcome_of c.in-Ok.outcome) c.step.new.self.sides c.in-Ok.ensures.step.happens in
    omega (arith, room, few, c.in-Some.ensures, c.push_reserved.ensures.len, c.push_reserved.ensures.capacity)

pub returns-in-Ok-clause-ran : goal.returns-in-Ok-clause-ran
returns-in-Ok-clause-ran g c ran =
    let all = c.collect_all.ensures.records in
    adds_outcome c.args.world.now.sides c.lemma_protocol.ensures.sound c.args.event.now c.in-Ok.outcome c.step.new.self.sides c.in-Ok.ensures.step.happens c.in-Ok.ensures.step.shows c.args.records.now.items c.reserve.new.self.items c.push_reserved.new.self.items c.collect_all.new.records.items all.0 c.collect_all.new.world c.collect_all.ensures.world c.reserve.ensures.items c.push_reserved.ensures.items all.1 all.2

pub returns-in-Err-clause-ran : goal.returns-in-Err-clause-ran
returns-in-Err-clause-ran g c ran =
    adds_refusal c.args.world.now.sides c.lemma_protocol.ensures.sound c.args.event.now c.in-Err.refusal c.in-Err.ensures.step.refusal c.args.records.now.items c.reserve.new.self.items c.push_reserved-in-Err.new.self.items c.step.new.self.sides c.in-Err.ensures.step.err c.reserve.ensures.items c.push_reserved-in-Err.ensures.items

pub returns-in-Ok-clause-room : goal.returns-in-Ok-clause-room
returns-in-Ok-clause-room g c ran =
    let few = one_more_waits c.args.world.now.sides (event_of c.args.event.now)
    (outcome_of c.in-Ok.outcome) c.step.new.self.sides c.in-Ok.ensures.step.happens in
    let none_left = ap (λ (w : World). length w.kernel.vfs.answers) c.collect_all.ensures.world in
    let calls_left = ap (λ (w : World). length w.kernel.vfs.calls) c.collect_all.ensures.world in
    omega (
      arith,
      few,
      none_left,
      calls_left,
      c.reserve.ensures.len,
      c.reserve.ensures.capacity,
      c.push_reserved.ensures.len,
      c.push_reserved.ensures.capacity,
      c.collect_all.ensures.len,
      c.collect_all.ensures.capacity,
    )

pub returns-then-is_err-clause-full : goal.returns-then-is_err-clause-full
returns-then-is_err-clause-full g c not_run =
    let full = wanted_room c.reserve.result _ _ _ c.reserve.ensures.full
    (sym c.is_err.ensures.value ∙ c.if-is_err.true) in
    omega (arith, full, c.in-Some.ensures)

pub returns-in-Ok-clause-session : goal.returns-in-Ok-clause-session
returns-in-Ok-clause-session g c =
    goes_still (mounts_at (event_of c.args.event.now)) c.args.world.now.sides c.step.new.self.sides c.collect_all.new.world c.in-Ok.ensures.session c.collect_all.ensures.session

pub returns-in-Err-clause-session : goal.returns-in-Err-clause-session
returns-in-Err-clause-session g c = c.in-Err.ensures.session

pub returns-then-is_err-clause-session : goal.returns-then-is_err-clause-session
returns-then-is_err-clause-session g c = stays (mounts_at (event_of c.args.event.now)) c.args.world.now.sides

pub returns-in_default-clause-session : goal.returns-in_default-clause-session
returns-in_default-clause-session g c = stays (mounts_at (event_of c.args.event.now)) c.args.world.now.sides
