use Rattle.std.proofs.Common.{◌+◌, ◌≤◌, sym, ap, length, ◌∙◌, arith}
use Rattle.fuse_spec.specs.World.Worlds.{World}
use Rattle.std.specs.Vec.{vec_len, vec_capacity}
use Rattle.fw_world.specs.Values.{event_of, outcome_of}
use Rattle.world_sessions.specs.WorldTransfers.{mounts_at}
use Rattle.world_sessions.proofs.GoingOn.{stays}
use Rattle.fw_world.proofs.Transferred.{goes_still}
use Rattle.fw_world.specs.OverLinks.{session_of}
use Rattle.fw_world.proofs.OverLinks.{adds_outcome, adds_refused, adds_run, one_more_at_most}
use Rattle.fw_world.proofs.Recording.{made_room, wanted_room}
use Rattle.fw_world.proofs.session.SessionOf.run_one.Goals as goal

pub collect_all-requires : goal.collect_all-requires
collect_all-requires g c =
    let room : vec_len c.reserve.new.self + c.in-Some.room ≤ vec_capacity c.reserve.new.self =
    made_room c.reserve.result _ _ _ c.reserve.ensures.ok (sym c.is_err.ensures.value ∙ c.if-is_err.false) in
    let few = one_more_at_most c.args.self.now.world c.step.new.self.world c.lemma_protocol.ensures.sound c.step.new.self.is_lost (event_of c.args.event.now) (outcome_of c.in-Ok.outcome) (g.L.Link.carries c.args.self.now.link c.step.new.self.link) (g.L.Link.failed c.args.self.now.link) (g.L.Link.failed c.step.new.self.link) c.in-Ok.ensures.happens c.in-Ok.ensures.lost in
    omega (
      arith,
      room,
      few,
      c.in-Some.ensures,
      c.push_reserved.ensures.len,
      c.push_reserved.ensures.capacity,
      c.add_loss.ensures.len,
      c.add_loss.ensures.capacity,
    )

pub returns-in-Ok-clause-ran : goal.returns-in-Ok-clause-ran
returns-in-Ok-clause-ran g c ran =
    let all = c.collect_all.ensures.records in
    adds_run g.L.Link.carries g.L.Link.failed (session_of c.args.self.now.world c.args.self.now.is_lost) c.args.self.now.link c.lemma_protocol.ensures.sound c.args.event.now c.args.records.now.items (session_of c.collect_all.new.world c.step.new.self.is_lost) c.step.new.self.link c.collect_all.new.records.items
    (adds_outcome g.L.Link.carries g.L.Link.failed c.args.self.now.world c.step.new.self.world c.args.self.now.is_lost c.step.new.self.is_lost c.args.self.now.link c.step.new.self.link c.args.event.now c.in-Ok.outcome c.in-Ok.ensures.accepted c.in-Ok.ensures.happens c.in-Ok.ensures.sent
    c.in-Ok.ensures.not_failed c.in-Ok.ensures.lost c.in-Ok.ensures.shown_after c.collect_all.new.world c.collect_all.ensures.world c.args.records.now.items c.reserve.new.self.items c.push_reserved.new.self.items c.add_loss.new.records.items c.collect_all.new.records.items all.0 c.reserve.ensures.items c.push_reserved.ensures.items c.add_loss.ensures.items all.1 all.2)

pub returns-in-Err-clause-ran : goal.returns-in-Err-clause-ran
returns-in-Err-clause-ran g c ran =
    let same = c.in-Err.ensures.err in
    adds_run g.L.Link.carries g.L.Link.failed (session_of c.args.self.now.world c.args.self.now.is_lost) c.args.self.now.link c.lemma_protocol.ensures.sound c.args.event.now c.args.records.now.items (session_of c.step.new.self.world c.step.new.self.is_lost) c.step.new.self.link c.push_reserved-in-Err.new.self.items
    (adds_refused g.L.Link.carries g.L.Link.failed c.args.self.now.world c.step.new.self.world c.args.self.now.is_lost c.step.new.self.is_lost c.args.self.now.link c.step.new.self.link c.args.event.now c.in-Err.refusal (λ gone. let e = c.in-Err.ensures.too_late gone in cc (e)) c.in-Err.ensures.refusal
    same.0 same.2 same.1 c.args.records.now.items c.reserve.new.self.items c.push_reserved-in-Err.new.self.items c.reserve.ensures.items c.push_reserved-in-Err.ensures.items)

pub returns-in-Ok-clause-room : goal.returns-in-Ok-clause-room
returns-in-Ok-clause-room g c ran =
    let few = one_more_at_most c.args.self.now.world c.step.new.self.world c.lemma_protocol.ensures.sound c.step.new.self.is_lost (event_of c.args.event.now) (outcome_of c.in-Ok.outcome) (g.L.Link.carries c.args.self.now.link c.step.new.self.link) (g.L.Link.failed c.args.self.now.link) (g.L.Link.failed c.step.new.self.link) c.in-Ok.ensures.happens c.in-Ok.ensures.lost in
    let none_left = ap (λ (w : World). length w.kernel.vfs.answers) c.collect_all.ensures.world in
    let calls_left = ap (λ (w : World). length w.kernel.vfs.calls) c.collect_all.ensures.world in
    omega (
      arith,
      few,
      none_left,
      calls_left,
      c.reserve.ensures.len,
      c.reserve.ensures.capacity,
      c.push_reserved.ensures.len,
      c.push_reserved.ensures.capacity,
      c.add_loss.ensures.len,
      c.add_loss.ensures.capacity,
      c.collect_all.ensures.len,
      c.collect_all.ensures.capacity,
    )

pub returns-then-is_err-clause-full : goal.returns-then-is_err-clause-full
returns-then-is_err-clause-full g c not_run =
    let full = wanted_room c.reserve.result _ _ _ c.reserve.ensures.full
    (sym c.is_err.ensures.value ∙ c.if-is_err.true) in
    omega (arith, full, c.in-Some.ensures)

pub push_reserved-requires-in-Err : goal.push_reserved-requires-in-Err
push_reserved-requires-in-Err g c =
    let room : vec_len c.reserve.new.self + c.in-Some.room ≤ vec_capacity c.reserve.new.self =
    made_room c.reserve.result _ _ _ c.reserve.ensures.ok (sym c.is_err.ensures.value ∙ c.if-is_err.false) in
    omega (arith, room, c.in-Some.ensures)

pub returns-in-Ok-clause-session : goal.returns-in-Ok-clause-session
returns-in-Ok-clause-session g c =
    goes_still (mounts_at (event_of c.args.event.now)) c.args.self.now.world c.step.new.self.world c.collect_all.new.world c.in-Ok.ensures.session c.collect_all.ensures.session

pub returns-in-Err-clause-session : goal.returns-in-Err-clause-session
returns-in-Err-clause-session g c = c.in-Err.ensures.session

pub returns-then-is_err-clause-session : goal.returns-then-is_err-clause-session
returns-then-is_err-clause-session g c = stays (mounts_at (event_of c.args.event.now)) c.args.self.now.world

pub returns-in_default-clause-session : goal.returns-in_default-clause-session
returns-in_default-clause-session g c = stays (mounts_at (event_of c.args.event.now)) c.args.self.now.world
