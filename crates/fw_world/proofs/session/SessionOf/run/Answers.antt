use Rattle.std.proofs.Common.{◌+◌, ◌*◌, ◌<◌, length, map, take, sym, subst, arith}
use Rattle.std.specs.Vec.{vec_len, vec_capacity}
use Rattle.fw_world.specs.declared.event.Event.TheVariants.{Mount}
use Rattle.fuse_spec.specs.declared.Minor.TheVariants.{M15}
use Rattle.world_sessions.specs.KernelRules.{SessionGoesOn}
use Rattle.world_sessions.specs.WorldTransfers.{mounts_among}
use Rattle.world_sessions.proofs.GoingOn.{stays}
use Rattle.fw_world.specs.Values.{event_of}
use Rattle.fw_world.proofs.Transferred.{goes_one_more, goes_to_end}
use Rattle.fw_world.specs.OverLinks.{session_of}
use Rattle.fw_world.specs.Runs.{calls_not_over}
use Rattle.fw_world.proofs.OverLinks.{all_over, comes_over, none_ran, one_more, ran_as_before, room_for_all}
use Rattle.fw_world.proofs.session.SessionOf.run.Goals as goal

pub loop-k-init : goal.loop-k-init
loop-k-init g c = (
  none_ran g.L.Link.carries g.L.Link.failed
      (session_of c.args.self.now.world c.args.self.now.is_lost) c.args.self.now.link c.args.events.now c.args.records.now.items,
  omega (arith),
  stays 0 c.args.self.now.world,
)

pub loop-k-preserved : goal.loop-k-preserved
loop-k-preserved g c = (
  one_more g.L.Link.carries g.L.Link.failed
      (session_of c.args.self.now.world c.args.self.now.is_lost) c.args.self.now.link c.args.events.now c.args.records.now.items (session_of c.loop-k.self.world c.loop-k.self.is_lost) c.loop-k.self.link c.loop-k.records.items c.loop-k.k
      (Mount 0 0 M15) (session_of c.run_one.new.self.world c.run_one.new.self.is_lost) c.run_one.new.self.link c.run_one.new.records.items c.loop-k-test.true c.loop-k.invariant.0 (c.run_one.ensures.ran c.if-not-run_one.false),
  omega (arith, c.loop-k.invariant.1, c.run_one.ensures.room c.if-not-run_one.false),
  goes_one_more c.args.events.now c.loop-k.k (Mount 0 0 M15) c.loop-k-test.true c.args.self.now.world c.loop-k.self.world
      c.run_one.new.self.world c.loop-k.invariant.2 c.run_one.ensures.session,
)

pub returns-then-not-run_one-clause-ran : goal.returns-then-not-run_one-clause-ran
returns-then-not-run_one-clause-ran g c =
    let same = c.run_one.ensures.not_run c.if-not-run_one.true in
    comes_over g.L.Link.carries g.L.Link.failed
    (session_of c.args.self.now.world c.args.self.now.is_lost) c.args.self.now.link c.lemma_protocol.ensures.sound
    (take c.loop-k.k c.args.events.now) c.args.records.now.items
    (session_of c.run_one.new.self.world c.run_one.new.self.is_lost) c.run_one.new.self.link c.run_one.new.records.items
    (ran_as_before g.L.Link.carries g.L.Link.failed
    (session_of c.args.self.now.world c.args.self.now.is_lost) c.args.self.now.link
    (take c.loop-k.k c.args.events.now) c.args.records.now.items c.loop-k.self.world c.run_one.new.self.world c.loop-k.self.is_lost c.run_one.new.self.is_lost c.loop-k.self.link c.run_one.new.self.link c.loop-k.records.items c.run_one.new.records.items same.0 same.1 same.2 same.3 c.loop-k.invariant.0)

pub returns-clause-ran : goal.returns-clause-ran
returns-clause-ran g c =
    comes_over g.L.Link.carries g.L.Link.failed
    (session_of c.args.self.now.world c.args.self.now.is_lost) c.args.self.now.link c.lemma_protocol.ensures.sound c.args.events.now c.args.records.now.items (session_of c.loop-k.self.world c.loop-k.self.is_lost) c.loop-k.self.link c.loop-k.records.items
    (all_over g.L.Link.carries g.L.Link.failed
    (session_of c.args.self.now.world c.args.self.now.is_lost) c.args.self.now.link c.args.events.now c.loop-k.k c.loop-k-test.false c.args.records.now.items (session_of c.loop-k.self.world c.loop-k.self.is_lost) c.loop-k.self.link c.loop-k.records.items c.loop-k.invariant.0)

pub returns-then-not-run_one-clause-full : goal.returns-then-not-run_one-clause-full
returns-then-not-run_one-clause-full g c = omega
    (arith, c.loop-k.invariant.1, c.loop-k-test.true, c.run_one.ensures.full c.if-not-run_one.true)

pub returns-then-not-run_one-clause-room : goal.returns-then-not-run_one-clause-room
returns-then-not-run_one-clause-room g c =
    let full : vec_capacity c.args.records.now < vec_len c.args.records.now
    + calls_not_over c.args.self.now.world + 2 * length c.args.events.now =
    omega (arith, c.loop-k.invariant.1, c.loop-k-test.true, c.run_one.ensures.full c.if-not-run_one.true) in
    room_for_all c.args.self.now.world c.lemma_protocol.ensures.sound (vec_len c.args.records.now)
    (vec_capacity c.args.records.now) c.loop-k.k (length c.args.events.now) c.loop-k-test.true full

pub returns-then-not-run_one-clause-session : goal.returns-then-not-run_one-clause-session
returns-then-not-run_one-clause-session g c =
    subst (SessionGoesOn (mounts_among (map event_of (take c.loop-k.k c.args.events.now))) c.args.self.now.world)
    (sym (c.run_one.ensures.not_run c.if-not-run_one.true).0) c.loop-k.invariant.2

pub returns-clause-session : goal.returns-clause-session
returns-clause-session g c = goes_to_end c.args.events.now c.loop-k.k c.loop-k-test.false c.args.self.now.world
    c.loop-k.self.world c.loop-k.invariant.2
