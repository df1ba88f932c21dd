use Rattle.fw_world.specs.declared.event.Event.TheVariants.{Mount}
use Rattle.fuse_spec.specs.declared.Minor.TheVariants.{M15}
use Rattle.fw_world.specs.Runs.{calls_not_over}
use Rattle.fw_world.proofs.Recording.{none_ran, one_more, all_ran, comes_to, comes_as_before}
use Rattle.std.proofs.Common.{◌+◌, ◌*◌, ◌<◌, length, map, take, sym, subst, arith}
use Rattle.std.specs.Vec.{vec_len, vec_capacity}
use Rattle.world_sessions.specs.KernelRules.{SessionGoesOn}
use Rattle.world_sessions.specs.WorldTransfers.{mounts_among}
use Rattle.world_sessions.proofs.GoingOn.{stays}
use Rattle.fw_world.specs.Values.{event_of}
use Rattle.fw_world.proofs.Transferred.{goes_one_more, goes_to_end}
use Rattle.fw_world.proofs.OverLinks.{room_for_all}
use Rattle.fw_world.proofs.runs.run.Goals as goal

pub loop-k-init : goal.loop-k-init
loop-k-init g c = (none_ran c.args.world.now.sides c.args.events.now c.args.records.now.items, omega (arith), stays 0 c.args.world.now.sides)

pub loop-k-preserved : goal.loop-k-preserved
loop-k-preserved g c = (
  one_more c.args.world.now.sides c.args.events.now c.args.records.now.items c.loop-k.world.sides c.loop-k.records.items c.loop-k.k
      (Mount 0 0 M15) c.run_one.new.world.sides c.run_one.new.records.items c.loop-k-test.true c.loop-k.invariant.0
      (c.run_one.ensures.ran c.if-not-run_one.false),
  omega (arith, c.loop-k.invariant.1, c.run_one.ensures.room c.if-not-run_one.false),
  goes_one_more c.args.events.now c.loop-k.k (Mount 0 0 M15) c.loop-k-test.true c.args.world.now.sides c.loop-k.world.sides
      c.run_one.new.world.sides c.loop-k.invariant.2 c.run_one.ensures.session,
)

pub returns-then-not-run_one-clause-ran : goal.returns-then-not-run_one-clause-ran
returns-then-not-run_one-clause-ran g c =
    let same = c.run_one.ensures.not_run c.if-not-run_one.true in
    comes_as_before c.args.world.now.sides c.lemma_protocol.ensures.sound
    (take c.loop-k.k c.args.events.now) c.args.records.now.items c.loop-k.world.sides c.run_one.new.world.sides c.loop-k.records.items c.run_one.new.records.items c.loop-k.invariant.0 same.0 same.1

pub returns-clause-ran : goal.returns-clause-ran
returns-clause-ran g c =
    comes_to c.args.world.now.sides c.lemma_protocol.ensures.sound c.args.events.now c.args.records.now.items c.loop-k.world.sides c.loop-k.records.items
    (all_ran c.args.world.now.sides c.args.events.now c.loop-k.k c.loop-k-test.false c.args.records.now.items c.loop-k.world.sides c.loop-k.records.items c.loop-k.invariant.0)

pub returns-then-not-run_one-clause-full : goal.returns-then-not-run_one-clause-full
returns-then-not-run_one-clause-full g c = omega
    (arith, c.loop-k.invariant.1, c.loop-k-test.true, c.run_one.ensures.full c.if-not-run_one.true)

pub returns-then-not-run_one-clause-room : goal.returns-then-not-run_one-clause-room
returns-then-not-run_one-clause-room g c =
    let full : vec_capacity c.args.records.now < vec_len c.args.records.now
    + calls_not_over c.args.world.now.sides + 2 * length c.args.events.now =
    omega (arith, c.loop-k.invariant.1, c.loop-k-test.true, c.run_one.ensures.full c.if-not-run_one.true) in
    room_for_all c.args.world.now.sides c.lemma_protocol.ensures.sound (vec_len c.args.records.now)
    (vec_capacity c.args.records.now) c.loop-k.k (length c.args.events.now) c.loop-k-test.true full

pub returns-then-not-run_one-clause-session : goal.returns-then-not-run_one-clause-session
returns-then-not-run_one-clause-session g c =
    subst (SessionGoesOn (mounts_among (map event_of (take c.loop-k.k c.args.events.now))) c.args.world.now.sides)
    (sym (c.run_one.ensures.not_run c.if-not-run_one.true).0) c.loop-k.invariant.2

pub returns-clause-session : goal.returns-clause-session
returns-clause-session g c = goes_to_end c.args.events.now c.loop-k.k c.loop-k-test.false c.args.world.now.sides
    c.loop-k.world.sides c.loop-k.invariant.2
