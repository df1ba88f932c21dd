use Rattle.std.proofs.Common.{arith, refl, ap, length, ◌∙◌}
use Rattle.fuse_spec.specs.World.Worlds.{World}
use Rattle.world_sessions.proofs.GoingOn.{goes_further, stays}
use Rattle.fw_world.proofs.Collecting.{none_yet, collects_one, collects_all}
use Rattle.fw_world.proofs.runs.collect_all.Goals as goal

pub loop-call-init : goal.loop-call-init
loop-call-init g c = (none_yet c.args.world.now c.args.records.now.items c.lemma_protocol.ensures.sound.sound.both.world.rooted.answers, c.requires, refl, omega (arith), stays 0 c.args.world.now)

pub loop-call-smaller : goal.loop-call-smaller
loop-call-smaller g c =
    let one = collects_one c.args.world.now c.args.records.now.items c.loop-call.world c.loop-call.records.items c.loop-call.invariant.0 c.in-Some.call c.in-Some.answer c.in-Some.ensures.answer c.collect.new.self c.push_reserved.new.self.items c.in-Some.ensures.taken c.push_reserved.ensures.items in
    omega (arith, one.fewer)

pub loop-call-preserved : goal.loop-call-preserved
loop-call-preserved g c =
    let one = collects_one c.args.world.now c.args.records.now.items c.loop-call.world c.loop-call.records.items c.loop-call.invariant.0 c.in-Some.call c.in-Some.answer c.in-Some.ensures.answer c.collect.new.self c.push_reserved.new.self.items c.in-Some.ensures.taken c.push_reserved.ensures.items in (
      one.collects,
      omega (arith, one.fewer, c.loop-call.invariant.1, c.push_reserved.ensures.len, c.push_reserved.ensures.capacity),
      omega (arith, one.fewer, c.loop-call.invariant.2, c.push_reserved.ensures.len),
      omega (arith, c.loop-call.invariant.3, c.push_reserved.ensures.capacity),
      goes_further 0 0 c.args.world.now c.loop-call.world c.collect.new.self c.loop-call.invariant.4 c.collect.ensures.session,
    )

pub returns-clause-world : goal.returns-clause-world
returns-clause-world g c =
    let all = collects_all c.args.world.now c.args.records.now.items c.loop-call.world c.loop-call.records.items c.loop-call.invariant.0 c.in_default.ensures.answer in
    c.in_default.ensures.none ∙ all.0

pub returns-clause-records : goal.returns-clause-records
returns-clause-records g c =
    let all = collects_all c.args.world.now c.args.records.now.items c.loop-call.world c.loop-call.records.items c.loop-call.invariant.0 c.in_default.ensures.answer in
    (all.1, all.2, all.3)

pub returns-clause-len : goal.returns-clause-len
returns-clause-len g c =
    let all = collects_all c.args.world.now c.args.records.now.items c.loop-call.world c.loop-call.records.items c.loop-call.invariant.0 c.in_default.ensures.answer in
    omega (arith, c.loop-call.invariant.2, ap (λ (w : World). length w.kernel.vfs.answers) all.0)

pub returns-clause-capacity : goal.returns-clause-capacity
returns-clause-capacity g c = c.loop-call.invariant.3

pub returns-clause-session : goal.returns-clause-session
returns-clause-session g c = goes_further 0 0 c.args.world.now c.loop-call.world c.collect.new.self c.loop-call.invariant.4 c.collect.ensures.session
