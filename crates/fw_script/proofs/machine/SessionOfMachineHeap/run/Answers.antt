use Rattle.std.proofs.Common.{List, subst}
use Rattle.fw_script.proofs.SessionRuns.{same_over}
use Rattle.fw_script.proofs.WorldRuns.{none_before, one_of_each}
use Rattle.fw_script.proofs.machine.SessionOfMachineHeap.run.Goals as goal
use Rattle.fuse_spec.specs.Claim.Sessions.{Session}
use Rattle.fw_world.specs.OverLinks.{RunsOneOver, session_of}
use Rattle.fw_world.specs.Runs.{RunsEach}
use Rattle.fw_world.specs.declared.event.Event.{Event}

pub returns-in-Ok-clause-ran : goal.returns-in-Ok-clause-ran
returns-in-Ok-clause-ran g c =
    let (added, is, runs, each) = c.in-Ok.ensures.ran in
    let carries = g.L.Link.carries in
    let failed = g.L.Link.failed in
    let old : Session × g.row.L.Denot = (session_of c.args.self.now.world c.args.self.now.is_lost, c.args.self.now.link) in
    let new : Session × g.row.L.Denot = (session_of c.run.new.self.world c.run.new.self.is_lost, c.run.new.self.link) in (
      added,
      is,
      one_of_each (RunsOneOver carries failed) old new c.args.event.now added
          (subst (λ (events : List Event). RunsEach (RunsOneOver carries failed) old events added new)
          c.from_ref.ensures.value each),
    )

pub returns-in-Err-clause-err : goal.returns-in-Err-clause-err
returns-in-Err-clause-err g c =
    let (added, is, runs, each) = c.in-Err.ensures.ran in
    let old = c.args.self.now in
    let new = c.run.new.self in
    same_over g.L.Link.carries g.L.Link.failed (old.world, old.is_lost, old.link) (new.world, new.is_lost, new.link) _ _
    runs.recorded
    (none_before c.in-Err.field-0 c.args.event.now c.from_ref.result.now c.from_ref.ensures.value c.in-Err.ensures.err)
