use Rattle.std.proofs.Common.{List, subst}
use Rattle.fw_script.proofs.WorldRuns.{none_before, one_of_each, same_without}
use Rattle.fw_script.proofs.machine.WorldOfMachineHeap.run.Goals as goal
use Rattle.fw_world.specs.Runs.{RunsEach, RunsOne}
use Rattle.fw_world.specs.declared.event.Event.{Event}

pub returns-in-Ok-clause-ran : goal.returns-in-Ok-clause-ran
returns-in-Ok-clause-ran g c =
    let (added, is, runs, each) = c.in-Ok.ensures.ran in
    let old = c.args.self.now.sides in
    let new = c.run.new.world.sides in (
      added,
      is,
      one_of_each RunsOne old new c.args.event.now added
          (subst (λ (events : List Event). RunsEach RunsOne old events added new) c.from_ref.ensures.value each),
    )

pub returns-in-Err-clause-err : goal.returns-in-Err-clause-err
returns-in-Err-clause-err g c =
    let (added, is, runs, each) = c.in-Err.ensures.ran in
    let (p, alike) = c.lemma_protocol.ensures.refines in
    same_without c.args.self.now.sides c.run.new.world.sides _ _ p runs
    (none_before c.in-Err.field-0 c.args.event.now c.from_ref.result.now c.from_ref.ensures.value c.in-Err.ensures.err)
    alike
