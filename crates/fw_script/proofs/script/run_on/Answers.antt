use Rattle.std.proofs.Common.{refl, arith}
use Rattle.fw_script.specs.Scripts.{IsRunOf}
use Rattle.fw_script.proofs.Ending.{at_0_or_5, ended_at_1, ended_at_3, ended_at_5, never_0, said_at_3}
use Rattle.fuse_text.proofs.Statuses.{status_among}
use Rattle.fw_script.proofs.script.run_on.Goals as goal

pub returns-in-Ok : goal.returns-in-Ok
returns-in-Ok g c = record {
  statuses = (0, omega arith, refl);
  judged = λ at. c.in-Ok.ensures.judged;
  silent = λ at. absurd (cc at);
  printed = λ at. c.in-Ok.ensures.ends;
  stopped = λ at. absurd (cc at);
  refused = λ at. absurd (cc at);
  fault = λ at. absurd (cc at);
  no_memory = λ at. absurd (cc at);
  no_fault = λ at. refl;
}

pub returns-in-Err : goal.returns-in-Err
returns-in-Err g c =
    let name = c.args.name.now in
    let known = g.R.Read.remaining c.args.input.now in
    let stop = c.in-Err.stop in
    let old = g.W.Write.contents c.args.out.now in
    let has = g.W.Write.contents c.run_input.new.out in
    let said = g.F.Write.contents c.report.new.faults in
    rw c.report.ensures.status
    (record {
      statuses = status_among stop;
      judged = at_0_or_5 stop c.in-Err.ensures.refused;
      silent = c.in-Err.ensures.silent;
      printed = λ at. absurd (never_0 stop at);
      stopped = ended_at_3 (Unit {0}) (IsRunOf _ c.args.hex) known stop old has c.in-Err.ensures.ends;
      refused = ended_at_5 (Unit {0}) (IsRunOf _ c.args.hex) known stop old has c.in-Err.ensures.ends;
      fault =
          ended_at_1 (Unit {0}) (IsRunOf _ c.args.hex) name known stop old has (g.F.Write.contents c.args.faults.now)
          said c.in-Err.ensures.ends c.report.ensures.said;
      no_memory = said_at_3 name stop (g.F.Write.contents c.args.faults.now) said c.report.ensures.said;
      no_fault = at_0_or_5 stop c.report.ensures.silent;
    })
