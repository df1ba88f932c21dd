use Rattle.std.proofs.Common.{arith, refl}
use Rattle.fuse_text.specs.Stops.{status_of}
use Rattle.fuse_text.proofs.Statuses.{status_of_check}
use Rattle.fw_check.specs.Endings.{PrintsChecked}
use Rattle.fw_check.specs.Running.{AllPrinted, StopsIn}
use Rattle.fw_check.proofs.CheckLaws.{map_some}
use Rattle.fw_check.proofs.ReportLaws.{ends_well, ends_with_faults, stops}
use Rattle.fw_check.proofs.check.check_with.Goals as goal

pub returns-then-has_no_finding : goal.returns-then-has_no_finding
returns-then-has_no_finding g c kept =
    let name = c.args.name.now in
    let had = g.W.Write.contents c.args.out.now in
    let has = g.W.Write.contents c.check_all.new.out in
    let faults = g.F.Write.contents c.args.faults.now in
    let counts = c.check_all.new.checker.counts in
    record {
      statuses = (0, omega arith, refl);
      prints = map_some (λ capture. AllPrinted c.args.options capture counts had has)
          (λ capture. PrintsChecked c.args.options name capture had has faults faults 0)
          (g.R.Read.remaining c.args.input.now)
          (λ capture all. ends_well c.args.options name capture counts had has faults faults all (c.if-has_no_finding.ensures.0 refl))
          (c.in-Ok.ensures kept);
    }

pub returns-else-has_no_finding : goal.returns-else-has_no_finding
returns-else-has_no_finding g c kept =
    let name = c.args.name.now in
    let had = g.W.Write.contents c.args.out.now in
    let has = g.W.Write.contents c.check_all.new.out in
    let faults = g.F.Write.contents c.args.faults.now in
    let counts = c.check_all.new.checker.counts in
    record {
      statuses = (4, omega arith, refl);
      prints = map_some (λ capture. AllPrinted c.args.options capture counts had has)
          (λ capture. PrintsChecked c.args.options name capture had has faults faults 6)
          (g.R.Read.remaining c.args.input.now)
          (λ capture all. ends_with_faults c.args.options name capture counts had has faults faults all
          (λ none. let yes = c.if-has_no_finding.ensures.1 none in cc))
          (c.in-Ok.ensures kept);
    }

pub returns-in-Err : goal.returns-in-Err
returns-in-Err g c kept =
    let name = c.args.name.now in
    let had = g.W.Write.contents c.args.out.now in
    let has = g.W.Write.contents c.check_all.new.out in
    let faults = g.F.Write.contents c.args.faults.now in
    let said = g.F.Write.contents c.report.new.faults in
    let stop = c.in-Err.stop in
    rw c.report.ensures.status record {
      statuses = status_of_check stop;
      prints = map_some (λ capture. StopsIn c.args.options capture stop had has)
          (λ capture. PrintsChecked c.args.options name capture had has faults said (status_of stop))
          (g.R.Read.remaining c.args.input.now)
          (λ capture at. stops c.args.options stop name capture had has faults said at c.report.ensures.said)
          (c.in-Err.ensures kept);
    }
