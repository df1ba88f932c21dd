use Rattle.std.proofs.Common.{◌++◌, codes}
use Rattle.fw_check.specs.Tallies.{counted}
use Rattle.fw_check.proofs.Parts.{after_two, two_parts}
use Rattle.fw_check.proofs.counts.Counts.put_parties.Goals as goal

pub returns : goal.returns
returns g c =
    let old = c.args.text.now.items in
    let kernel = counted (codes "faults: kernel") c.args.self.kernel in
    let server = counted (codes " server") c.args.self.server in
    let both = after_two old c.put_counted.new.text.items c.put_counted-2.new.text.items kernel server
    c.in_ok-put_counted.ensures c.in_ok-put_counted-2.ensures in
    two_parts c.put_counted-3.result old c.put_counted-2.new.text.items c.put_counted-3.new.text.items (kernel ++ server)
    (counted (codes " device") c.args.self.device) both c.put_counted-3.ensures
