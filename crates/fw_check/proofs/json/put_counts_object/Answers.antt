use Rattle.std.proofs.Common.{◌++◌, codes}
use Rattle.fw_check.specs.Json.{counts_fields}
use Rattle.fw_check.proofs.Parts.{after_two, two_parts}
use Rattle.fw_check.proofs.json.put_counts_object.Goals as goal

pub returns : goal.returns
returns g c =
    let old = c.args.text.now.items in
    let head = codes "{\"event\":\"counts\"" in
    let fields = counts_fields c.args.remains c.args.counts in
    let both = after_two old c.put.new.text.items c.put_counts.new.text.items head fields c.in_ok-put.ensures
    c.in_ok-put_counts.ensures in
    two_parts c.put-2.result old c.put_counts.new.text.items c.put-2.new.text.items (head ++ fields) (codes "}\n") both
    c.put-2.ensures
