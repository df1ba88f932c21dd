use Rattle.std.proofs.Common.{◌++◌, codes}
use Rattle.fw_check.specs.Unjudged.{unjudged_fields}
use Rattle.fw_check.proofs.Parts.{after_two, two_parts}
use Rattle.fw_check.proofs.json.put_unjudged_object.Goals as goal

pub returns : goal.returns
returns g c =
    let old = c.args.text.now.items in
    let head = codes "{\"event\":\"unjudged\"" in
    let fields = unjudged_fields c.args.number c.args.why in
    let both = after_two old c.put.new.text.items c.put_unjudged_fields.new.text.items head fields c.in_ok-put.ensures
    c.in_ok-put_unjudged_fields.ensures in
    two_parts c.put-2.result old c.put_unjudged_fields.new.text.items c.put-2.new.text.items (head ++ fields) (codes "}\n") both
    c.put-2.ensures
