use Rattle.std.proofs.Common.{◌++◌, codes}
use Rattle.fw_check.specs.Summary.{row_keys}
use Rattle.fw_check.proofs.Parts.{after_two, two_parts}
use Rattle.fw_check.proofs.rows.put_row_object.Goals as goal

pub returns : goal.returns
returns g c =
    let old = c.args.text.now.items in
    let head = codes "{\"event\":\"opcode\"" in
    let keys = row_keys c.args.row in
    let both = after_two old c.put.new.text.items c.put_row_fields.new.text.items head keys c.in_ok-put.ensures
    c.in_ok-put_row_fields.ensures in
    two_parts c.put-2.result old c.put_row_fields.new.text.items c.put-2.new.text.items (head ++ keys) (codes "}\n") both
    c.put-2.ensures
