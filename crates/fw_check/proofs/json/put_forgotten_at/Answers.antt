use Rattle.std.proofs.Common.{codes}
use Rattle.fw_check.specs.Json.{number_field}
use Rattle.fw_check.proofs.Parts.{two_parts}
use Rattle.fw_check.proofs.json.put_forgotten_at.Goals as goal

pub returns : goal.returns
returns g c = two_parts c.put_field-2.result c.args.text.now.items c.put_field.new.text.items c.put_field-2.new.text.items
    (number_field (codes "forgotten_line") c.args.line) (number_field (codes "forgotten_count") c.args.count)
    c.in_ok-put_field.ensures c.put_field-2.ensures
