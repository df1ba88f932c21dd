use Rattle.std.proofs.Common.{◌++◌, ap, codes, ◌∙◌}
use Rattle.fw_check.specs.Json.{text_field}
use Rattle.fw_check.specs.Summary.{counts_keys, name_of_code, times_keys}
use Rattle.fw_check.proofs.Parts.{after_two, two_parts}
use Rattle.fw_check.proofs.rows.put_row_fields.Goals as goal

pub returns : goal.returns
returns g c =
    let old = c.args.text.now.items in
    let row = c.args.row in
    let name = text_field (codes "opcode") (name_of_code row.code) in
    let first = c.in_ok-put_text_field.ensures ∙ ap (λ n. old ++ text_field (codes "opcode") n) c.name_of_code.ensures in
    let both = after_two old c.put_text_field.new.text.items c.put_counts_fields.new.text.items name (counts_keys row.counts)
    first c.in_ok-put_counts_fields.ensures in
    two_parts c.put_times_fields.result old c.put_counts_fields.new.text.items c.put_times_fields.new.text.items
    (name ++ counts_keys row.counts) (times_keys row.times) both c.put_times_fields.ensures
