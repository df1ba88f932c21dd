use Rattle.std.proofs.Common.{◌++◌, ap, ◌∙◌}
use Rattle.fw_check.specs.Summary.{exchanges_of, heading, rows_to, text_of_code}
use Rattle.fw_check.proofs.Parts.{after_two, two_parts}
use Rattle.fw_check.proofs.rows.put_table.Goals as goal

pub returns : goal.returns
returns g c =
    let old = c.args.text.now.items in
    let e = exchanges_of c.args.exchanges.now in
    let form = c.args.form in
    let first = c.in_ok-put.ensures ∙ ap (λ h. old ++ h) c.heading.ensures in
    let both = after_two old c.put.new.text.items c.put_named_rows.new.text.items (heading form) (rows_to form e 53) first
    c.in_ok-put_named_rows.ensures in
    two_parts c.put_row_of.result old c.put_named_rows.new.text.items c.put_row_of.new.text.items
    (heading form ++ rows_to form e 53) (text_of_code form e 0) both c.put_row_of.ensures
