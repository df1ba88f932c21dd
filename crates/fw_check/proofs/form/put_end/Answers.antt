use Rattle.std.proofs.Common.{◌≡◌, ◌++◌, Bool, List, ℕ, [], append-nil, ap, sym, ◌∙◌}
use Rattle.std.specs.Prelude.{if◌then◌else◌}
use Rattle.fw_check.specs.Forms.{counts_text}
use Rattle.fw_check.specs.Summary.{exchanges_of, table_text}
use Rattle.fw_check.proofs.Parts.{two_parts}
use Rattle.fw_check.proofs.form.put_end.Goals.{then-options+in_ok-put_table, else-options}
use Rattle.fw_check.proofs.form.put_end.Goals as goal

pub returns : goal.returns
returns g c =
    let old = c.args.text.now.items in
    let o = c.args.options in
    let table = table_text o.form (exchanges_of c.args.exchanges.now) in
    let part : Bool → List ℕ = λ b. if b then table else [] in
    let before : c.if-options.text.items ≡ old ++ part o.is_summary = elim c.if-options.branch [
      | then-options+in_ok-put_table w ↦ ap (λ t. t.items) w.text-is ∙ w.in_ok-put_table.ensures
          ∙ ap (λ b. old ++ part b) (sym w.if-options.true)
      | else-options w ↦ ap (λ t. t.items) w.text-is ∙ sym (append-nil old) ∙ ap (λ b. old ++ part b) (sym w.if-options.false)
    ] in
    two_parts c.put_counts.result old c.if-options.text.items c.put_counts.new.text.items (part o.is_summary)
    (counts_text o.form c.args.remains c.args.counts) before c.put_counts.ensures
