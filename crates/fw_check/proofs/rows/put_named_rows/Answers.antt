use Rattle.std.proofs.Common.{◌≡◌, ◌+◌, ◌++◌, ℕ, List, add-one, ap, arith, refl, sym, ◌∙◌}
use Rattle.fw_check.specs.declared.options.CheckForm.{CheckForm}
use Rattle.fw_check.specs.Summary.{ExchangeState, exchanges_of, rows_to, text_of_code}
use Rattle.fw_check.proofs.Parts.{after_two}
use Rattle.fw_check.proofs.rows.put_named_rows.Goals as goal

next_row : (form : CheckForm) (e : ExchangeState) (n : ℕ) → rows_to form e (n + 1) ≡ rows_to form e n ++ text_of_code form e (n + 1)
next_row form e n = rw add-one refl

pub loop-before-preserved : goal.loop-before-preserved
loop-before-preserved g c =
    let e = exchanges_of c.args.exchanges.now in
    after_two c.args.text.now.items c.loop-before.text.items c.put_row_of.new.text.items
    (rows_to c.args.form e c.loop-before.before) _ c.loop-before.invariant c.in_ok-put_row_of.ensures
    ∙ ap (λ (l : List ℕ). c.args.text.now.items ++ l) (sym (next_row c.args.form e c.loop-before.before))

pub returns : goal.returns
returns g c =
    let all : c.loop-before.before ≡ 53 = omega arith in
    c.loop-before.invariant
    ∙ ap (λ n. c.args.text.now.items ++ rows_to c.args.form (exchanges_of c.args.exchanges.now) n) all
