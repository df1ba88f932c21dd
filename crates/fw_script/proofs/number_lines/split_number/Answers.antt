use Rattle.std.proofs.Common.{◌+◌, arith, refl, below_more, ap, ◌∙◌, ◌∷◌, List, ℕ, sym}
use Rattle.std.specs.Prelude.{decimal}
use Rattle.fuse_text.specs.Lines.{lines_of}
use Rattle.std.proofs.lemmas.List.{take_rest}
use Rattle.fuse_text.proofs.Decimals.{one_more_digit}
use Rattle.fw_script.proofs.NumberEnds.{number_ends_line}
use Rattle.fw_script.proofs.number_lines.split_number.Goals as goal
use Rattle.fw_script.proofs.number_lines.split_number.Goals.{else-place-ne1-via-then-place-ne1+else-text-eq48, else-place-ne1-via-else-place-ne1}

pub digits-init : goal.digits-init
digits-init c = record {
  fits = omega arith;
  value = refl;
  digits = λ k below. absurd (omega arith);
}

pub digits-preserved : goal.digits-preserved
digits-preserved c =
    let more = one_more_digit c.args.text.now c.digits.place c.digits-test.true (omega arith, omega arith) in
    record {
      fits = omega (arith, c.in_ok-number.ensures);
      value = omega (
        arith,
        more,
        c.digits.invariant.value,
        c.in_ok-checked_mul.ensures,
        c.in_ok-number.ensures,
        c.from-digit.ensures,
      );
      digits = below_more _ _ c.digits.invariant.digits (omega arith, omega arith);
    }

pub returns-then-byte-lt48 : goal.returns-then-byte-lt48
returns-then-byte-lt48 c =
    let text = c.args.text.now in
    let place = c.digits.place in
    number_ends_line text place c.digits.number c.digits-test.true c.if-byte-ne10.false c.digits.invariant
    c.if-place-eq0.false (λ leading.
    elim c.else-place-ne1.branch [
      | else-place-ne1-via-then-place-ne1+else-text-eq48 w ↦ w.if-text-eq48.false leading.0
      | else-place-ne1-via-else-place-ne1 w ↦ omega (arith, w.if-place-ne1.false, leading.1)
    ])
    ∙ ap (λ (rest : List ℕ). decimal c.digits.number ∷ lines_of rest) (sym (take_rest text (place + 1)))
