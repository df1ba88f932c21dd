use Rattle.std.proofs.Common.{arith, below_more, ap, ◌∙◌}
use Rattle.std.specs.Str.Parse.{digits_value}
use Rattle.std.proofs.lemmas.List.{take_all}
use Rattle.fuse_text.proofs.Decimals.{digit_at_each, digits_from_each, one_more_digit, past_at_last, IfNone-always}
use Rattle.fuse_text.proofs.number.value_of_digits.Goals as goal
use Rattle.fuse_text.proofs.number.value_of_digits.Goals.{then-byte-lt48-via-then-byte-lt48, then-byte-lt48-via-else-byte-lt48+then-byte-gt57}

pub returns-then-byte-lt48-clause-none : goal.returns-then-byte-lt48-clause-none
returns-then-byte-lt48-clause-none c all =
    let digit = digit_at_each c.args.word.now all c.loop-byte.byte-index c.loop-byte-test.true in
    absurd
    (elim c.then-byte-lt48.branch [
      | then-byte-lt48-via-then-byte-lt48 w ↦ omega (arith, digit)
      | then-byte-lt48-via-else-byte-lt48+then-byte-gt57 w ↦ omega (arith, digit)
    ])

pub returns-in_err-checked_mul-clause-none : goal.returns-in_err-checked_mul-clause-none
returns-in_err-checked_mul-clause-none c =
    IfNone-always _ c.from_residual.result
    (λ all. let digit = digit_at_each c.args.word.now all c.loop-byte.byte-index c.loop-byte-test.true in
    past_at_last c.args.word.now c.loop-byte.byte-index c.loop-byte-test.true digit
    (omega (arith, digit, c.loop-byte.invariant.value, c.in_err-checked_mul.ensures)))

pub returns-in_err-number-clause-none : goal.returns-in_err-number-clause-none
returns-in_err-number-clause-none c =
    IfNone-always _ c.from_residual-in_err-number.result
    (λ all. let digit = digit_at_each c.args.word.now all c.loop-byte.byte-index c.loop-byte-test.true in
    past_at_last c.args.word.now c.loop-byte.byte-index c.loop-byte-test.true digit
    (omega (
      arith,
      digit,
      c.loop-byte.invariant.value,
      c.in_ok-checked_mul.ensures,
      c.in_err-number.ensures,
      c.from-digit.ensures,
    )))

pub loop-byte-preserved : goal.loop-byte-preserved
loop-byte-preserved c =
    let more = one_more_digit c.args.word.now c.loop-byte.byte-index c.loop-byte-test.true (omega arith, omega arith) in
    record {
      fits = omega (arith, c.in_ok-number.ensures);
      value = omega (
        arith,
        more,
        c.loop-byte.invariant.value,
        c.in_ok-checked_mul.ensures,
        c.in_ok-number.ensures,
        c.from-digit.ensures,
      );
      digits = below_more _ _ c.loop-byte.invariant.digits (omega arith, omega arith);
    }

pub returns-clause-value : goal.returns-clause-value
returns-clause-value c =
    let whole = take_all c.loop-byte.byte-index c.args.word.now c.loop-byte-test.false in (
      digits_from_each c.args.word.now (λ i below. c.loop-byte.invariant.digits i (omega arith)),
      c.loop-byte.invariant.value ∙ ap (digits_value 10) whole,
    )
