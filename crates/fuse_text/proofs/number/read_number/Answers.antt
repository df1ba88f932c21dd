use Rattle.std.proofs.Common.{arith, inl, inr, refl}
use Rattle.fuse_text.proofs.Decimals.{decimal_starts_well, read_as, read_is_decimal}
use Rattle.fuse_text.proofs.number.read_number.Goals as goal

pub returns-then-has_needless_start-clause-each : goal.returns-then-has_needless_start-clause-each
returns-then-has_needless_start-clause-each c n small e =
    let well = decimal_starts_well n c.args.word.now small e in
    absurd
    (elim (c.if-has_needless_start.ensures.0 refl) [
      | inl none ↦ omega (arith, none, well.0)
      | inr zero ↦ let one = well.1 zero.0 in omega (arith, one, zero.1)
    ])

pub returns-clause-value : goal.returns-clause-value
returns-clause-value c =
    read_is_decimal c.args.word.now c.value_of_digits.result c.value_of_digits.ensures.fits c.value_of_digits.ensures.value
    (λ none. let lax = c.if-has_needless_start.ensures.1 (inl none) in cc)
    (λ zero. let lax = c.if-has_needless_start.ensures.1 (inr zero) in cc)

pub returns-clause-each : goal.returns-clause-each
returns-clause-each c n small e =
    read_as n c.args.word.now c.value_of_digits.result small e c.value_of_digits.ensures.none c.value_of_digits.ensures.value
