use Rattle.std.proofs.Common.{◌∙◌, ◌∷◌, [], ℕ, List, ap, arith}
use Rattle.fuse_text.proofs.Splitting.{number_is_one_word, one_word_is_all}
use Rattle.fw_script.proofs.arguments.one_number.Goals as goal

pub returns-in-Some-read_number : goal.returns-in-Some-read_number
returns-in-Some-read_number c =
    let wrote = c.in-Some-read_number.ensures.value in
    rw c.in-Some.is
    (number_is_one_word c.in-Some-read_number.number c.in-Some.text.now (omega arith) wrote
    ∙ ap (λ (word : List ℕ). word ∷ []) wrote)

pub returns-in-Some-one_word : goal.returns-in-Some-one_word
returns-in-Some-one_word c =
    let one = c.in-Some-one_word.ensures in
    let whole = one_word_is_all c.in-Some.text.now c.in-Some-one_word.field-0.now one.1 in
    rw (c.in-Some.is, one.1) (
      (one.0, (tt, tt)),
      λ numbers.
          let read = c.read_number.ensures.each numbers.0.0 numbers.0.1 (whole ∙ numbers.0.2) in
          c.in_default-read_number.not-Some numbers.0.0 read,
    )
