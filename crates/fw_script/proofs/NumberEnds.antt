-- The number with which the first line of a text ends.
use Rattle.std.proofs.Common.{◌≡◌, ◌==◌, false, refl, ◌+◌, ◌++◌, ◌∷◌, ◌<◌, ◌≤◌, ◌^◌, [], ℕ, List, Some, get_or, take, drop, length, ap, sym, arith, append_assoc, ◌∙◌}
use Rattle.std.specs.Prelude.{◌≢◌, All, decimal}
use Rattle.std.specs.Str.Parse.{AllDigits, digits_value}
use Rattle.std.proofs.lemmas.List.{get_or-take, get_or_default, take-append-drop, take_more, length-take-le}
use Rattle.std.proofs.lemmas.List.Splits.{slice_split_at}
use Rattle.std.proofs.lemmas.Bool.{eqb-true, false_from_ne_true}
use Rattle.fuse_text.proofs.Decimals.{digit_at_each, digits_from_each, read_is_decimal}
use Rattle.fuse_text.specs.Lines.{lines_of}

-- digits before a byte
pub record AreDigits (text : List ℕ) (place number : ℕ) : Type 0 where
  pub fits : number < 2 ^ 64
  pub value : number ≡ digits_value 10 (take place text)
  pub digits : (k : ℕ) → k < place → (48 ≤ get_or text k 0) × (get_or text k 0 ≤ 57)

split_at_byte : (text : List ℕ) (place byte : ℕ) → place < length text → get_or text place 0 ≡ byte
    → text ≡ take place text ++ byte ∷ drop (place + 1) text
split_at_byte text place byte within is =
    let more = take_more text place 0 within in
    sym (take-append-drop (place + 1) text)
    ∙ ap (λ (front : List ℕ). front ++ drop (place + 1) text) more
    ∙ append_assoc (take place text) (get_or text place 0 ∷ []) (drop (place + 1) text)
    ∙ ap (λ (b : ℕ). take place text ++ b ∷ drop (place + 1) text) is

-- no line feed is among digits
none_ends_line : (word : List ℕ) → AllDigits 10 word → All (λ byte. (byte == 10) ≡ false) word
none_ends_line word digits k d below =
    let same = get_or_default word k d 0 below in
    let digit = digit_at_each word digits k below in
    false_from_ne_true (get_or word k d == 10) (λ feed. let at = eqb-true (get_or word k d) 10 feed in absurd (omega (arith, same, digit, at)))

-- digits before a line feed, of which the first is no zero before others, are a line with a number
pub number_ends_line : (text : List ℕ) (place number : ℕ) → place < length text → get_or text place 0 ≡ 10
    → AreDigits text place number → place ≢ 0 → ¬ ((get_or text 0 0 ≡ 48) × (1 < place))
    → lines_of text ≡ decimal number ∷ lines_of (drop (place + 1) text)
number_ends_line text place number within is read some leading =
    let word = take place text in
    let behind = drop (place + 1) text in
    let size : length word ≡ place = length-take-le place text (omega (arith, within)) in
    let first : get_or word 0 0 ≡ get_or text 0 0 = get_or-take place text 0 0 (omega (arith, some)) in
    let digits = digits_from_each word (λ k below.
    let before : k < place = omega (arith, size, below) in rw (get_or-take place text k 0 before) (read.digits k before)) in
    let written : word ≡ decimal number = read_is_decimal word (Some number) read.fits (digits, read.value)
    (λ none. some (sym size ∙ none)) (λ zero. leading (sym first ∙ zero.0, omega (arith, size, zero.1))) in
    ap lines_of (split_at_byte text place 10 within is)
    ∙ slice_split_at (λ byte. byte == 10) word 10 behind (none_ends_line word digits) refl
    ∙ ap (λ (w : List ℕ). w ∷ lines_of behind) written
