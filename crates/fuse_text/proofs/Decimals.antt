-- What a word of digits writes.
use Rattle.std.proofs.Common.{◌≡◌, ◌<◌, ◌≤◌, ◌^◌, ◌+◌, ◌*◌, ℕ, zero, suc, List, [], ◌∷◌, length, get_or, take, Option, Some, None, arith, sym, ◌∙◌, ap}
use Rattle.std.specs.Prelude.{◌≢◌, decimal, IfNone, IfSome}
use Rattle.std.specs.Int.{IsInRange}
use Rattle.std.specs.Str.Parse.{AllDigits, digits_value}
use Rattle.std.proofs.lemmas.Int.Digits.{digits_value_more}
use Rattle.std.proofs.lemmas.Str.{digit_value_digit}
use Rattle.std.proofs.lemmas.Str.Parse.{IsNumeralModel, numerals_by_value, tells_digits, tells_by_index, digits_value-take-le}
use Rattle.std.proofs.lemmas.Fmt.{decimal-digits_value, first_decimal, decimal_digit, digits_decimal, digits_value-decimal, decimal_nonempty}

own : IsNumeralModel (AllDigits 10) (digits_value 10)
own = numerals_by_value (AllDigits 10) tells_digits

-- each byte is a digit
abbrev IsDigitAtEach : List ℕ → Type 0
IsDigitAtEach word = (i : ℕ) → i < length word → IsInRange 48 57 (get_or word i 0)

by_index : IsNumeralModel IsDigitAtEach (digits_value 10)
by_index = numerals_by_value IsDigitAtEach tells_by_index

pub digit_at_each : (word : List ℕ) → AllDigits 10 word → (i : ℕ) → i < length word
    → (48 ≤ get_or word i 0) × (get_or word i 0 ≤ 57)
digit_at_each word all = by_index.from word all

pub digits_from_each : (word : List ℕ) → ((i : ℕ) → i < length word → (48 ≤ get_or word i 0) × (get_or word i 0 ≤ 57))
    → AllDigits 10 word
digits_from_each word each = by_index.to word each

-- one digit more
pub one_more_digit : (word : List ℕ) (i : ℕ) → i < length word → (48 ≤ get_or word i 0) × (get_or word i 0 ≤ 57)
    → digits_value 10 (take (i + 1) word) + 48 ≡ digits_value 10 (take i word) * 10 + get_or word i 0
one_more_digit word i h digit =
    let more = digits_value_more 10 word i h in
    let value = digit_value_digit (get_or word i 0) digit in
    omega (arith, more, value)

-- what is past 64 bits after some digits is past them after all
pub past_at_last : (word : List ℕ) (i : ℕ) → i < length word → (48 ≤ get_or word i 0) × (get_or word i 0 ≤ 57)
    → 2 ^ 64 + 48 ≤ digits_value 10 (take i word) * 10 + get_or word i 0 → 2 ^ 64 ≤ digits_value 10 word
past_at_last word i h digit past =
    let more = one_more_digit word i h digit in
    let most = digits_value-take-le 10 word (i + 1) (omega arith) in
    omega (arith, more, most, past)

pub IfNone-always : {T : Type 0} (P : Type 0) (o : Option T) → P → IfNone o P
IfNone-always P None h = h
IfNone-always P (Some x) h = tt

at_most_one : (k : ℕ) → ¬ (1 < k) → k ≤ 1
at_most_one k h = grind arith

-- digits that begin as numbers do are what is written of their value
pub digits_are_decimal : (word : List ℕ) → AllDigits 10 word → digits_value 10 word < 2 ^ 64 → length word ≢ 0
    → ¬ ((get_or word 0 0 ≡ 48) × (1 < length word)) → word ≡ decimal (digits_value 10 word)
digits_are_decimal word digits small some leading =
    let one : 0 < length word = omega (arith, some) in
    sym (decimal-digits_value own word digits one (λ z. let one_at_most : length word ≤ 1 =
    at_most_one (length word) (λ h. leading (z, h)) in omega arith) small)

-- no number is written with a needless start
pub decimal_starts_well : (n : ℕ) (word : List ℕ) → n < 2 ^ 64 → word ≡ decimal n
    → (0 < length word) × (get_or word 0 0 ≡ 48 → length word ≤ 1)
decimal_starts_well zero word small e =
    let written : word ≡ 48 ∷ [] = e ∙ decimal_digit 0 (omega arith) in
    rw written (omega arith, λ h. omega arith)
decimal_starts_well (suc m) word small e =
    let high = first_decimal (suc m) (omega arith) small in
    let some = decimal_nonempty (suc m) small in
    rw e (some, λ h. absurd (omega (arith, high)))

-- a number is written by digits, of which it is the value
pub decimal_is_digits : (n : ℕ) (word : List ℕ) → n < 2 ^ 64 → word ≡ decimal n
    → AllDigits 10 word × (digits_value 10 word ≡ n)
decimal_is_digits n word small e = rw e (digits_decimal own n small, digits_value-decimal own n small)

-- so it is what such digits are read as
pub read_as : (n : ℕ) (word : List ℕ) (o : Option ℕ) → n < 2 ^ 64 → word ≡ decimal n
    → IfNone o (AllDigits 10 word → 2 ^ 64 ≤ digits_value 10 word)
    → IfSome o (λ m. AllDigits 10 word × (m ≡ digits_value 10 word)) → o ≡ Some n
read_as n word None small e none some = let known = decimal_is_digits n word small e in let past =
    none known.0 in absurd (omega (arith, known.1, past))
read_as n word (Some m) small e none some = let known = decimal_is_digits n word small e in ap Some (some.1 ∙ known.1)

-- and what they are read as is written so
pub read_is_decimal : (word : List ℕ) (o : Option ℕ) → IfSome o (λ n. n < 2 ^ 64)
    → IfSome o (λ n. AllDigits 10 word × (n ≡ digits_value 10 word))
    → length word ≢ 0 → ¬ ((get_or word 0 0 ≡ 48) × (1 < length word)) → IfSome o (λ n. word ≡ decimal n)
read_is_decimal word None fits h some leading = tt
read_is_decimal word (Some n) fits h some leading =
    rw h.1 (digits_are_decimal word h.0 (omega (arith, fits, h.1)) some leading)

-- and two numbers are not written alike
pub decimal_once : (n m : ℕ) → n < 2 ^ 64 → m < 2 ^ 64 → decimal n ≡ decimal m → n ≡ m
decimal_once n m small other e =
    let first = digits_value-decimal own n small in
    let second = digits_value-decimal own m other in
    sym first ∙ ap (digits_value 10) e ∙ second
