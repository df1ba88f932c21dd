-- The texts of flags and numbers, as they are parsed.
use Rattle.std.proofs.Common.{◌≡◌, ◌<◌, ◌&&◌, ◌^◌, ap, ℕ, Bool, true, false, List, [], ◌∷◌, length, refl, sym, lt-ltb, ltb-true, true≢false, nat_lt}
use Rattle.std.specs.Prelude.{Option, Some, None, Result, Ok, Err, unwrap_or, codes}
use Rattle.std.specs.Option.{option_map_or}
use Rattle.std.specs.List.{list_all}
use Rattle.std.specs.Char.{digit_value}
use Rattle.std.specs.Str.{bytes_eq}
use Rattle.std.specs.Str.Parse.{AllDigits, IsNumeral, ParsesBool, ParsesUnsigned, digits_value, without_leading_plus}
use Rattle.std.proofs.lemmas.Slice.Eq.{bytes_eq-Decides}
use Rattle.clap.specs.ValueTests.{is_numeral}
use Rattle.clap.specs.Words.{ReadsOne, Text}
use Rattle.fw_tasks.specs.Values.{number_or}

digits_pass : (ds : List ℕ) → AllDigits 10 ds → list_all (λ d. nat_lt (digit_value d) 10) ds ≡ true
digits_pass [] h = refl
digits_pass (d ∷ ds) h = rw (lt-ltb (digit_value d) 10 h.0) (digits_pass ds h.1)

pub both : (a b : Bool) → (a && b) ≡ true → (a ≡ true) × (b ≡ true)
both true b e = (refl, e)
both false b e = absurd (true≢false (sym e))

digits_from : (ds : List ℕ) → list_all (λ d. nat_lt (digit_value d) 10) ds ≡ true → AllDigits 10 ds
digits_from [] e = tt
digits_from (d ∷ ds) e =
    let parts = both _ _ e in
    (ltb-true _ _ parts.0, digits_from ds parts.1)

abbrev is_number : Text → Bool
is_number ds = is_numeral ds && nat_lt (digits_value 10 ds) (2 ^ 64)

-- a text that is a number of 64 bits
is_its_value : (other n : ℕ) (text : Text) → IsNumeral 10 (without_leading_plus text) × (digits_value 10 (without_leading_plus text) < 2 ^ 64)
    → n ≡ digits_value 10 (without_leading_plus text) → n ≡ number_or other text
is_its_value other n text h is =
    let ds = without_leading_plus text in
    rw (lt-ltb 0 (length ds) h.0.0, digits_pass ds h.0.1, lt-ltb (digits_value 10 ds) (2 ^ 64) h.1) is

-- one that is none
is_the_other : (other : ℕ) (text : Text)
    → ¬ (IsNumeral 10 (without_leading_plus text) × (digits_value 10 (without_leading_plus text) < 2 ^ 64))
    → other ≡ number_or other text
is_the_other other text h = go (is_number (without_leading_plus text)) refl
  where
    go : (b : Bool) → is_number (without_leading_plus text) ≡ b → other ≡ number_or other text
    go false t = rw t refl
    go true t =
        let outer = both _ _ t in
        let inner = both _ _ outer.0 in
        absurd (h ((ltb-true _ _ inner.0, digits_from (without_leading_plus text) inner.1), ltb-true _ _ outer.1))

-- the number that is read of an option's text
pub number_read : {E : Type 0} (G : Text → Result ℕ E → Type 0) → ((u : Text) (x : Result ℕ E) → G u x → ParsesUnsigned 64 10 u x)
    → (other : ℕ) (o : Option Text) (r : Option ℕ) → (o ≡ None → r ≡ None) → ((t : Text) → o ≡ Some t → ReadsOne G t r)
    → unwrap_or r other ≡ option_map_or (number_or other) o other
number_read G parses other None r none value = ap (λ x. unwrap_or x other) (none refl)
number_read G parses other (Some t) r none value = go r (value t refl)
  where
    go : (r : Option ℕ) → ReadsOne G t r → unwrap_or r other ≡ number_or other t
    go (Some n) h =
        let p = parses t (Ok n) h in
        is_its_value other n t p.0 p.1
    go None h = is_the_other other t (parses t (Err h.0) h.1)

-- the truth that is read of a flag's text
pub flag_read : (E : Type 0) (o : Option Text) (r : Option Bool) → (o ≡ None → r ≡ None)
    → ((t : Text) → o ≡ Some t → ReadsOne {E = E} ParsesBool t r)
    → unwrap_or r false ≡ option_map_or (λ t. bytes_eq t (codes "true")) o false
flag_read E None r none value = ap (λ x. unwrap_or x false) (none refl)
flag_read E (Some t) r none value = go r (value t refl)
  where
    other : (b : Bool) → bytes_eq t (codes "true") ≡ b → ¬ (t ≡ codes "true") → false ≡ b
    other false e unlike = refl
    other true e unlike = absurd (unlike ((bytes_eq-Decides t (codes "true")).0 e))

    go : (r : Option Bool) → ReadsOne {E = E} ParsesBool t r → unwrap_or r false ≡ bytes_eq t (codes "true")
    go (Some true) h = sym ((bytes_eq-Decides t (codes "true")).1 h)
    go (Some false) h = rw h refl
    go None h = other (bytes_eq t (codes "true")) refl h.1.0
