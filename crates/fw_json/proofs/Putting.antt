-- What is put behind a text, field by field.
use Rattle.std.proofs.Common.{◌≡◌, ◌++◌, ◌<◌, ◌≤◌, ◌==◌, ◌∙◌, ℕ, Bool, true, false, List, [], ◌∷◌, length, drop, Option, Some, None, Result, Ok, Err, arith, ap, refl, append_assoc}
use Rattle.std.specs.Prelude.{IfOk, option_map}
use Rattle.std.specs.Fmt.{option_append}
use Rattle.std.proofs.lemmas.List.{drop_all}
use Rattle.std.proofs.lemmas.List.Splits.{length-slice_split}
use Rattle.fuse_text.specs.Words.{words_left}
use Rattle.fw_json.specs.Fields.{fields, last_fields}
use Rattle.fw_json.specs.Putting.{PutsIf}
use Rattle.fw_json.specs.declared.key.Key.{Key}
use Rattle.fw_json.proofs.Finding.{drop_next}

no_last_words : (words : List (List ℕ)) → 1 ≤ length words → last_fields None words ≡ None
no_last_words [] some = absurd (omega (arith, some))
no_last_words (word ∷ words) some = refl

-- words without a key, where there is no list
pub no_last : (text : List ℕ) → last_fields None (words_left (Some text)) ≡ None
no_last text =
    let counted = length-slice_split (λ byte. byte == 32) text in
    no_last_words (words_left (Some text)) (omega (arith, counted))

-- keys without a word
pub no_word : (keys : List Key) (i : ℕ) (d : Key) (list_key : Option Key) → i < length keys
    → fields (drop i keys) list_key [] ≡ None
no_word keys i d list_key below = ap (λ (ks : List Key). fields ks list_key []) (drop_next keys i d below)

-- what was put before, and what was put last
pub puts_behind : (old mid new : List ℕ) (done : List ℕ) (given last : Option (List ℕ)) (is_put : Bool)
    → mid ≡ old ++ done → given ≡ option_append (Some done) last → PutsIf mid new last is_put → PutsIf old new given is_put
puts_behind old mid new done given last true was is puts = (
  done ++ puts.0,
  is ∙ ap (option_append (Some done)) puts.1,
  puts.2 ∙ ap (λ (l : List ℕ). l ++ puts.0) was ∙ append_assoc old done puts.0,
)
puts_behind old mid new done given last false was is puts = is ∙ ap (option_append (Some done)) puts

pub puts_behind_ok : {E : Type 0} (r : Result Bool E) (old mid new : List ℕ) (done : List ℕ) (given last : Option (List ℕ))
    → mid ≡ old ++ done → given ≡ option_append (Some done) last → IfOk r (PutsIf mid new last)
    → IfOk r (PutsIf old new given)
puts_behind_ok (Ok is_put) old mid new done given last was is puts = puts_behind old mid new done given last is_put was is puts
puts_behind_ok (Err e) old mid new done given last was is puts = tt

-- no key is left
pub no_key : (keys : List Key) (i : ℕ) (list_key : Option Key) (words : List (List ℕ)) → length keys ≤ i
    → fields (drop i keys) list_key words ≡ last_fields list_key words
no_key keys i list_key words over = ap (λ (ks : List Key). fields ks list_key words) (drop_all i keys over)

-- what is put around what was put
pub put_around : (old begun mid new before after : List ℕ) (given : Option (List ℕ)) → begun ≡ old ++ before
    → PutsIf begun mid given true → new ≡ mid ++ after
    → PutsIf old new (option_map (λ more. before ++ more ++ after) given) true
put_around old begun mid new before after given was puts ends = (
  before ++ puts.0 ++ after,
  ap (option_map (λ (more : List ℕ). before ++ more ++ after)) puts.1,
  ends ∙ ap (λ (l : List ℕ). l ++ after)
      (puts.2 ∙ ap (λ (l : List ℕ). l ++ puts.0) was ∙ append_assoc old before puts.0)
      ∙ append_assoc old (before ++ puts.0) after,
)
