-- The words of a path without a fault.
use Rattle.std.proofs.Common.{◌≡◌, ◌≢◌, ℕ, ◌+◌, ◌≤◌, ◌-◌, Bool, true, false, cond, ◌||◌, List, [], ◌∷◌, ◌++◌, Option, Some, None, length, take, drop, nat_eq, nat_lt, refl, sym, subst, ◌∙◌, inl, inr, arith}
use Rattle.std.specs.Prelude.{nat_le, All}
use Rattle.std.specs.List.{list_any}
use Rattle.std.proofs.lemmas.Bool.Decides.{eqb_tells}
use Rattle.std.proofs.lemmas.List.{take_rest}
use Rattle.std.proofs.lemmas.List.Elements.{All-nil, All-cons, All-head, All-tail, All-push}
use Rattle.fuse_spec.specs.Calls.Paths.{Name, is_dots, split, word_fault, first_fault}
use Rattle.fk_syscalls.specs.Words.{words_from, IsPlace, IsWord, AreWords}

abbrev HasNoSlash : Name → Type 0
HasNoSlash word = All (λ b. b ≢ 47) word

no_slashes : (word : Name) (bytes : List ℕ) → HasNoSlash word → All HasNoSlash (split word bytes)
no_slashes word [] parts = All-cons HasNoSlash word [] parts (All-nil HasNoSlash)
no_slashes word (b ∷ bytes) parts =
    elim (eqb_tells b 47) [
      | inl h ↦ subst (λ (t : Bool). All HasNoSlash (cond t (word ∷ split [] bytes) (split (word ++ b ∷ []) bytes)))
          (sym h.0)
          (All-cons HasNoSlash word (split [] bytes) parts (no_slashes [] bytes (All-nil (λ b. b ≢ 47))))
      | inr h ↦ subst (λ (t : Bool). All HasNoSlash (cond t (word ∷ split [] bytes) (split (word ++ b ∷ []) bytes)))
          (sym h.0)
          (no_slashes (word ++ b ∷ []) bytes (All-push (λ b. b ≢ 47) word b parts h.1))
    ]

-- The fault of a word but for its place.
abbrev fault_in : Name → Option ℕ
fault_in word = cond (is_dots word || list_any (λ b. nat_eq b 0) word) (Some 22)
    (cond (nat_lt 255 (length word)) (Some 36) None)

any_place : (placed : Bool) (word : Name) → cond placed (Some 36) (fault_in word) ≡ None → fault_in word ≡ None
any_place true word none =
    let no : ◌≡◌ {A = Option ℕ} (Some 36) None = none in
    cc
any_place false word none = none

each_word : (place : ℕ) (words : List Name) → All HasNoSlash words → first_fault place words ≡ None → All IsWord words
each_word place [] parts none = All-nil IsWord
each_word place (word ∷ words) parts none = by (each_word (place + 1) words (All-tail HasNoSlash word words parts))
    (word_fault place word) refl
  where
    by : (first_fault (place + 1) words ≡ None → All IsWord words) → (o : Option ℕ) → word_fault place word ≡ o
        → All IsWord (word ∷ words)
    by rest None e =
        let step : first_fault place (word ∷ words) ≡ first_fault (place + 1) words = rw (e, first_fault) refl in
        All-cons IsWord word words (record {
          no_slash = All-head HasNoSlash word words parts;
          no_fault = any_place (nat_le 32 place) word e;
        }) (rest (sym step ∙ none))
    by rest (Some errno) e =
        let step : first_fault place (word ∷ words) ≡ Some errno = rw (e, first_fault) refl in
        let no : Some errno ≡ None = sym step ∙ none in
        cc

-- Where no word has a fault, all are words.
pub words_are : (bytes : List ℕ) (first : ℕ) → first ≤ length bytes
    → None ≡ first_fault 0 (words_from bytes (Some first)) → AreWords bytes (Some first)
words_are bytes first within none = record {
  place = within;
  words = each_word 0 (split [] (drop first bytes)) (no_slashes [] (drop first bytes) (All-nil (λ b. b ≢ 47)))
      (sym none);
}

-- The first of them, and those behind it.
module _ (bytes : List ℕ) (place : ℕ) (word : Name) (next : Option ℕ) (left : AreWords bytes (Some place))
    (parts : words_from bytes (Some place) ≡ word ∷ words_from bytes next) where
  all : All IsWord (word ∷ words_from bytes next)
  all = rw parts at left.words

  pub first_is_word : IsWord word
  first_is_word = All-head IsWord word (words_from bytes next) all

  pub behind_are_words : IsPlace bytes next → AreWords bytes next
  behind_are_words within = record { place = within; words = All-tail IsWord word (words_from bytes next) all }

-- What is left, for itself.
pub copied_are_words : (bytes : List ℕ) (place : ℕ) → AreWords bytes (Some place)
    → AreWords (take (length bytes - place) (drop place bytes)) (Some 0)
copied_are_words bytes place left = rw take_rest (record { place = omega arith; words = left.words })
