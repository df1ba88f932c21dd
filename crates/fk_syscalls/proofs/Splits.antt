-- Words of bytes: `split` gives the word before the first slash, and then the words behind that slash.
use Rattle.std.proofs.Common.{◌≡◌, ℕ, suc, ◌+◌, ◌<◌, ◌-◌, Bool, true, false, List, [], ◌∷◌, ◌++◌, Some, None, take, drop, length, get_or, nat_eq, refl, ap, sym, ◌∙◌, append_assoc, one-add, add-one, drop-cons, arith}
use Rattle.std.proofs.lemmas.Bool.{eqb-true}
use Rattle.std.proofs.lemmas.List.{append-nil, drop_all, take_all, take_rest, drop-drop}
use Rattle.std.proofs.lemmas.List.Quantifiers.{position-Some}
use Rattle.std.specs.List.{position, position_or_len}
use Rattle.fuse_spec.specs.Calls.Paths.{Name, split}
use Rattle.fk_syscalls.proofs.Positions.{place_is, no_place_is}

abbrev is_slash : ℕ → Bool
is_slash b = nat_eq b 47

-- how many bytes stand before the first slash
abbrev first_len : List ℕ → ℕ
first_len bytes = position_or_len is_slash bytes

-- the words behind the first one, of what is left from the first slash on
abbrev words_behind : List ℕ → List Name
words_behind [] = []
words_behind (slash ∷ bytes) = split [] bytes

split_on : (word : Name) (bytes : List ℕ) → split word bytes
    ≡ (word ++ take (first_len bytes) bytes) ∷ words_behind (drop (first_len bytes) bytes)
split_on word [] = rw append-nil refl
split_on word (b ∷ bytes) =
    elim (nat_eq b 47) as (λ t. nat_eq b 47 ≡ t → split word (b ∷ bytes)
    ≡ (word ++ take (first_len (b ∷ bytes)) (b ∷ bytes)) ∷ words_behind (drop (first_len (b ∷ bytes)) (b ∷ bytes))) [
      | true ↦ λ e. rw (e, append-nil) refl
      | false ↦ λ e. rw (e, split_on (word ++ b ∷ []) bytes, one-add, append_assoc) refl
    ] refl

-- a slash stands behind n bytes, and none before it
module _ (bytes : List ℕ) (n : ℕ) (found : position is_slash bytes ≡ Some n) where
  pub slash_within : n < length bytes
  slash_within = (position-Some is_slash bytes n 0 found).0

  pub slash_there : drop n bytes ≡ 47 ∷ drop (n + 1) bytes
  slash_there =
      let within = slash_within in
      let byte = eqb-true (get_or bytes n 0) 47 (position-Some is_slash bytes n 0 found).1 in
      drop-cons bytes n 0 within ∙ ap (λ (b : ℕ). b ∷ drop (suc n) bytes) byte ∙ ap (λ (k : ℕ). 47 ∷ drop k bytes)
      (sym (add-one n))

  pub split_slash : split [] bytes ≡ take n bytes ∷ split [] (drop (n + 1) bytes)
  split_slash =
      split_on [] bytes ∙ ap (λ (k : ℕ). take k bytes ∷ words_behind (drop k bytes)) (place_is is_slash bytes n found)
      ∙ ap (λ (bs : List ℕ). take n bytes ∷ words_behind bs) slash_there

-- without a slash there is one word
pub split_none : (bytes : List ℕ) → position is_slash bytes ≡ None → split [] bytes ≡ bytes ∷ []
split_none bytes none =
    let end : first_len bytes ≡ length bytes = no_place_is is_slash bytes none in
    split_on [] bytes ∙ ap (λ (k : ℕ). take k bytes ∷ words_behind (drop k bytes)) end
    ∙ ap (λ (bs : List ℕ). bs ∷ words_behind (drop (length bytes) bytes)) (take_all (length bytes) bytes (omega arith))
    ∙ ap (λ (bs : List ℕ). bytes ∷ words_behind bs) (drop_all (length bytes) bytes (omega arith))

-- The word at a place, as a slice from that place on has it.
module _ (words : List ℕ) (place : ℕ) where
  abbrev rest : List ℕ
  rest = take (length words - place) (drop place words)

  module _ (n : ℕ) (found : position is_slash rest ≡ Some n) where
    first : position is_slash (drop place words) ≡ Some n
    first = rw take_rest at found

    pub word_there : split [] (drop place words) ≡ take n rest ∷ split [] (drop (place + n + 1) words)
    word_there =
        let sum : place + (n + 1) ≡ place + n + 1 = omega arith in
        split_slash (drop place words) n first ∙ ap (λ (bs : List ℕ). take n bs ∷ split []
        (drop (n + 1) (drop place words))) (sym (take_rest words place))
        ∙ ap (λ (bs : List ℕ). take n rest ∷ split [] bs) (drop-drop (n + 1) place words) ∙ ap
        (λ (k : ℕ). take n rest ∷ split [] (drop k words)) sum

    pub slash_before : drop (place + n + 1 - 1) words ≡ 47 ∷ drop (place + n + 1) words
    slash_before =
        let before : place + n + 1 - 1 ≡ place + n = omega arith in
        let sum : place + (n + 1) ≡ place + n + 1 = omega arith in
        ap (λ (k : ℕ). drop k words) before ∙ sym (drop-drop n place words) ∙ slash_there (drop place words) n first
        ∙ ap (λ (bs : List ℕ). 47 ∷ bs) (drop-drop (n + 1) place words) ∙ ap (λ (k : ℕ). 47 ∷ drop k words) sum

  pub last_there : position is_slash rest ≡ None → split [] (drop place words) ≡ rest ∷ []
  last_there none = rw take_rest (split_none (drop place words) (rw take_rest at none))
