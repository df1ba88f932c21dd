-- The last word, and the words before it.
use Rattle.std.proofs.Common.{◌≡◌, ℕ, ◌<◌, ◌≤◌, ◌-◌, true, false, List, [], ◌∷◌, ◌++◌, Option, Some, None, take, drop, length, nat_eq, refl, ap, sym, ◌∙◌, arith}
use Rattle.std.proofs.lemmas.List.{take-append-drop, drop-append-le, length-take}
use Rattle.std.proofs.lemmas.List.Elements.{All-pop}
use Rattle.fuse_spec.specs.Calls.Paths.{Name, split, parent_and_last}
use Rattle.fk_syscalls.specs.Words.{IsWord, AreWords}

parted_last : (words : List Name) (name : Name) → parent_and_last (words ++ name ∷ []) ≡ Some (words, name)
parted_last [] name = refl
parted_last (word ∷ words) name =
    ap (λ (o : Option (List Name × Name)). elim o [
      | None ↦ Some ([], word)
      | Some parts ↦ Some
          (word ∷ parts.0, parts.1)
    ]) (parted_last words name)

split_append : (word : Name) (before behind : List ℕ)
    → split word (before ++ 47 ∷ behind) ≡ split word before ++ split [] behind
split_append word [] behind = refl
split_append word (b ∷ before) behind =
    elim (nat_eq b 47) as (λ t. nat_eq b 47 ≡ t → split word (b ∷ before ++ 47 ∷ behind) ≡ split word (b ∷ before)
    ++ split [] behind) [
      | true ↦ λ e. rw (e, split_append [] before behind) refl
      | false ↦ λ e. rw (e, split_append (word ++ b ∷ []) before behind) refl
    ] refl

-- The last word begins at a place behind a slash.
module _ (words : List ℕ) (first last : ℕ) (name : Name) (after : first < last) (within : last ≤ length words)
    (slash : drop (last - 1) words ≡ 47 ∷ drop last words) (alone : split [] (drop last words) ≡ name ∷ []) where
  abbrev before : List ℕ
  before = take (last - 1) words

  pub up_to_slash : first ≤ length before
  up_to_slash = omega (arith, length-take (last - 1) words)

  parts : split [] (drop first words) ≡ split [] (drop first before) ++ name ∷ []
  parts =
      let low = up_to_slash in
      ap (λ (bs : List ℕ). split [] (drop first bs)) (sym (take-append-drop (last - 1) words)) ∙ ap
      (λ (bs : List ℕ). split [] (drop first (before ++ bs))) slash
      ∙ ap (λ (bs : List ℕ). split [] bs) (drop-append-le first before (47 ∷ drop last words) low)
      ∙ split_append [] (drop first before) (drop last words) ∙ ap
      (λ (ws : List Name). split [] (drop first before) ++ ws) alone

  pub parted : parent_and_last (split [] (drop first words)) ≡ Some (split [] (drop first before), name)
  parted = ap parent_and_last parts ∙ parted_last (split [] (drop first before)) name

  module _ (left : AreWords words (Some first)) where
    pub before_are_words : AreWords before (Some first)
    before_are_words = record {
      place = up_to_slash;
      words = (All-pop IsWord (split [] (drop first words)) (split [] (drop first before))
          (Some name) parts left.words).0;
    }

    pub last_is_word : IsWord name
    last_is_word = (All-pop IsWord (split [] (drop first words)) (split [] (drop first before))
        (Some name) parts left.words).1
