-- The lines that a run is given, beside those that its script is judged by.
use Rattle.std.proofs.Common.{◌≡◌, ◌++◌, ◌∷◌, [], ◌∙◌, ℕ, Bool, true, false, cond, List, map, Option, Some, None, ap, sym, refl, subst, inl, inr, append-nil}
use Rattle.std.specs.Prelude.{bytes_eq, codes, decimal, fold, option_map, option_to_list}
use Rattle.std.specs.Option.{option_map_or}
use Rattle.std.proofs.lemmas.List.{map-append}
use Rattle.fuse_text.specs.Lines.{lines_of}
use Rattle.fuse_text.specs.Words.{words_of}
use Rattle.fw_call_names.specs.Naming.{Named, Names, call_begun, call_numbered, first_numbered, given_line, given_words, is_of_open, name_in, names_bound, newer, next_line, no_line, number_made, number_of, rest_numbered, with_numbers, without_name}
use Rattle.fw_call_names.specs.PlainScripts.{AreAlike, BeginAlike, IsAlike, names_behind, plain_lines, plain_script}
use Rattle.fw_call_names.proofs.Givens.{words_of_given}

-- ---- the same names, with other numbers

abbrev name_alone : List ℕ × ℕ → List ℕ
name_alone call = call.0

abbrev names_alone : Names → List (List ℕ)
names_alone names = map name_alone names

-- both are there, or neither
abbrev SameKnown : Option ℕ → Option ℕ → Type 0
SameKnown None None = Unit {0}
SameKnown (Some m) (Some n) = Unit {0}
SameKnown one other = ⊥

either_known : (test : Bool) (m n : ℕ) (one other : Option ℕ) → SameKnown one other
    → SameKnown (cond test (Some m) one) (cond test (Some n) other)
either_known true m n one other same = tt
either_known false m n one other same = same

known_alike : (word : List ℕ) (names others : Names) (one other : Option ℕ) → names_alone names ≡ names_alone others
    → SameKnown one other → SameKnown (fold (newer word) one names) (fold (newer word) other others)
known_alike word [] [] one other is same = same
known_alike word [] (call ∷ others) one other is same = absurd (cc is)
known_alike word (call ∷ names) [] one other is same = absurd (cc is)
known_alike word (call ∷ names) (also ∷ others) one other is same =
    let first : call.0 ≡ also.0 = cc is in
    let rest : names_alone names ≡ names_alone others = cc is in
    known_alike word names others (newer word one call) (newer word other also) rest
    (subst (λ (name : List ℕ). SameKnown (newer word one call) (cond (bytes_eq name word) (Some also.1) other)) first
    (either_known (bytes_eq call.0 word) call.1 also.1 one other same))

-- ---- the same words, but for numbers

number_alike : (word : List ℕ) (one other : Option ℕ) → SameKnown one other
    → IsAlike (option_map_or decimal one word) (option_map_or decimal other word)
number_alike word None None same = inl refl
number_alike word None (Some n) same = absurd same
number_alike word (Some m) None same = absurd same
number_alike word (Some m) (Some n) same = inr (m, n, refl, refl)

same_alike : (words : List (List ℕ)) → AreAlike words words
same_alike [] = tt
same_alike (word ∷ words) = (inl refl, same_alike words)

either_alike : (test : Bool) (a b c d : List (List ℕ)) → AreAlike a c → AreAlike b d
    → AreAlike (cond test a b) (cond test c d)
either_alike true a b c d one other = one
either_alike false a b c d one other = other

module _ (names others : Names) (is : names_alone names ≡ names_alone others) where
  first_alike : (words : List (List ℕ)) → AreAlike (first_numbered names words) (first_numbered others words)
  first_alike [] = tt
  first_alike (word ∷ words) = (
    number_alike word (number_of names word) (number_of others word) (known_alike word names others None None is tt),
    same_alike words,
  )

  call_alike : (words : List (List ℕ)) → AreAlike (call_numbered names words) (call_numbered others words)
  call_alike [] = tt
  call_alike (word ∷ words) = (
    inl refl,
    either_alike (is_of_open word) (first_numbered names words) words (first_numbered others words) words
        (first_alike words) (same_alike words),
  )

  rest_alike : (first : List ℕ) (words : List (List ℕ))
      → AreAlike (rest_numbered names first words) (rest_numbered others first words)
  rest_alike first words =
      either_alike (bytes_eq first (codes "intr")) (first_numbered names words)
      (cond (bytes_eq first (codes "call")) (call_numbered names words) words) (first_numbered others words)
      (cond (bytes_eq first (codes "call")) (call_numbered others words) words) (first_alike words)
      (either_alike (bytes_eq first (codes "call")) (call_numbered names words) words (call_numbered others words) words
      (call_alike words) (same_alike words))

  numbers_alike : (words : List (List ℕ)) → AreAlike (with_numbers names words) (with_numbers others words)
  numbers_alike [] = tt
  numbers_alike (first ∷ words) = (inl refl, rest_alike first words)

  given_alike : (raw stands : List ℕ) → words_of stands ≡ given_words others (words_of raw)
      → AreAlike (words_of (given_line names raw)) (words_of stands)
  given_alike raw stands stands_are =
      subst (λ (words : List (List ℕ)). AreAlike words (words_of stands)) (sym (words_of_given names raw))
      (subst (λ (words : List (List ℕ)). AreAlike (given_words names (words_of raw)) words) (sym stands_are)
      (numbers_alike (without_name (words_of raw))))

-- ---- line for line

-- all lines of both
abbrev AllAlike : (lines given : List (List ℕ)) → Type 0
AllAlike [] [] = Unit {0}
AllAlike (line ∷ lines) (other ∷ given) = AreAlike (words_of line) (words_of other) × AllAlike lines given
AllAlike lines given = ⊥

one_more : (lines given : List (List ℕ)) (line other : List ℕ) → AllAlike lines given
    → AreAlike (words_of line) (words_of other) → AllAlike (lines ++ line ∷ []) (given ++ other ∷ [])
one_more [] [] line other all alike = (alike, tt)
one_more [] (first ∷ given) line other all alike = absurd all
one_more (first ∷ lines) [] line other all alike = absurd all
one_more (first ∷ lines) (also ∷ given) line other all alike = (all.0, one_more lines given line other all.1 alike)

all_begin : (lines more given : List (List ℕ)) → AllAlike lines given → BeginAlike (lines ++ more) given
all_begin [] more [] all = tt
all_begin [] more (other ∷ given) all = absurd all
all_begin (line ∷ lines) more [] all = tt
all_begin (line ∷ lines) more (other ∷ given) all = (all.0, all_begin lines more given all.1)

abbrev names_after : Names → (lines : List (List ℕ)) → Names
names_after names [] = names
names_after names (line ∷ lines) = names_after (names_behind names line) lines

plain_then : (names : Names) (lines more : List (List ℕ))
    → plain_lines names (lines ++ more) ≡ plain_lines names lines ++ plain_lines (names_after names lines) more
plain_then names [] more = refl
plain_then names (line ∷ lines) more =
    ap (λ (l : List (List ℕ)). given_line names line ∷ l) (plain_then (names_behind names line) lines more)

after_then : (names : Names) (lines : List (List ℕ)) (line : List ℕ)
    → names_after names (lines ++ line ∷ []) ≡ names_behind (names_after names lines) line
after_then names [] line = refl
after_then names (first ∷ lines) line = after_then (names_behind names first) lines line

-- ---- a run

bound_alone : (names : Names) (begun : Option (List ℕ × ℕ)) (next_call : ℕ)
    → names_alone (names_bound names begun next_call) ≡ names_alone names ++ names_alone (option_to_list begun)
bound_alone names None next_call = sym (append-nil (names_alone names))
bound_alone names (Some call) next_call = map-append name_alone names ((call.0, number_made call.1 next_call) ∷ [])

begun_alone : (m n : ℕ) (name : Option (List ℕ))
    → names_alone (option_to_list (option_map (λ (word : List ℕ). (word, m)) name))
    ≡ names_alone (option_to_list (option_map (λ (word : List ℕ). (word, n)) name))
begun_alone m n None = refl
begun_alone m n (Some name) = refl

run_alike : (raw given : List (List ℕ)) (names : Names) (begun : Option (List ℕ × ℕ)) → Named [] None raw given names begun
    → AllAlike (plain_lines [] raw) given
    × (names_alone (names_after [] raw) ≡ names_alone names ++ names_alone (option_to_list begun))
run_alike _ _ _ _ no_line = (tt, refl)
run_alike _ _ _ _ (next_line raw given old before prior next_call line stands is) =
    let (all, same) = run_alike raw given old before prior in
    let plain = names_after [] raw in
    let new = names_bound old before next_call in
    let alone : names_alone plain ≡ names_alone new = same ∙ sym (bound_alone old before next_call) in (
      subst (λ (l : List (List ℕ)). AllAlike l (given ++ stands ∷ [])) (sym (plain_then [] raw (line ∷ [])))
          (one_more (plain_lines [] raw) given (given_line plain line) stands all (given_alike plain new alone line stands is)),
      ap names_alone (after_then [] raw line) ∙ map-append name_alone plain (option_to_list (call_begun 1 line))
          ∙ ap (λ (l : List (List ℕ)). l ++ names_alone (option_to_list (call_begun 1 line))) alone
          ∙ ap (λ (l : List (List ℕ)). names_alone new ++ l) (begun_alone 1 next_call (name_in (words_of line))),
    )

pub plain_alike : (script : List ℕ) (raw rest given : List (List ℕ)) (names : Names) (begun : Option (List ℕ × ℕ))
    → lines_of script ≡ raw ++ rest → Named [] None raw given names begun → BeginAlike (plain_script script) given
plain_alike script raw rest given names begun is run =
    subst (λ (l : List (List ℕ)). BeginAlike l given)
    (sym (ap (plain_lines []) is ∙ plain_then [] raw rest))
    (all_begin (plain_lines [] raw) (plain_lines (names_after [] raw) rest) given (run_alike raw given names begun run).0)
