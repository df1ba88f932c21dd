-- The lines of a text that is longer by some bytes.
use Rattle.std.proofs.Common.{◌≡◌, ◌+◌, ◌++◌, ◌<◌, ◌≤◌, ◌==◌, ◌∙◌, ℕ, Bool, true, false, cond, nat_lt, get_or, List, [], ◌∷◌, length, take, Option, Some, None, arith, sym, ap, refl, append-nil, append_assoc}
use Rattle.std.specs.Prelude.{All, MatchOption, position}
use Rattle.std.specs.List.{onto_first, position_or_len, slice_split}
use Rattle.std.proofs.lemmas.List.Splits.{length-slice_split, slice_split_at, slice_split_none}
use Rattle.std.proofs.lemmas.List.Sums.{fails_before_first, passes_at_first}
use Rattle.std.proofs.lemmas.Bool.{ltb-true, ltb-false}
use Rattle.std.proofs.lemmas.Grind.{common_steps}
use Rattle.fw_json.specs.Objects.{json_line}
use Rattle.fw_json.specs.Texts.{all_but_last, is_none, json_lines, last_of}

-- ---- a text behind another

-- the first part of what is behind goes on the last part
abbrev pub glue : (parts more : List (List ℕ)) → List (List ℕ)
glue [] more = more
glue (part ∷ []) [] = part ∷ []
glue (part ∷ []) (first ∷ more) = (part ++ first) ∷ more
glue (part ∷ next ∷ parts) more = part ∷ glue (next ∷ parts) more

some_parts : (test : ℕ → Bool) (text : List ℕ) → 1 ≤ length (slice_split test text)
some_parts test text = let counted = length-slice_split test text in omega (arith, counted)

glue_to_none : (more : List (List ℕ)) → 1 ≤ length more → more ≡ glue ([] ∷ []) more
glue_to_none [] some = absurd (omega (arith, some))
glue_to_none (first ∷ more) some = refl

glue_one : (byte : ℕ) (ends : Bool) (parts more : List (List ℕ)) → 1 ≤ length parts
    → cond ends ([] ∷ glue parts more) (onto_first byte (glue parts more))
    ≡ glue (cond ends ([] ∷ parts) (onto_first byte parts)) more
glue_one byte ends [] more some = absurd (omega (arith, some))
glue_one byte true (part ∷ parts) more some = refl
glue_one byte false (part ∷ []) [] some = refl
glue_one byte false (part ∷ []) (first ∷ more) some = refl
glue_one byte false (part ∷ next ∷ parts) more some = refl

pub split_glued : (test : ℕ → Bool) (text more : List ℕ)
    → slice_split test (text ++ more) ≡ glue (slice_split test text) (slice_split test more)
split_glued test [] more = glue_to_none (slice_split test more) (some_parts test more)
split_glued test (byte ∷ text) more =
    ap (λ (parts : List (List ℕ)). cond (test byte) ([] ∷ parts) (onto_first byte parts)) (split_glued test text more)
    ∙ glue_one byte (test byte) (slice_split test text) (slice_split test more) (some_parts test text)

-- ---- the last part

glue_some : (parts : List (List ℕ)) (first : List ℕ) (more : List (List ℕ)) → 1 ≤ length (glue parts (first ∷ more))
glue_some [] first more = omega arith
glue_some (part ∷ []) first more = omega arith
glue_some (part ∷ next ∷ parts) first more = omega arith

but_last_behind : (part : List ℕ) (parts : List (List ℕ)) → 1 ≤ length parts
    → all_but_last (part ∷ parts) ≡ part ∷ all_but_last parts
but_last_behind part [] some = absurd (omega (arith, some))
but_last_behind part (next ∷ parts) some = refl

last_behind : (part : List ℕ) (parts : List (List ℕ)) → 1 ≤ length parts → last_of (part ∷ parts) ≡ last_of parts
last_behind part [] some = absurd (omega (arith, some))
last_behind part (next ∷ parts) some = refl

-- bytes without a line feed go on the last line
pub same_whole : (parts : List (List ℕ)) (more : List ℕ) → all_but_last (glue parts (more ∷ [])) ≡ all_but_last parts
same_whole [] more = refl
same_whole (part ∷ []) more = refl
same_whole (part ∷ next ∷ parts) more =
    but_last_behind part (glue (next ∷ parts) (more ∷ [])) (glue_some (next ∷ parts) more [])
    ∙ ap (λ (lines : List (List ℕ)). part ∷ lines) (same_whole (next ∷ parts) more)

pub longer_last : (parts : List (List ℕ)) (more : List ℕ) → last_of (glue parts (more ∷ [])) ≡ last_of parts ++ more
longer_last [] more = refl
longer_last (part ∷ []) more = refl
longer_last (part ∷ next ∷ parts) more =
    last_behind part (glue (next ∷ parts) (more ∷ [])) (glue_some (next ∷ parts) more [])
    ∙ longer_last (next ∷ parts) more

-- bytes that a line feed ends make it whole
pub one_more_whole : (parts : List (List ℕ)) (more : List ℕ)
    → all_but_last (glue parts (more ∷ [] ∷ [])) ≡ all_but_last parts ++ (last_of parts ++ more) ∷ []
one_more_whole [] more = refl
one_more_whole (part ∷ []) more = refl
one_more_whole (part ∷ next ∷ parts) more =
    but_last_behind part (glue (next ∷ parts) (more ∷ [] ∷ [])) (glue_some (next ∷ parts) more ([] ∷ []))
    ∙ ap (λ (lines : List (List ℕ)). part ∷ lines) (one_more_whole (next ∷ parts) more)

pub none_open : (parts : List (List ℕ)) (more : List ℕ) → last_of (glue parts (more ∷ [] ∷ [])) ≡ []
none_open [] more = refl
none_open (part ∷ []) more = refl
none_open (part ∷ next ∷ parts) more =
    last_behind part (glue (next ∷ parts) (more ∷ [] ∷ [])) (glue_some (next ∷ parts) more ([] ∷ []))
    ∙ none_open (next ∷ parts) more

-- ---- one more object

later_object : (lines : List (List ℕ)) (line : List ℕ)
    → json_lines false (lines ++ line ∷ []) ≡ json_lines false lines ++ json_line false line
later_object [] line = append-nil (json_line false line)
later_object (first ∷ lines) line =
    ap (λ (text : List ℕ). json_line false first ++ text) (later_object lines line)
    ∙ sym (append_assoc (json_line false first) (json_lines false lines) (json_line false line))

pub one_more_object : (lines : List (List ℕ)) (line : List ℕ)
    → json_lines true (lines ++ line ∷ []) ≡ json_lines true lines ++ json_line (is_none lines) line
one_more_object [] line = append-nil (json_line true line)
one_more_object (first ∷ lines) line =
    ap (λ (text : List ℕ). json_line true first ++ text) (later_object lines line)
    ∙ sym (append_assoc (json_line true first) (json_lines false lines) (json_line false line))

pub not_none : (lines : List (List ℕ)) (line : List ℕ) → is_none (lines ++ line ∷ []) ≡ false
not_none [] line = refl
not_none (first ∷ lines) line = refl

-- ---- the first line feed

abbrev is_feed : ℕ → Bool
is_feed byte = byte == 10

abbrev IsCutAt : List ℕ → Option ℕ → Type 0
IsCutAt text o =
    MatchOption o (slice_split is_feed text ≡ text ∷ [])
    (λ end. (end < length text) × (slice_split is_feed (take (end + 1) text) ≡ take end text ∷ [] ∷ []))

take_one_more : (text : List ℕ) (n : ℕ) (d : ℕ) → n < length text → take (n + 1) text ≡ take n text ++ get_or text n d ∷ []
take_one_more text n d below = grind (arith, common_steps)

cut_by_test : (text : List ℕ) (found : Bool) → nat_lt (position_or_len is_feed text) (length text) ≡ found
    → IsCutAt text (cond found (Some (position_or_len is_feed text)) None)
cut_by_test text true h =
    let end = position_or_len is_feed text in
    let within : position_or_len is_feed text < length text = ltb-true _ _ h in
    let front : All (λ x. is_feed x ≡ false) (take (position_or_len is_feed text) text) =
    λ k e m. let fails = fails_before_first is_feed text k e (grind (arith, common_steps)) in grind (arith, common_steps) in (
      within,
      ap (slice_split is_feed) (take_one_more text end 0 within)
          ∙ slice_split_at is_feed (take end text) (get_or text end 0) [] front (passes_at_first is_feed text 0 within),
    )
cut_by_test text false h =
    slice_split_none is_feed text
    (λ k d below. fails_before_first is_feed text k d (let past = ltb-false _ _ h in omega (arith, past)))

pub cut_at_feed : (text : List ℕ) (o : Option ℕ) → o ≡ position (λ byte. byte == 10) text
    → MatchOption o (slice_split (λ byte. byte == 10) text ≡ text ∷ [])
    (λ end. (end < length text) × (slice_split (λ byte. byte == 10) (take (end + 1) text) ≡ take end text ∷ [] ∷ []))
cut_at_feed text o e = rw e (cut_by_test text (nat_lt (position_or_len is_feed text) (length text)) refl)
