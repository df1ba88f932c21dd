-- The text of a script without names.
use Rattle.std.proofs.Common.{◌≡◌, ◌≢◌, ◌≤◌, ◌-◌, ◌++◌, ◌∷◌, [], ◌∙◌, ℕ, Bool, false, cond, List, length, take, arith, ap, sym, refl, append-nil, append_assoc, true}
use Rattle.std.specs.Prelude.{flat_map}
use Rattle.std.specs.List.{join_with_byte, onto_first, slice_split}
use Rattle.std.proofs.lemmas.List.{length-append, take_at}
use Rattle.std.proofs.lemmas.List.Splits.{join_with_byte-slice_split, length-slice_split}
use Rattle.fuse_text.specs.Lines.{lines_of}
use Rattle.fuse_text.specs.Words.{words_of}
use Rattle.fw_call_names.specs.Naming.{Names, given_line, given_words}
use Rattle.fw_call_names.specs.PlainScripts.{names_behind, plain_lines, plain_script}
use Rattle.fw_call_names.proofs.Givens.{given_without}
use Rattle.fw_call_names.proofs.Joining.{AreWithout, IsWithout, is_byte, parts_without, split_joined}

-- ---- lines without a line feed

together_without : (separator : ℕ) (one other : List ℕ) → IsWithout separator one → IsWithout separator other
    → IsWithout separator (one ++ other)
together_without separator [] other h k = k
together_without separator (byte ∷ one) other h k = (h.0, together_without separator one other h.1 k)

joined_without : (separator between : ℕ) (texts : List (List ℕ)) → is_byte separator between ≡ false
    → AreWithout separator texts → IsWithout separator (join_with_byte between texts)
joined_without separator between [] other none = tt
joined_without separator between (text ∷ []) other none = none.0
joined_without separator between (text ∷ next ∷ texts) other none =
    together_without separator text (between ∷ join_with_byte between (next ∷ texts)) none.0
    (other, joined_without separator between (next ∷ texts) other none.1)

next_part : (separator byte : ℕ) (passes : Bool) (parts : List (List ℕ)) → is_byte separator byte ≡ false
    → AreWithout separator parts → AreWithout separator (cond passes ([] ∷ parts) (onto_first byte parts))
next_part separator byte true parts is none = (tt, none)
next_part separator byte false [] is none = ((is, tt), tt)
next_part separator byte false (part ∷ parts) is none = ((is, none.0), none.1)

parts_keep : (separator between : ℕ) (text : List ℕ) → IsWithout separator text
    → AreWithout separator (slice_split (is_byte between) text)
parts_keep separator between [] none = (tt, tt)
parts_keep separator between (byte ∷ text) none =
    next_part separator byte (is_byte between byte) (slice_split (is_byte between) text) none.0
    (parts_keep separator between text none.1)

line_without : (names : Names) (raw : List ℕ) → IsWithout 10 raw → IsWithout 10 (given_line names raw)
line_without names raw none =
    joined_without 10 32 (given_words names (words_of raw)) refl
    (given_without 10 names (words_of raw) (omega arith) (parts_keep 10 32 raw none))

lines_without : (names : Names) (lines : List (List ℕ)) → AreWithout 10 lines → AreWithout 10 (plain_lines names lines)
lines_without names [] none = tt
lines_without names (line ∷ lines) none =
    (line_without names line none.0, lines_without (names_behind names line) lines none.1)

some_plain : (names : Names) (lines : List (List ℕ)) → 1 ≤ length lines → 1 ≤ length (plain_lines names lines)
some_plain names [] some = some
some_plain names (line ∷ lines) some = omega arith

pub some_lines : (script : List ℕ) → 1 ≤ length (plain_script script)
some_lines script =
    let counted = length-slice_split (is_byte 10) script in some_plain [] (lines_of script) (omega (arith, counted))

pub lines_of_plain : (script : List ℕ) → lines_of (join_with_byte 10 (plain_script script)) ≡ plain_script script
lines_of_plain script =
    split_joined 10 (plain_script script) (some_lines script)
    (lines_without [] (lines_of script) (parts_without 10 script))

-- ---- the text

-- each line with a line feed is the text with one
pub ended_lines : (lines : List (List ℕ)) → 1 ≤ length lines
    → flat_map (λ line. line ++ 10 ∷ []) lines ≡ join_with_byte 10 lines ++ 10 ∷ []
ended_lines [] some = absurd (omega (arith, some))
ended_lines (line ∷ []) some = append-nil (line ++ 10 ∷ [])
ended_lines (line ∷ next ∷ lines) some =
    append_assoc line (10 ∷ []) (flat_map (λ (l : List ℕ). l ++ 10 ∷ []) (next ∷ lines))
    ∙ ap (λ (rest : List ℕ). line ++ 10 ∷ rest) (ended_lines (next ∷ lines) (omega arith))
    ∙ sym (append_assoc line (10 ∷ join_with_byte 10 (next ∷ lines)) (10 ∷ []))

pub feed_taken : (lines : List (List ℕ)) (text left : List ℕ) (count : ℕ) → 1 ≤ length lines
    → text ≡ flat_map (λ line. line ++ 10 ∷ []) lines → count ≡ length text → left ≡ take (count - 1) text
    → left ≡ join_with_byte 10 lines
feed_taken lines text left count some is counted taken =
    let joined = join_with_byte 10 lines in
    let whole : text ≡ joined ++ 10 ∷ [] = is ∙ ended_lines lines some in
    let lengths : length text ≡ length (joined ++ 10 ∷ []) = ap length whole in
    let behind = length-append joined (10 ∷ []) in
    let short : length joined ≡ count - 1 = omega (arith, counted, lengths, behind) in
    taken ∙ ap (take (count - 1)) whole ∙ take_at joined (10 ∷ []) (count - 1) short

-- one more line
pub one_more_line : (text given more : List ℕ) → (text ++ given ++ 10 ∷ []) ++ more ≡ text ++ ((given ++ 10 ∷ []) ++ more)
one_more_line text given more =
    ap (λ (l : List ℕ). l ++ more) (append_assoc text given (10 ∷ [])) ∙ append_assoc text (given ++ 10 ∷ []) more

-- ---- the script itself

pub is_plain : (script text : List ℕ) → text ≡ join_with_byte 10 (plain_script script) → text ≡ script
    → plain_script script ≡ lines_of script
is_plain script text made same = sym (lines_of_plain script) ∙ ap lines_of (sym made ∙ same)

pub is_other : (script text : List ℕ) → text ≡ join_with_byte 10 (plain_script script) → text ≢ script
    → plain_script script ≢ lines_of script
is_other script text made other same = other (made ∙ ap (join_with_byte 10) same ∙ join_with_byte-slice_split 10 script)
