-- What is written of a text that is longer by some bytes.
use Rattle.std.proofs.Common.{◌≡◌, ◌++◌, ◌==◌, ◌∙◌, ℕ, Bool, true, false, List, [], ◌∷◌, length, take, Option, arith, sym, ap, refl, subst}
use Rattle.std.specs.Io.KnownBytes.{Appends}
use Rattle.std.specs.List.{slice_split}
use Rattle.std.proofs.lemmas.List.{take_all}
use Rattle.fuse_text.specs.Lines.{lines_of}
use Rattle.std.proofs.KnownBytes.{Appends-trans, Appends-nil}
use Rattle.fw_json.specs.Objects.{json_line}
use Rattle.fw_json.specs.Texts.{HasWritten, all_but_last, is_none, json_lines, json_text, last_of, open_line, whole_lines}
use Rattle.fw_json.proofs.Feeds.{glue, longer_last, none_open, not_none, one_more_object, one_more_whole, same_whole, split_glued}

abbrev is_feed : ℕ → Bool
is_feed byte = byte == 10

lines_glued : (text more : List ℕ) (parts : List (List ℕ)) → slice_split (λ byte. byte == 10) more ≡ parts
    → lines_of (text ++ more) ≡ glue (lines_of text) parts
lines_glued text more parts split = split_glued is_feed text more ∙ ap (glue (lines_of text)) split

-- nothing was written
pub nothing_written : (start : Option (List ℕ)) → HasWritten start [] start [] true
nothing_written start = record { objects = Appends-nil start; rest = refl; first = refl }

-- bytes without a line feed are kept
pub kept_more : (start now : Option (List ℕ)) (text more kept longer : List ℕ) (is_first : Bool)
    → HasWritten start text now kept is_first → slice_split (λ byte. byte == 10) more ≡ more ∷ [] → longer ≡ kept ++ more
    → HasWritten start (text ++ more) now longer is_first
kept_more start now text more kept longer is_first has split is =
    let lines = lines_glued text more (more ∷ []) split in
    let whole : whole_lines (text ++ more) ≡ whole_lines text = ap all_but_last lines ∙ same_whole (lines_of text) more in
    record {
      objects = subst (λ (ls : List (List ℕ)). Appends start now (json_lines true ls)) (sym whole) has.objects;
      rest =
          is ∙ ap (λ (l : List ℕ). l ++ more) has.rest
          ∙ sym (ap last_of lines ∙ longer_last (lines_of text) more);
      first = has.first ∙ ap is_none (sym whole);
    }

-- bytes that a line feed ends make an object
pub one_more_written : (start now new : Option (List ℕ)) (text bytes more kept left : List ℕ) (is_first is_next : Bool)
    → HasWritten start text now kept is_first → slice_split (λ byte. byte == 10) bytes ≡ more ∷ [] ∷ []
    → Appends now new (json_line is_first (kept ++ more)) → left ≡ [] → is_next ≡ false
    → HasWritten start (text ++ bytes) new left is_next
one_more_written start now new text bytes more kept left is_first is_next has split appends none later =
    let lines = lines_glued text bytes (more ∷ [] ∷ []) split in
    let whole : whole_lines (text ++ bytes) ≡ whole_lines text ++ (open_line text ++ more) ∷ [] =
    ap all_but_last lines ∙ one_more_whole (lines_of text) more in
    let same : json_line is_first (kept ++ more) ≡ json_line (is_none (whole_lines text)) (open_line text ++ more) =
    ap (λ (b : Bool). json_line b (kept ++ more)) has.first
    ∙ ap (λ (l : List ℕ). json_line (is_none (whole_lines text)) (l ++ more)) has.rest in
    let all : json_text text ++ json_line is_first (kept ++ more) ≡ json_text (text ++ bytes) =
    ap (λ (l : List ℕ). json_text text ++ l) same
    ∙ sym (one_more_object (whole_lines text) (open_line text ++ more))
    ∙ ap (json_lines true) (sym whole) in
    record {
      objects = subst (λ (l : List ℕ). Appends start new l) all
          (Appends-trans start now new (json_text text) (json_line is_first (kept ++ more)) has.objects appends);
      rest = none ∙ sym (ap last_of lines ∙ none_open (lines_of text) more);
      first = later ∙ sym (ap is_none whole ∙ not_none (whole_lines text) (open_line text ++ more));
    }

-- all bytes are kept, and the writer is the same
pub kept_all : {S : Type 0} (contents : S → Option (List ℕ)) (start : Option (List ℕ)) (old new : S)
    (text bytes kept longer : List ℕ) (was is : Bool) → HasWritten start text (contents old) kept was
    → slice_split (λ byte. byte == 10) bytes ≡ bytes ∷ [] → longer ≡ kept ++ bytes → new ≡ old → is ≡ was
    → HasWritten start (text ++ take (length bytes) bytes) (contents new) longer is
kept_all {S} contents start old new text bytes kept longer was is has split longer_is same_writer same_first =
    let more = kept_more start (contents old) text bytes kept longer was has split longer_is in
    let first = subst (λ (b : Bool). HasWritten start (text ++ bytes) (contents old) longer b) (sym same_first) more in
    let writer = subst (λ (s : S). HasWritten start (text ++ bytes) (contents s) longer is) (sym same_writer) first in
    subst (λ (l : List ℕ). HasWritten start (text ++ l) (contents new) longer is)
    (sym (take_all (length bytes) bytes (omega arith))) writer
