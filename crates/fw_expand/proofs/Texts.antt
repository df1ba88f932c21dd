-- The text of a script by which one is judged.
use Rattle.std.proofs.Common.{◌≡◌, ◌≢◌, ◌≤◌, ◌-◌, ◌++◌, ◌∷◌, [], ◌∙◌, ℕ, zero, suc, Bool, List, length, take, map, arith, ap, sym, refl}
use Rattle.std.specs.List.{join_with_byte}
use Rattle.std.specs.Prelude.{codes}
use Rattle.std.proofs.lemmas.List.{length-map}
use Rattle.std.proofs.lemmas.List.Splits.{join_with_byte-slice_split, length-slice_split}
use Rattle.fuse_text.specs.Lines.{lines_of}
use Rattle.fuse_text.specs.Words.{words_of}
use Rattle.fw_call_names.proofs.Joining.{AreWithout, IsWithout, is_byte, parts_without, split_joined}
use Rattle.fw_expand.specs.Expanding.{kind_of, list_line}
use Rattle.fw_expand.specs.Scripts.{expandable_script, judged_as, judged_line}
use Rattle.fw_expand.specs.declared.kind.Kind.{Kind}
use Rattle.fw_expand.specs.declared.kind.Kind.TheVariants.{Ordinary, Forget, EvictAll, EvictPath, ListAll}

-- ---- lines without a line feed

together_without : (separator : ℕ) (one other : List ℕ) → IsWithout separator one → IsWithout separator other
    → IsWithout separator (one ++ other)
together_without separator [] other h k = k
together_without separator (byte ∷ one) other h k = (h.0, together_without separator one other h.1 k)

taken_without : (separator n : ℕ) (text : List ℕ) → IsWithout separator text → IsWithout separator (take n text)
taken_without separator zero text none = tt
taken_without separator (suc n) [] none = tt
taken_without separator (suc n) (byte ∷ text) none = (none.0, taken_without separator n text none.1)

shown_without : IsWithout 10 (codes "show")
shown_without = (refl, (refl, (refl, (refl, tt))))

judged_without : (kind : Kind) (raw : List ℕ) → IsWithout 10 raw → IsWithout 10 (judged_as kind raw)
judged_without Ordinary raw none = none
judged_without Forget raw none = shown_without
judged_without EvictAll raw none = shown_without
judged_without EvictPath raw none = shown_without
judged_without ListAll raw none =
    together_without 10 (list_line raw) (codes "0") (taken_without 10 (length raw - 3) raw none) (refl, tt)

lines_without : (of_calls : Bool) (lines : List (List ℕ)) → AreWithout 10 lines
    → AreWithout 10 (map (judged_line of_calls) lines)
lines_without of_calls [] none = tt
lines_without of_calls (line ∷ lines) none =
    (judged_without (kind_of of_calls (words_of line)) line none.0, lines_without of_calls lines none.1)

pub some_lines : (of_calls : Bool) (script : List ℕ) → 1 ≤ length (expandable_script of_calls script)
some_lines of_calls script =
    let counted = length-slice_split (is_byte 10) script in
    let kept = length-map (lines_of script) (judged_line of_calls) in omega (arith, counted, kept)

pub lines_of_expandable : (of_calls : Bool) (script : List ℕ)
    → lines_of (join_with_byte 10 (expandable_script of_calls script)) ≡ expandable_script of_calls script
lines_of_expandable of_calls script =
    split_joined 10 (expandable_script of_calls script) (some_lines of_calls script)
    (lines_without of_calls (lines_of script) (parts_without 10 script))

-- ---- the script itself

pub is_script : (of_calls : Bool) (script text : List ℕ) → text ≡ join_with_byte 10 (expandable_script of_calls script)
    → text ≡ script → expandable_script of_calls script ≡ lines_of script
is_script of_calls script text made same = sym (lines_of_expandable of_calls script) ∙ ap lines_of (sym made ∙ same)

pub is_other : (of_calls : Bool) (script text : List ℕ) → text ≡ join_with_byte 10 (expandable_script of_calls script)
    → text ≢ script → expandable_script of_calls script ≢ lines_of script
is_other of_calls script text made other same =
    other (made ∙ ap (join_with_byte 10) same ∙ join_with_byte-slice_split 10 script)
