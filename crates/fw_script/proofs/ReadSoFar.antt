-- What was read of a script, from its first line on.
use Rattle.std.proofs.Common.{◌≡◌, ◌+◌, ◌++◌, ◌∷◌, [], ℕ, List, Option, Some, None, append-nil, length, refl, ap, sym, subst, arith, append_assoc, length-append, ◌∙◌, inl, inr}
use Rattle.std.specs.Prelude.{All}
use Rattle.std.proofs.lemmas.List.Elements.{All-push}
use Rattle.fuse_text.specs.Lines.{lines_left, lines_of}
use Rattle.fuse_text.specs.Words.{words_of}
use Rattle.fw_script.specs.Lines.{IsWritten, LineHasWords}
use Rattle.fw_script.specs.Running.{Say, no_more}
use Rattle.fw_script.specs.Scripts.{IsGoodLine, IsGoodScript, IsPassedOver}
use Rattle.fw_script.specs.declared.line.Line.{Line}
use Rattle.fw_script.proofs.Saying.{Say-more, Say-over, said_is_written}

-- so many lines were read, and say this; these are left
pub record ReadSoFar (script : List ℕ) (rest : Option (List ℕ)) (number : ℕ) (said : List Line) : Type 0 where
  pub before : List (List ℕ)
  pub counted : number ≡ length before
  pub split : lines_of script ≡ before ++ lines_left rest
  pub good : All IsGoodLine before
  pub written : All IsWritten said
  pub say : Say before said

pub read_none : (script : List ℕ) → ReadSoFar script (Some script) 0 []
read_none script = record {
  before = [];
  counted = refl;
  split = refl;
  good = λ k d below. absurd (omega arith);
  written = λ k d below. absurd (omega arith);
  say = no_more;
}

split_further : (script line : List ℕ) (before : List (List ℕ)) (text : List ℕ) (rest : Option (List ℕ))
    → lines_of script ≡ before ++ lines_of text → lines_of text ≡ line ∷ lines_left rest
    → lines_of script ≡ (before ++ line ∷ []) ++ lines_left rest
split_further script line before text rest split first =
    split
    ∙ ap (λ (lines : List (List ℕ)). before ++ lines) first
    ∙ sym (append_assoc before (line ∷ []) (lines_left rest))

-- one line more, which says nothing
pub read_over : (script text : List ℕ) (number : ℕ) (said : List Line) → ReadSoFar script (Some text) number said
    → (line : List ℕ) (rest : Option (List ℕ)) → lines_of text ≡ line ∷ lines_left rest → IsPassedOver line
    → ReadSoFar script rest (number + 1) said
read_over script text number said read line rest first over =
    let size = length-append read.before (line ∷ []) in
    record {
      before = read.before ++ line ∷ [];
      counted = omega (arith, size, read.counted);
      split = split_further script line read.before text rest read.split first;
      good = All-push IsGoodLine read.before line read.good (inl over);
      written = read.written;
      say = Say-over read.before said read.say line over;
    }

-- one line more, which says this
pub read_more : (script text : List ℕ) (number : ℕ) (said : List Line) → ReadSoFar script (Some text) number said
    → (line : List ℕ) (l : Line) (rest : Option (List ℕ)) → lines_of text ≡ line ∷ lines_left rest
    → LineHasWords l (words_of line) → ReadSoFar script rest (number + 1) (said ++ l ∷ [])
read_more script text number said read line l rest first names =
    let size = length-append read.before (line ∷ []) in
    record {
      before = read.before ++ line ∷ [];
      counted = omega (arith, size, read.counted);
      split = split_further script line read.before text rest read.split first;
      good = All-push IsGoodLine read.before line read.good (inr (l, names));
      written = All-push IsWritten said l read.written (said_is_written l (words_of line) names);
      say = Say-more read.before said read.say line l names;
    }

-- no line is left
pub read_all : (script : List ℕ) (number : ℕ) (said : List Line) → ReadSoFar script None number said
    → (IsGoodScript script × All IsWritten said) × Say (lines_of script) said
read_all script number said read =
    let whole : lines_of script ≡ read.before = read.split ∙ append-nil read.before in (
      (subst (λ (lines : List (List ℕ)). All IsGoodLine lines) (sym whole) read.good, read.written),
      subst (λ (lines : List (List ℕ)). Say lines said) (sym whole) read.say,
    )
