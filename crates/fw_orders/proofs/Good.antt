-- Good lines, one more at a time, and the first that is bad.
use Rattle.std.proofs.Common.{◌≡◌, ◌<◌, ◌≤◌, ◌+◌, ◌++◌, ◌∷◌, [], ℕ, List, length, refl, sym, ◌∙◌, arith, length-append}
use Rattle.fw_script.specs.Scripts.{IsPassedOver}
use Rattle.fuse_text.specs.Lines.{lines_of}
use Rattle.order_law.specs.Moments.{Part}
use Rattle.fw_orders.specs.FileLines.{FileLine, FirstBadLine, HaveParts, IsBad, faulty, left_out, passed_over, says}
use Rattle.fw_orders.specs.Reading.{Added, AddsNot, IsNotAdded, ReadingEnds, its_own, not_joined, stopped_at}
use Rattle.fw_orders.specs.declared.read.NotAdded.{NotAdded}
use Rattle.fw_orders.specs.declared.read.NotAdded.TheVariants as not_added
use Rattle.fw_orders.specs.declared.fault.LinesFault.{LinesFault}

module _ (before : List (List ℕ)) (parts : List Part) (have : HaveParts before parts) (text : List ℕ) where
  abbrev pub over_line : IsPassedOver text → HaveParts (before ++ text ∷ []) parts
  over_line over = record {
    said = have.said;
    say = passed_over before have.said have.say text over;
    few = have.few;
    make = have.make;
  }

  abbrev pub more_lines : (more : List Part) → length have.said < 256 → Added have.said text more
      → HaveParts (before ++ text ∷ []) more
  more_lines more few added =
      let size = length-append have.said (added.l ∷ []) in
      record {
        said = have.said ++ added.l ∷ [];
        say = says before have.said have.say text added.l added.says;
        few = omega (arith, size, few);
        make = added.make;
      }

  pub first_bad : (texts after : List (List ℕ)) (number : ℕ) (fault : LinesFault) → texts ≡ before ++ text ∷ after
      → number ≡ length before + 1 → ¬ (IsPassedOver text) → IsBad have.said text fault
      → FirstBadLine texts number fault
  first_bad texts after number fault split numbered speaks bad = record {
    before = before;
    text = text;
    after = after;
    split = split;
    parts = parts;
    good = have;
    numbered = numbered;
    speaks = speaks;
    bad = bad;
  }

pub is_bad : (said : List FileLine) (text : List ℕ) (fault : LinesFault) → length said < 256 → IsNotAdded said text fault
    → IsBad said text fault
is_bad said text _ few (its_own f not) = faulty few f not
is_bad said text fault few (not_joined one line_says _ out) = left_out few one line_says fault out

pub ends_reading : (file : List ℕ) (before : List (List ℕ)) (parts : List Part) (have : HaveParts before parts)
    (text : List ℕ) (after : List (List ℕ)) (number : ℕ) (why : NotAdded) → lines_of file ≡ before ++ text ∷ after
    → number ≡ length before + 1 → ¬ (IsPassedOver text) → length have.said < 256 → AddsNot have.said text why
    → ReadingEnds file (stopped_at number why)
ends_reading file before parts have text after number not_added.NoMemory split numbered speaks few not = tt
ends_reading file before parts have text after number (not_added.Fault fault) split numbered speaks few not =
    first_bad before parts have text (lines_of file) after number fault split numbered speaks
    (is_bad have.said text fault few not)
