-- How lines that are read come to what is printed, and what ends that early.
use Rattle.std.specs.Prelude.{◌≡◌, ◌++◌, ◌∷◌, [], ◌⊎◌, ℕ, Bool, List, Option, Result, Ok, Err, IfSome}
use Rattle.std.specs.Io.KnownBytes.{Appends, Keeps}
use Rattle.fw_script.specs.Lines.{LineHasWords}
use Rattle.fuse_text.specs.Outputs.{AppendsSome}
use Rattle.fw_script.specs.Scripts.{FirstFaultIs, IsGoodScript, IsPassedOver, Machine, Prints, PrintsAll, PrintsFirst, PrintsLine, PrintsSome}
use Rattle.fuse_text.specs.Words.{words_of}
use Rattle.fw_script.specs.declared.line.Line.{Line}
use Rattle.fuse_text.specs.declared.stop.Stop.{Stop}
use Rattle.fw_script.specs.declared.line.LineFault.{LineFault}
use Rattle.fuse_text.specs.declared.stop.Stop.TheVariants as stop
use Rattle.fw_world.specs.declared.event.Event.{Event}
use Rattle.fw_world.specs.declared.record.Record.{Record}

-- The lines say this, in their order; a line that is passed over says nothing.
pub data Say : List (List ℕ) → List Line → Type 0 where
  no_more : Say [] []
  passed_over : (line : List ℕ) (lines : List (List ℕ)) (said : List Line) → IsPassedOver line → Say lines said
      → Say (line ∷ lines) said
  says : (line : List ℕ) (l : Line) (lines : List (List ℕ)) (said : List Line) → LineHasWords l (words_of line)
      → Say lines said → Say (line ∷ lines) (l ∷ said)

-- Each line of these results in this text, and in the same events and records.
pub record EachLinePrints {S A : Type 0} (m : Machine S A) (hex : Bool) (old : S) (IsLine : List ℕ → Type 0) (text : List ℕ)
    (new : S) : Type 0 where
  pub events : List Event
  pub records : List (Record A)
  pub prints : (line : List ℕ) → IsLine line → PrintsLine m hex old line events records text new

-- One of these lines was done: its text was written; or memory ran out before it began; or the output refused.
abbrev pub LineEnds : {S A T : Type 0} → Machine S A → Bool → (old : S) → (List ℕ → Type 0) → (new : S)
    → Result T (Stop LineFault) → (had has : Option (List ℕ)) → Type 0
LineEnds m hex old IsLine new (Ok done) had has =
    (text : List ℕ) × EachLinePrints m hex old IsLine text new × Appends had has text
LineEnds m hex old IsLine new (Err stop.OutputRefused) had has =
    (text : List ℕ) × EachLinePrints m hex old IsLine text new × AppendsSome had has text
LineEnds m hex old IsLine new (Err stop.NoMemory) had has = (new ≡ old) × Appends had has []
LineEnds m hex old IsLine new (Err other) had has = ⊥

-- These lines were done, and this is their text.
pub record HasPrinted {S A : Type 0} (m : Machine S A) (hex : Bool) (first : S) (lines : List (List ℕ))
    (text : List ℕ) (last : S) : Type 0 where
  pub events : List Event
  pub records : List (Record A)
  pub prints : Prints m hex first lines events records text last

-- All lines were done; or memory ran out after some of them; or the output refused in them.
abbrev pub LinesEnd : {S A T : Type 0} → Machine S A → Bool → (first : S) → List (List ℕ) → (last : S)
    → Result T (Stop LineFault) → (had has : Option (List ℕ)) → Type 0
LinesEnd m hex first lines last (Ok done) had has =
    (text : List ℕ) × HasPrinted m hex first lines text last × Appends had has text
LinesEnd m hex first lines last (Err stop.OutputRefused) had has =
    (done : List (List ℕ)) × (rest : List (List ℕ)) × (lines ≡ done ++ rest)
    × (text : List ℕ) × HasPrinted m hex first done text last × AppendsSome had has text
LinesEnd m hex first lines last (Err stop.NoMemory) had has =
    (done : List (List ℕ)) × (rest : List (List ℕ)) × (lines ≡ done ++ rest)
    × (text : List ℕ) × HasPrinted m hex first done text last × Appends had has text
LinesEnd m hex first lines last (Err other) had has = ⊥

-- A run of these lines ended: all of its text was written; or memory ran out before or after some lines; or the
-- output refused in them.
abbrev pub RunEnds : {T : Type 0} → (List (List ℕ) → List ℕ → Type 0) → List (List ℕ) → Result T (Stop LineFault)
    → (had has : Option (List ℕ)) → Type 0
RunEnds IsRun lines (Ok done) had has = (text : List ℕ) × IsRun lines text × Appends had has text
RunEnds IsRun lines (Err stop.OutputRefused) had has =
    (done : List (List ℕ)) × (rest : List (List ℕ)) × (lines ≡ done ++ rest) × (text : List ℕ) × IsRun done text
    × AppendsSome had has text
RunEnds IsRun lines (Err stop.NoMemory) had has =
    Keeps had has ⊎ ((done : List (List ℕ)) × (rest : List (List ℕ)) × (lines ≡ done ++ rest) × (text : List ℕ)
    × IsRun done text × Appends had has text)
RunEnds IsRun lines (Err other) had has = ⊥

-- why a script is not read
abbrev pub ReadingEnds : Stop LineFault → Type 0
ReadingEnds stop.CannotRead = Unit {0}
ReadingEnds stop.NoMemory = Unit {0}
ReadingEnds other = ⊥

-- How a run ends whose script was to be read, judged and run.
abbrev pub InputEnds : {T : Type 0} → (List (List ℕ) → List ℕ → Type 0) → (script : Option (List ℕ))
    → Result T (Stop LineFault) → (had has : Option (List ℕ)) → Type 0
InputEnds IsRun script (Ok done) had has = PrintsAll IsRun script had has
InputEnds IsRun script (Err stop.OutputRefused) had has = PrintsSome IsRun script had has
InputEnds IsRun script (Err stop.NoMemory) had has = Keeps had has ⊎ PrintsFirst IsRun script had has
InputEnds IsRun script (Err stop.CannotRead) had has = Unit {0}
InputEnds IsRun script (Err (stop.BadLine number fault)) had has =
    IfSome script (λ s. FirstFaultIs s number fault)

-- why the lines of a script are not kept: its first bad line, or out of memory for good ones
abbrev pub JudgingEnds : List ℕ → Stop LineFault → Type 0
JudgingEnds script (stop.BadLine number fault) = FirstFaultIs script number fault
JudgingEnds script stop.NoMemory = IsGoodScript script
JudgingEnds script other = ⊥

-- why a script is not read or not kept
abbrev pub UnreadEnds : (script : Option (List ℕ)) → Stop LineFault → Type 0
UnreadEnds script stop.CannotRead = Unit {0}
UnreadEnds script (stop.BadLine number fault) = IfSome script (λ s. FirstFaultIs s number fault)
UnreadEnds script stop.NoMemory = Unit {0}
UnreadEnds script other = ⊥

-- A run over a link whose end is not known to be lost or not.
abbrev pub IsEither : (Bool → List (List ℕ) → List ℕ → Type 0) → List (List ℕ) → List ℕ → Type 0
IsEither IsRun lines text = (is_lost : Bool) × IsRun is_lost lines text

-- A run over a link ended: all of its text was written, and the link was lost or was not; or it stopped early as one of
-- a world does, over a link that was lost by then or was not.
abbrev pub SessionEnds : (Bool → List (List ℕ) → List ℕ → Type 0) → List (List ℕ) → Result Bool (Stop LineFault)
    → (had has : Option (List ℕ)) → Type 0
SessionEnds IsRun lines (Ok is_lost) had has = (text : List ℕ) × IsRun is_lost lines text × Appends had has text
SessionEnds IsRun lines (Err stop) had has = RunEnds {T = Bool} (IsEither IsRun) lines (Err stop) had has

-- How a run ends whose script was to be read, judged and run.
abbrev pub OverEnds : (Bool → List (List ℕ) → List ℕ → Type 0) → (script : Option (List ℕ))
    → Result Bool (Stop LineFault) → (had has : Option (List ℕ)) → Type 0
OverEnds IsRun script (Ok is_lost) had has = PrintsAll (IsRun is_lost) script had has
OverEnds IsRun script (Err stop) had has = InputEnds {T = Bool} (IsEither IsRun) script (Err stop) had has
