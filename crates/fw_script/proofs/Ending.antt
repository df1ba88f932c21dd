-- How the run of a script ends.
use Rattle.std.proofs.Common.{◌≡◌, ◌≢◌, ◌++◌, ℕ, Bool, false, List, Option, Some, None, Result, Ok, Err, inl, inr, ◌⊎◌, refl, subst, codes}
use Rattle.std.specs.Prelude.{IfSome}
use Rattle.std.specs.Io.KnownBytes.{Keeps}
use Rattle.fuse_spec.specs.World.Worlds.{World, first_world}
use Rattle.fuse_spec.specs.Claim.Counts.{Protocol as KeepsProtocol}
use Rattle.fuse_text.specs.Outputs.{AppendsSome}
use Rattle.fw_script.specs.Running.{HasPrinted, InputEnds, IsEither, JudgingEnds, LinesEnd, OverEnds, ReadingEnds, RunEnds, SessionEnds, UnreadEnds}
use Rattle.fw_script.specs.Scripts.{FirstFaultIs, IsRunOf, IsRunOver, Prints, PrintsFirst, PrintsSome, session_machine, world_machine}
use Rattle.fuse_text.specs.Lines.{lines_of}
use Rattle.fuse_text.specs.Stops.{status_of, stop_line}
use Rattle.fw_script.specs.Stops.{SaysFault, line_fault_words}
use Rattle.fuse_text.specs.declared.stop.Stop.{Stop}
use Rattle.fw_script.specs.declared.line.LineFault.{LineFault}
use Rattle.fuse_text.specs.declared.stop.Stop.TheVariants as stop
use Rattle.fw_link.specs.Traffic.{Traffic}
use Rattle.fw_script.proofs.SessionRuns.{lines_run_over}
use Rattle.fw_script.proofs.WorldRuns.{lines_run}

pub Keeps-same : (known : Option (List ℕ)) → Keeps known known
Keeps-same None = tt
Keeps-same (Some xs) = refl

-- ---- a world

run_of : {A : Type 0} (hex : Bool) (lines : List (List ℕ)) (text : List ℕ) (last : World) → KeepsProtocol first_world
    → HasPrinted (world_machine A) hex first_world lines text last → IsRunOf A hex lines text
run_of hex lines text last keeps has = record {
  events = has.events;
  records = has.records;
  last = last;
  prints = has.prints;
  runs = lines_run hex first_world lines has.events has.records text last keeps has.prints;
}

world_ended : (A : Type 0) {T : Type 0} (hex : Bool) (texts : List (List ℕ)) (last : World) (r : Result T (Stop LineFault))
    (old new : Option (List ℕ)) → KeepsProtocol first_world
    → LinesEnd (world_machine A) hex first_world texts last r old new → RunEnds (IsRunOf A hex) texts r old new
world_ended A hex texts last (Ok done) old new keeps (text, has, written) =
    (text, run_of hex texts text last keeps has, written)
world_ended A hex texts last (Err stop.OutputRefused) old new keeps (done, rest, split, text, has, written) =
    (done, rest, split, text, run_of hex done text last keeps has, written)
world_ended A hex texts last (Err stop.NoMemory) old new keeps (done, rest, split, text, has, written) =
    inr (done, rest, split, text, run_of hex done text last keeps has, written)
world_ended A hex texts last (Err stop.CannotRead) old new keeps ends = absurd ends
world_ended A hex texts last (Err (stop.BadLine number fault)) old new keeps ends = absurd ends

pub world_ends : (A : Type 0) {T : Type 0} (hex : Bool) (first : World) (texts : List (List ℕ)) (last : World)
    (r : Result T (Stop LineFault)) (old new : Option (List ℕ)) → first ≡ first_world → KeepsProtocol first
    → LinesEnd (world_machine A) hex first texts last r old new → RunEnds (IsRunOf A hex) texts r old new
world_ends A hex first texts last r old new is keeps ends =
    world_ended A hex texts last r old new (subst KeepsProtocol is keeps)
    (subst (λ (w : World). LinesEnd (world_machine A) hex w texts last r old new) is ends)

-- ---- what was read

module _ (T : Type 0) (IsRun : List (List ℕ) → List ℕ → Type 0) where
  unknown_ends : (lines : List (List ℕ)) (r : Result T (Stop LineFault)) (old new : Option (List ℕ)) → RunEnds IsRun lines r old new
      → InputEnds IsRun None r old new
  unknown_ends lines (Ok done) old new ends = tt
  unknown_ends lines (Err stop.OutputRefused) old new ends = tt
  unknown_ends lines (Err stop.NoMemory) old new (inl kept) = inl kept
  unknown_ends lines (Err stop.NoMemory) old new (inr first) = inr tt
  unknown_ends lines (Err stop.CannotRead) old new ends = absurd ends
  unknown_ends lines (Err (stop.BadLine number fault)) old new ends = absurd ends

  known_ends : (script : List ℕ) (r : Result T (Stop LineFault)) (old new : Option (List ℕ))
      → RunEnds IsRun (lines_of script) r old new → InputEnds IsRun (Some script) r old new
  known_ends script (Ok done) old new ends = ends
  known_ends script (Err stop.OutputRefused) old new ends = ends
  known_ends script (Err stop.NoMemory) old new ends = ends
  known_ends script (Err stop.CannotRead) old new ends = absurd ends
  known_ends script (Err (stop.BadLine number fault)) old new ends = absurd ends

  -- the script was read and run
  pub ran_ends : (known : Option (List ℕ)) (script : List ℕ) (r : Result T (Stop LineFault)) (old new : Option (List ℕ))
      → IfSome known (λ bytes. script ≡ bytes) → RunEnds IsRun (lines_of script) r old new
      → InputEnds IsRun known r old new
  ran_ends None script r old new is ends = unknown_ends (lines_of script) r old new ends
  ran_ends (Some bytes) script r old new is ends =
      known_ends bytes r old new (subst (λ (s : List ℕ). RunEnds IsRun (lines_of s) r old new) is ends)

  -- it was not read
  pub unread_ends : (known : Option (List ℕ)) (s : Stop LineFault) (old : Option (List ℕ)) → ReadingEnds s
      → InputEnds {T = T} IsRun known (Err s) old old
  unread_ends known stop.CannotRead old ends = ends
  unread_ends known stop.NoMemory old ends = inl (Keeps-same old)
  unread_ends known (stop.BadLine number fault) old ends = absurd ends
  unread_ends known stop.OutputRefused old ends = absurd ends

  -- its lines were not kept
  pub judged_ends : (known : Option (List ℕ)) (script : List ℕ) (s : Stop LineFault) (old : Option (List ℕ))
      → IfSome known (λ bytes. script ≡ bytes) → JudgingEnds script s
      → InputEnds {T = T} IsRun known (Err s) old old
  judged_ends known script stop.CannotRead old is ends = absurd ends
  judged_ends known script stop.NoMemory old is ends = inl (Keeps-same old)
  judged_ends None script (stop.BadLine number fault) old is ends = tt
  judged_ends (Some bytes) script (stop.BadLine number fault) old is ends =
      subst (λ (s : List ℕ). FirstFaultIs s number fault) is ends
  judged_ends known script stop.OutputRefused old is ends = absurd ends

  -- ---- by the exit status

  pub ended_at_3 : (known : Option (List ℕ)) (s : Stop LineFault) (old new : Option (List ℕ))
      → InputEnds {T = T} IsRun known (Err s) old new → status_of s ≡ 3
      → Keeps old new ⊎ PrintsFirst IsRun known old new
  ended_at_3 known stop.CannotRead old new ends at = absurd (cc at)
  ended_at_3 known (stop.BadLine number fault) old new ends at = absurd (cc at)
  ended_at_3 known stop.NoMemory old new ends at = ends
  ended_at_3 known stop.OutputRefused old new ends at = absurd (cc at)

  pub ended_at_5 : (known : Option (List ℕ)) (s : Stop LineFault) (old new : Option (List ℕ))
      → InputEnds {T = T} IsRun known (Err s) old new → status_of s ≡ 5 → PrintsSome IsRun known old new
  ended_at_5 known stop.CannotRead old new ends at = absurd (cc at)
  ended_at_5 known (stop.BadLine number fault) old new ends at = absurd (cc at)
  ended_at_5 known stop.NoMemory old new ends at = absurd (cc at)
  ended_at_5 known stop.OutputRefused old new ends at = ends

  pub ended_at_1 : (name : List ℕ) (known : Option (List ℕ)) (s : Stop LineFault) (old new : Option (List ℕ)) (had has : Option (List ℕ))
      → InputEnds {T = T} IsRun known (Err s) old new
      → (status_of s ≢ 5 → AppendsSome had has (stop_line line_fault_words name s ++ codes "\n")) → status_of s ≡ 1
      → SaysFault name known had has
  ended_at_1 name known stop.CannotRead old new had has ends said at =
      inl (said (λ five. cc five))
  ended_at_1 name None (stop.BadLine number fault) old new had has ends said at = inr tt
  ended_at_1 name (Some script) (stop.BadLine number fault) old new had has ends said at =
      inr (number, fault, ends, said (λ five. cc five))
  ended_at_1 name known stop.NoMemory old new had has ends said at = absurd (cc at)
  ended_at_1 name known stop.OutputRefused old new had has ends said at = absurd (cc at)

pub said_at_3 : (name : List ℕ) (s : Stop LineFault) (had has : Option (List ℕ))
    → (status_of s ≢ 5 → AppendsSome had has (stop_line line_fault_words name s ++ codes "\n")) → status_of s ≡ 3
    → AppendsSome had has (codes "no memory\n")
said_at_3 name stop.CannotRead had has said at = absurd (cc at)
said_at_3 name (stop.BadLine number fault) had has said at = absurd (cc at)
said_at_3 name stop.NoMemory had has said at = said (λ five. cc five)
said_at_3 name stop.OutputRefused had has said at = absurd (cc at)

pub never_0 : (s : Stop LineFault) → status_of s ≢ 0
never_0 stop.CannotRead at = cc at
never_0 (stop.BadLine number fault) at = cc at
never_0 stop.NoMemory at = cc at
never_0 stop.OutputRefused at = cc at

-- It stopped, so that of the two statuses it can be the last alone.
pub at_0_or_5 : {X : Type 0} (s : Stop LineFault) → (status_of s ≡ 5 → X) → (status_of s ≡ 0) ⊎ (status_of s ≡ 5) → X
at_0_or_5 s refused (inl at) = absurd (never_0 s at)
at_0_or_5 s refused (inr at) = refused at

-- ---- a session over a link

module _ (A : Type 0) {L : Type 0} (carries : L → L → Traffic → Type 0) (failed : L → ℕ) (link : L) (hex : Bool) where
  abbrev Over : Bool → List (List ℕ) → List ℕ → Type 0
  Over is_lost lines text = IsRunOver A carries failed link hex is_lost lines text

  -- a new session
  pub begins : (first : World × Bool × L) → first.0 ≡ first_world → first.1 ≡ false → first.2 ≡ link
      → first ≡ (first_world, false, link)
  begins first world lost same = λ i. (world i, lost i, same i)

  -- what has printed over the link, in a session that is lost or is not
  run_over : (is_lost : Bool) (lines : List (List ℕ)) (text : List ℕ) (first last : World × Bool × L)
      → first ≡ (first_world, false, link) → KeepsProtocol first.0 → last.1 ≡ is_lost
      → HasPrinted (session_machine A L carries failed) hex first lines text last → Over is_lost lines text
  run_over is_lost lines text first last is keeps lost has =
      let fresh : World × Bool × L = (first_world, false, link) in
      let ended : World × Bool × L = (last.0, is_lost, last.2) in
      let begun = subst (λ (s : World × Bool × L). Prints (session_machine A L carries failed) hex s lines has.events
      has.records text last) is has.prints in
      let prints : Prints (session_machine A L carries failed) hex fresh lines has.events has.records text ended =
      subst (λ (b : Bool). Prints (session_machine A L carries failed) hex fresh lines has.events has.records text
      (last.0, b, last.2)) lost begun in
      record {
        events = has.events;
        records = has.records;
        world = last.0;
        last = last.2;
        prints = prints;
        runs =
            lines_run_over carries failed hex fresh lines has.events has.records text ended
            (subst (λ (s : World × Bool × L). KeepsProtocol s.0) is keeps) prints;
      }

  -- all of it was written
  pub all_over : {T : Type 0} → (lines : List (List ℕ)) (first last : World × Bool × L) (done : T)
      (old new : Option (List ℕ)) → first ≡ (first_world, false, link) → KeepsProtocol first.0
      → LinesEnd (session_machine A L carries failed) hex first lines last (Ok done) old new
      → SessionEnds Over lines (Ok last.1) old new
  all_over lines first last done old new is keeps (text, has, written) =
      (text, run_over last.1 lines text first last is keeps refl has, written)

  -- it stopped early
  pub stopped_over : (T : Type 0) → (lines : List (List ℕ)) (first last : World × Bool × L) (s : Stop LineFault)
      (old new : Option (List ℕ)) → first ≡ (first_world, false, link) → KeepsProtocol first.0
      → LinesEnd {T = T} (session_machine A L carries failed) hex first lines last (Err s) old new
      → SessionEnds Over lines (Err s) old new
  stopped_over T lines first last stop.OutputRefused old new is keeps (done, rest, split, text, has, written) =
      (done, rest, split, text, (last.1, run_over last.1 done text first last is keeps refl has), written)
  stopped_over T lines first last stop.NoMemory old new is keeps (done, rest, split, text, has, written) =
      inr (done, rest, split, text, (last.1, run_over last.1 done text first last is keeps refl has), written)
  stopped_over T lines first last stop.CannotRead old new is keeps ends = absurd ends
  stopped_over T lines first last (stop.BadLine number fault) old new is keeps ends = absurd ends

-- the script was read and run over the link
pub ran_over_ends : (IsRun : Bool → List (List ℕ) → List ℕ → Type 0) (known : Option (List ℕ))
    (script : List ℕ) (r : Result Bool (Stop LineFault)) (old new : Option (List ℕ)) → IfSome known (λ bytes. script ≡ bytes)
    → SessionEnds IsRun (lines_of script) r old new → OverEnds IsRun known r old new
ran_over_ends IsRun None script (Ok is_lost) old new is ends = tt
ran_over_ends IsRun (Some bytes) script (Ok is_lost) old new is ends =
    subst (λ (s : List ℕ). SessionEnds IsRun (lines_of s) (Ok is_lost) old new) is ends
ran_over_ends IsRun known script (Err s) old new is ends =
    ran_ends Bool (IsEither IsRun) known script (Err s) old new is ends

pub never_4 : (s : Stop LineFault) → status_of s ≢ 4
never_4 stop.CannotRead at = cc at
never_4 (stop.BadLine number fault) at = cc at
never_4 stop.NoMemory at = cc at
never_4 stop.OutputRefused at = cc at

-- nothing is said where the status is none of what is said
pub silent_over : {X : Type 0} (s : Stop LineFault) (new old : X) → (status_of s ≡ 5 → new ≡ old)
    → (status_of s ≡ 0) ⊎ (status_of s ≡ 4) ⊎ (status_of s ≡ 5) → new ≡ old
silent_over s new old silent (inl at) = absurd (never_0 s at)
silent_over s new old silent (inr (inl at)) = absurd (never_4 s at)
silent_over s new old silent (inr (inr at)) = silent at

-- a run over a link does not end with a fault of its input
pub session_never_1 : (IsRun : Bool → List (List ℕ) → List ℕ → Type 0) (lines : List (List ℕ)) (s : Stop LineFault)
    (old new : Option (List ℕ)) → SessionEnds IsRun lines (Err s) old new → status_of s ≢ 1
session_never_1 IsRun lines stop.CannotRead old new ends at = ends
session_never_1 IsRun lines (stop.BadLine number fault) old new ends at = ends
session_never_1 IsRun lines stop.NoMemory old new ends at = cc at
session_never_1 IsRun lines stop.OutputRefused old new ends at = cc at

-- why a script is not read, by the exit status
pub unread_at_1 : (name : List ℕ) (known : Option (List ℕ)) (s : Stop LineFault) (had has : Option (List ℕ))
    → UnreadEnds known s → (status_of s ≢ 5 → AppendsSome had has (stop_line line_fault_words name s ++ codes "\n")) → status_of s ≡ 1
    → SaysFault name known had has
unread_at_1 name known stop.CannotRead had has ends said at =
    inl (said (λ five. cc five))
unread_at_1 name None (stop.BadLine number fault) had has ends said at = inr tt
unread_at_1 name (Some script) (stop.BadLine number fault) had has ends said at =
    inr (number, fault, ends, said (λ five. cc five))
unread_at_1 name known stop.NoMemory had has ends said at = absurd (cc at)
unread_at_1 name known stop.OutputRefused had has ends said at = absurd ends

pub unread_status : (known : Option (List ℕ)) (s : Stop LineFault) → UnreadEnds known s → status_of s ≢ 5
unread_status known stop.CannotRead ends at = cc at
unread_status known (stop.BadLine number fault) ends at = cc at
unread_status known stop.NoMemory ends at = cc at
unread_status known stop.OutputRefused ends at = ends

pub reading_unread : (known : Option (List ℕ)) (s : Stop LineFault) → ReadingEnds s
    → UnreadEnds known s
reading_unread known stop.CannotRead ends = ends
reading_unread known stop.NoMemory ends = tt
reading_unread known (stop.BadLine number fault) ends = absurd ends
reading_unread known stop.OutputRefused ends = absurd ends

pub judging_unread : (known : Option (List ℕ)) (script : List ℕ) (s : Stop LineFault)
    → IfSome known (λ bytes. script ≡ bytes) → JudgingEnds script s → UnreadEnds known s
judging_unread None script (stop.BadLine number fault) is ends = tt
judging_unread (Some bytes) script (stop.BadLine number fault) is ends =
    subst (λ (l : List ℕ). FirstFaultIs l number fault) is ends
judging_unread known script stop.NoMemory is ends = tt
judging_unread known script stop.CannotRead is ends = absurd ends
judging_unread known script stop.OutputRefused is ends = absurd ends
