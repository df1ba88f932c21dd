-- The runs of lines that a source gives one at a time.
use Rattle.std.proofs.Common.{◌≡◌, ◌≤◌, ◌+◌, ◌⊎◌, ℕ, Bool, false, List, [], ◌∷◌, ◌++◌, length, arith, inl, inr, refl, sym, ap, subst, ◌∙◌, append-nil, append_assoc, length-append, lit≤}
use Rattle.std.specs.Prelude.{Contains, IfErr, Option, Result, Ok, Err, codes}
use Rattle.std.specs.Io.KnownBytes.{Keeps as KeepsContents}
use Rattle.fuse_device.specs.Transfers.{Transfer}
use Rattle.fk_drive.specs.Driving.{Driven, DrivesOver, first_driven}
use Rattle.fuse_text.specs.Outputs.{AppendsSome}
use Rattle.fuse_text.specs.Nodes.{nodes_text}
use Rattle.fk_lookup_count.specs.CountedNodes.{listed_counts}
use Rattle.fw_drive.specs.DriveLines.{IsOfCalls}
use Rattle.fw_drive.specs.Findings.{Told, end_status, is_any_wrong}
use Rattle.fw_drive.specs.Notes.{Note, notes_text}
use Rattle.fw_drive.specs.Printed.{Gets}
use Rattle.fw_drive.specs.Judging.{Say, no_more, passed_over, says}
use Rattle.fw_drive.specs.LineMoves.{FirstThen, IsMoveOf, LinesMove, MayFollow, Perhaps, all_lines, mount_lines, no_line}
use Rattle.fw_drive.specs.Moves.{Move}
use Rattle.fw_drive.specs.Runs.{Goes, IsOwnStop, IsUnprinted}
use Rattle.fw_drive.specs.Sources.{AllButLastMove, EndsRun, Gave, Ran, RanUpTo, RunsAll, RunsFrom, RunsGiven, RunsSource, RunsToEnd}
use Rattle.fw_drive.specs.declared.fault.Unanswered.{Unanswered}
use Rattle.fw_drive.specs.declared.form.Form.{Form}
use Rattle.fw_drive.specs.declared.form.Form.TheVariants as form
use Rattle.fw_drive.specs.declared.halt.Halt.{Halt}
use Rattle.fw_drive.specs.declared.halt.Halt.TheVariants as halts
use Rattle.fw_drive.specs.declared.line.DriveLine.{DriveLine}
use Rattle.fw_drive.specs.declared.line.DriveLine.TheVariants as line
use Rattle.fw_drive.specs.declared.source.NoLine.TheVariants as no_lines
use Rattle.fw_drive.specs.declared.stop.Stop.{Stop}
use Rattle.fw_drive.specs.declared.stop.Stop.TheVariants as stops
use Rattle.fw_drive.proofs.Following.{failed, goes_drive, kept_before, none_goes, none_went, shows_nodes, then, weaker}
use Rattle.fw_drive.proofs.LineRuns.{lines_on, mounts_not, note_follows, one_line, perhaps}
use Rattle.fw_drive.proofs.Texts.{all_said}
use Rattle.fw_drive.proofs.StopStatuses.{among_all, never_0, or_6, stop_among}

-- ---- what lines say

pub say_on : (f : Form) (a b : List (List ℕ)) (s t : List DriveLine) → Say f a s → Say f b t → Say f (a ++ b) (s ++ t)
say_on f a _ s _ one no_more =
    subst (λ (l : List (List ℕ)). Say f l (s ++ [])) (sym (append-nil a))
    (subst (λ (l : List DriveLine). Say f a l) (sym (append-nil s)) one)
say_on f a _ s t one (passed_over lines said two line is) =
    subst (λ (l : List (List ℕ)). Say f l (s ++ said)) (append_assoc a lines (line ∷ []))
    (passed_over (a ++ lines) (s ++ said) (say_on f a lines s said one two) line is)
say_on f a _ s _ one (says lines said two line l is) =
    subst (λ (k : List (List ℕ)). Say f k (s ++ (said ++ l ∷ []))) (append_assoc a lines (line ∷ []))
    (subst (λ (k : List DriveLine). Say f ((a ++ lines) ++ line ∷ []) k) (append_assoc s said (l ∷ []))
    (says (a ++ lines) (s ++ said) (say_on f a lines s said one two) line l is))

-- ---- all lines but the last

pub all_moved : {A : Type 0} (f : Form) (said : List DriveLine) (m : List (Move A)) → LinesMove f said m → AllButLastMove f said m
all_moved f said m are = (said, [], sym (append-nil said), lit≤ tt, are)

pub last_failed : {A : Type 0} (f : Form) (line : DriveLine) (m : List (Move A))
    → (m ≡ []) ⊎ FirstThen (IsMoveOf line) (MayFollow f) m → AllButLastMove f (line ∷ []) m
last_failed {A = A} f line m (inl none) =
    ([], line ∷ [], refl, lit≤ tt, subst (λ (k : List (Move A)). LinesMove f [] k) (sym none) no_line)
last_failed f line m (inr are) = all_moved f (line ∷ []) m (one_line f line m are)

pub then_last : {A : Type 0} (f : Form) (a b : List DriveLine) (m n : List (Move A)) → LinesMove f a m → AllButLastMove f b n
    → AllButLastMove f (a ++ b) (m ++ n)
then_last f a b m n one (done, rest, is, short, two) = (
  a ++ done,
  rest,
  ap (λ (l : List DriveLine). a ++ l) is ∙ sym (append_assoc a done rest),
  short,
  lines_on f a done m n one two,
)

-- ---- what a source gave

module _ {S : Type 0} (gives : S → S → List (List ℕ) → Type 0) where
  pub gave : {T : Type 0} (r : Result T Halt) (old new : S) (lines : List (List ℕ)) → gives old new lines
      → Gave gives r old new lines
  gave (Ok x) old new lines given = given
  gave (Err (halts.BadLine number fault)) old new lines given = given
  gave (Err (halts.NoLine why)) old new lines given = (new, given)
  gave (Err (halts.Stopped stop)) old new lines given = given

  pub gave_then : (goes_on : (first mid last : S) (a b : List (List ℕ)) → gives first mid a → gives mid last b
      → gives first last (a ++ b)) (T U : Type 0) (halt : Halt) (old mid new : S) (a b : List (List ℕ)) → gives old mid a
      → Gave {T = T} gives (Err halt) mid new b → Gave {T = U} gives (Err halt) old new (a ++ b)
  gave_then goes_on T U (halts.BadLine number fault) old mid new a b one two = goes_on old mid new a b one two
  gave_then goes_on T U (halts.NoLine why) old mid new a b one (last, two) = (last, goes_on old mid last a b one two)
  gave_then goes_on T U (halts.Stopped stop) old mid new a b one two = goes_on old mid new a b one two

-- ---- runs

module _ (A : Type 0) {D : Type 0} (logs : D → D → List Transfer → Type 0) (f : Form) where
  -- a line was run
  pub ran_line : (d e : D) (had has : Told) (old new : Driven) (l : DriveLine)
      → (let r : Result (Unit {0}) Stop = Ok tt in Goes A logs f d e had has old new r (FirstThen (IsMoveOf l) (MayFollow f)))
      → Ran A logs f d e had has old new (l ∷ [])
  ran_line d e had has old new l goes =
      let r : Result (Unit {0}) Stop = Ok tt in
      weaker A logs f d e had has old new r (FirstThen (IsMoveOf l) (MayFollow f)) (LinesMove f (l ∷ [])) goes
      (one_line f l)

  -- it came to its end there
  pub stopped_at : (d e : D) (had has : Told) (old new : Driven) (stop : Stop) (l : DriveLine)
      → (let r : Result (Unit {0}) Stop = Err stop in
      Goes A logs f d e had has old new r (Perhaps r (FirstThen (IsMoveOf l) (MayFollow f))))
      → RanUpTo A logs f d e had has old new stop (l ∷ [])
  stopped_at d e had has old new stop l goes =
      let r : Result (Unit {0}) Stop = Err stop in
      weaker A logs f d e had has old new r (Perhaps r (FirstThen (IsMoveOf l) (MayFollow f)))
      (AllButLastMove f (l ∷ [])) goes (last_failed f l)

  -- the result says no more than why lines are run no more
  pub given_err : (T U : Type 0) (halt : Halt) (d e : D) (had has : Told) (old new : Driven)
      (first : List DriveLine) (next : ℕ) (lines : List (List ℕ))
      → RunsGiven A {T = T} logs f d e had has old new first next (Err halt) lines
      → RunsGiven A {T = U} logs f d e had has old new first next (Err halt) lines
  given_err T U (halts.BadLine number fault) d e had has old new first next lines runs = runs
  given_err T U (halts.NoLine why) d e had has old new first next lines runs = runs
  given_err T U (halts.Stopped stop) d e had has old new first next lines runs = runs

  -- what was printed before was handed on first
  pub runs_kept : {T : Type 0} (r : Result T Halt) (d e : D) (had mid : Option (List ℕ)) (told : Bool) (has : Told)
      (old new : Driven) (first : List DriveLine) (next : ℕ) (lines : List (List ℕ)) → KeepsContents had mid
      → RunsGiven A logs f d e (mid, told) has old new first next r lines
      → RunsGiven A logs f d e (had, told) has old new first next r lines
  runs_kept (Ok x) d e had mid told has old new first next lines keeps (said, say, ran) =
      let q : Result (Unit {0}) Stop = Ok tt in
      (said, say, kept_before A logs f d e had mid told has old new q (LinesMove f (first ++ said)) keeps ran)
  runs_kept (Err (halts.BadLine number fault)) d e had mid told has old new first next lines keeps (good, bad, is, numbered, faulty, (said, say, ran)) =
      let q : Result (Unit {0}) Stop = Ok tt in
      (good, bad, is, numbered, faulty, (said, say, kept_before A logs f d e had mid told has old new q (LinesMove f (first ++ said)) keeps ran))
  runs_kept (Err (halts.NoLine why)) d e had mid told has old new first next lines keeps (said, say, ran) =
      let q : Result (Unit {0}) Stop = Ok tt in
      (said, say, kept_before A logs f d e had mid told has old new q (LinesMove f (first ++ said)) keeps ran)
  runs_kept (Err (halts.Stopped stop)) d e had mid told has old new first next lines keeps (said, say, ran) =
      let q : Result (Unit {0}) Stop = Err stop in
      (said, say, kept_before A logs f d e had mid told has old new q (AllButLastMove f (first ++ said)) keeps ran)

module _ (A : Type 0) {D : Type 0} (logs : D → D → List Transfer → Type 0)
    (goes_on : (first mid last : D) (h k : List Transfer) → logs first mid h → logs mid last k → logs first last (h ++ k))
    (f : Form) where
  -- lines were run, and then others
  pub ran_then : (d e g : D) (had got has : Told) (old mid new : Driven) (a b : List DriveLine)
      → Ran A logs f d e had got old mid a → Ran A logs f e g got has mid new b → Ran A logs f d g had has old new (a ++ b)
  ran_then d e g had got has old mid new a b one two =
      let r : Result (Unit {0}) Stop = Ok tt in
      then A logs goes_on f d e g had got has old mid new tt r (LinesMove f a) (LinesMove f b) (LinesMove f (a ++ b)) one two
      (lines_on f a b)

  pub ran_up_to : (d e g : D) (had got has : Told) (old mid new : Driven) (stop : Stop) (a b : List DriveLine)
      → Ran A logs f d e had got old mid a → RanUpTo A logs f e g got has mid new stop b
      → RanUpTo A logs f d g had has old new stop (a ++ b)
  ran_up_to d e g had got has old mid new stop a b one two =
      let r : Result (Unit {0}) Stop = Err stop in
      then A logs goes_on f d e g had got has old mid new tt r (LinesMove f a) (AllButLastMove f b)
      (AllButLastMove f (a ++ b)) one two (then_last f a b)

  -- some lines were run, and then others were given
  pub runs_then : {T : Type 0} (r : Result T Halt) (d e g : D) (had got has : Told) (old mid new : Driven)
      (first s : List DriveLine) (next from : ℕ) (a b : List (List ℕ)) → next ≡ from + length a → Say f a s
      → Ran A logs f d e had got old mid (first ++ s) → RunsGiven A logs f e g got has mid new [] next r b
      → RunsGiven A logs f d g had has old new first from r (a ++ b)
  runs_then (Ok x) d e g had got has old mid new first s next from a b counts say one (t, said, two) = (
    s ++ t,
    say_on f a b s t say said,
    subst (λ (l : List DriveLine). Ran A logs f d g had has old new l) (append_assoc first s t)
        (ran_then d e g had got has old mid new (first ++ s) t one two),
  )
  runs_then (Err (halts.BadLine number fault)) d e g had got has old mid new first s next from a b counts say one (good, bad, is, numbered, faulty, (t, said, two)) = (
    a ++ good,
    bad,
    ap (λ (l : List (List ℕ)). a ++ l) is ∙ sym (append_assoc a good (bad ∷ [])),
    (let size = length-append a good in omega (arith, counts, numbered, size)),
    faulty,
    (
      s ++ t,
      say_on f a good s t say said,
      subst (λ (l : List DriveLine). Ran A logs f d g had has old new l) (append_assoc first s t)
          (ran_then d e g had got has old mid new (first ++ s) t one two),
    ),
  )
  runs_then (Err (halts.NoLine why)) d e g had got has old mid new first s next from a b counts say one (t, said, two) = (
    s ++ t,
    say_on f a b s t say said,
    subst (λ (l : List DriveLine). Ran A logs f d g had has old new l) (append_assoc first s t)
        (ran_then d e g had got has old mid new (first ++ s) t one two),
  )
  runs_then (Err (halts.Stopped stop)) d e g had got has old mid new first s next from a b counts say one (t, said, two) = (
    s ++ t,
    say_on f a b s t say said,
    subst (λ (l : List DriveLine). RanUpTo A logs f d g had has old new stop l) (append_assoc first s t)
        (ran_up_to d e g had got has old mid new stop (first ++ s) t one two),
  )

-- ---- the end of a run

module _ (A : Type 0) {D : Type 0} (logs : D → D → List Transfer → Type 0) (f : Form) where
  pub not_shown : (halt : Halt) (d e : D) (had has : Told) (old new : Driven) (lines : List (List ℕ))
      → (let r : Result (Unit {0}) Halt = Err halt in RunsGiven A logs f d e had has old new (mount_lines f) 1 r lines)
      → RunsToEnd A logs f d e had has old new (Err halt) lines
  not_shown (halts.BadLine number fault) d e had has old new lines runs = runs
  not_shown (halts.NoLine why) d e had has old new lines runs = runs
  not_shown (halts.Stopped stop) d e had has old new lines (said, say, ran) = (said, mount_lines f ++ said, say, inl refl, ran)

  all_drive : (r : Result (Unit {0}) Halt) (d e : D) (had has : Told) (asks : Bool) (last : Driven)
      (lines : List (List ℕ)) → RunsToEnd A logs f d e had has (first_driven asks) last r lines
      → (new : Driven) × DrivesOver logs d e (first_driven asks) new
  all_drive (Ok x) d e had has asks last lines (said, say, ran) =
      let r : Result (Unit {0}) Stop = Ok tt in
      goes_drive A logs f d e had has (first_driven asks) last r _ refl refl ran
  all_drive (Err (halts.BadLine number fault)) d e had has asks last lines (good, bad, is, numbered, faulty, (said, say, ran)) =
      let r : Result (Unit {0}) Stop = Ok tt in
      goes_drive A logs f d e had has (first_driven asks) last r _ refl refl ran
  all_drive (Err (halts.NoLine why)) d e had has asks last lines (said, say, ran) =
      let r : Result (Unit {0}) Stop = Ok tt in
      goes_drive A logs f d e had has (first_driven asks) last r _ refl refl ran
  all_drive (Err (halts.Stopped stop)) d e had has asks last lines (said, upto, say, which, ran) =
      let r : Result (Unit {0}) Stop = Err stop in
      goes_drive A logs f d e had has (first_driven asks) last r _ refl refl ran

  pub runs_drive : {S : Type 0} (gives : S → S → List (List ℕ) → Type 0) (is_over : S → Type 0)
      (r : Result (Unit {0}) Halt) (d e : D) (s t : S) (had has : Told) (asks : Bool) (last : Driven)
      → RunsAll A logs gives is_over f d e s t had has (first_driven asks) last r
      → (new : Driven) × DrivesOver logs d e (first_driven asks) new
  runs_drive gives is_over r d e s t had has asks last runs = all_drive r d e had has asks last runs.lines runs.runs

-- ---- statuses

pub halt_among : (A : Type 0) (waits : Option Unanswered) (name : List ℕ) (is_report_only : Bool) (moves : List (Move A)) (halt : Halt) (s : ℕ)
    (had has fault_had fault_has : Option (List ℕ))
    → EndsRun A waits name is_report_only moves (Err halt) s had has fault_had fault_has → Contains (0 ∷ 1 ∷ 3 ∷ 4 ∷ 5 ∷ 6 ∷ []) s
halt_among A waits name only moves (halts.BadLine number fault) s had has fault_had fault_has (is, same, said) = (1, omega arith, sym is)
halt_among A waits name only moves (halts.NoLine no_lines.CannotRead) s had has fault_had fault_has (is, same, said) = (1, omega arith, sym is)
halt_among A waits name only moves (halts.NoLine no_lines.NoMemory) s had has fault_had fault_has (is, same, said) = (2, omega arith, sym is)
halt_among A waits name only moves (halts.NoLine no_lines.OutputRefused) s had has fault_had fault_has (is, same, said) = (4, omega arith, sym is)
halt_among A waits name only moves (halts.NoLine (no_lines.Refused refusal)) s had has fault_had fault_has (is, written, memory, rest) =
    among_all s (stop_among (stops.Refused refusal) s is)
halt_among A waits name only moves (halts.Stopped stop) s had has fault_had fault_has (is, written, memory, rest) = among_all s (stop_among stop s is)

pub halt_at_3 : (A : Type 0) (waits : Option Unanswered) (name : List ℕ) (is_report_only : Bool) (moves : List (Move A)) (halt : Halt) (s : ℕ)
    (had has fault_had fault_has : Option (List ℕ))
    → EndsRun A waits name is_report_only moves (Err halt) s had has fault_had fault_has → s ≡ 3 → AppendsSome fault_had fault_has (codes "no memory\n")
halt_at_3 A waits name only moves (halts.BadLine number fault) s had has fault_had fault_has (is, same, said) three = absurd (omega (arith, is, three))
halt_at_3 A waits name only moves (halts.NoLine no_lines.CannotRead) s had has fault_had fault_has (is, same, said) three = absurd (omega (arith, is, three))
halt_at_3 A waits name only moves (halts.NoLine no_lines.NoMemory) s had has fault_had fault_has (is, same, said) three = said
halt_at_3 A waits name only moves (halts.NoLine no_lines.OutputRefused) s had has fault_had fault_has (is, same, said) three = absurd (omega (arith, is, three))
halt_at_3 A waits name only moves (halts.NoLine (no_lines.Refused refusal)) s had has fault_had fault_has (is, written, memory, rest) three = memory three
halt_at_3 A waits name only moves (halts.Stopped stop) s had has fault_had fault_has (is, written, memory, rest) three = memory three

pub halt_quiet : (A : Type 0) (waits : Option Unanswered) (name : List ℕ) (is_report_only : Bool) (moves : List (Move A)) (halt : Halt) (s : ℕ)
    (had has fault_had fault_has : Option (List ℕ))
    → EndsRun A waits name is_report_only moves (Err halt) s had has fault_had fault_has → (s ≡ 0) ⊎ (s ≡ 4) ⊎ (s ≡ 5) ⊎ (s ≡ 6) → fault_has ≡ fault_had
halt_quiet A waits name only moves (halts.BadLine number fault) s had has fault_had fault_has (is, same, said) (inl h) = absurd (omega (arith, is, h))
halt_quiet A waits name only moves (halts.BadLine number fault) s had has fault_had fault_has (is, same, said) (inr (inl h)) = absurd (omega (arith, is, h))
halt_quiet A waits name only moves (halts.BadLine number fault) s had has fault_had fault_has (is, same, said) (inr (inr (inl h))) = absurd (omega (arith, is, h))
halt_quiet A waits name only moves (halts.BadLine number fault) s had has fault_had fault_has (is, same, said) (inr (inr (inr h))) = absurd (omega (arith, is, h))
halt_quiet A waits name only moves (halts.NoLine no_lines.CannotRead) s had has fault_had fault_has (is, same, said) (inl h) = absurd (omega (arith, is, h))
halt_quiet A waits name only moves (halts.NoLine no_lines.CannotRead) s had has fault_had fault_has (is, same, said) (inr (inl h)) = absurd (omega (arith, is, h))
halt_quiet A waits name only moves (halts.NoLine no_lines.CannotRead) s had has fault_had fault_has (is, same, said) (inr (inr (inl h))) = absurd (omega (arith, is, h))
halt_quiet A waits name only moves (halts.NoLine no_lines.CannotRead) s had has fault_had fault_has (is, same, said) (inr (inr (inr h))) = absurd (omega (arith, is, h))
halt_quiet A waits name only moves (halts.NoLine no_lines.NoMemory) s had has fault_had fault_has (is, same, said) (inl h) = absurd (omega (arith, is, h))
halt_quiet A waits name only moves (halts.NoLine no_lines.NoMemory) s had has fault_had fault_has (is, same, said) (inr (inl h)) = absurd (omega (arith, is, h))
halt_quiet A waits name only moves (halts.NoLine no_lines.NoMemory) s had has fault_had fault_has (is, same, said) (inr (inr (inl h))) = absurd (omega (arith, is, h))
halt_quiet A waits name only moves (halts.NoLine no_lines.NoMemory) s had has fault_had fault_has (is, same, said) (inr (inr (inr h))) = absurd (omega (arith, is, h))
halt_quiet A waits name only moves (halts.NoLine no_lines.OutputRefused) s had has fault_had fault_has (is, same, said) run = said
halt_quiet A waits name only moves (halts.NoLine (no_lines.Refused refusal)) s had has fault_had fault_has (is, written, memory, rest) (inl none) =
    absurd (never_0 s (stop_among (stops.Refused refusal) s is) none)
halt_quiet A waits name only moves (halts.NoLine (no_lines.Refused refusal)) s had has fault_had fault_has (is, written, memory, rest) (inr run) =
    rest (or_6 s (stop_among (stops.Refused refusal) s is) run)
halt_quiet A waits name only moves (halts.Stopped stop) s had has fault_had fault_has (is, written, memory, rest) (inl none) = absurd (never_0 s (stop_among stop s is) none)
halt_quiet A waits name only moves (halts.Stopped stop) s had has fault_had fault_has (is, written, memory, rest) (inr run) =
    rest (or_6 s (stop_among stop s is) run)

-- ---- the parts of a run

mounts_short : (f : Form) → length (mount_lines f ++ []) ≤ 1
mounts_short form.Events = lit≤ tt
mounts_short form.Calls = lit≤ tt
mounts_short form.CallsBeside = lit≤ tt

-- the nodes were printed, and nothing wrong was said
abbrev pub Shows : (A : Type 0) {T : Type 0} → (had has : Option (List ℕ)) → Driven → Result T Stop → Type 0
Shows A had has driver r = (said : List (Note A))
    × Gets r had has (nodes_text (codes "kernel") (listed_counts driver.kernel.nodes) ++ notes_text said)
    × (is_any_wrong said ≡ false)

module _ (A : Type 0) {D : Type 0} (logs : D → D → List Transfer → Type 0) (f : Form) where
  -- no line was given
  pub none_given : (stays : (d : D) → logs d d []) (d : D) (had has : Option (List ℕ)) (told : Bool) (driver : Driven)
      → KeepsContents had has
      → (said : List DriveLine) × Say f [] said × Ran A logs f d d (had, told) (has, told) driver driver said
  none_given stays d had has told driver keeps =
      let r : Result (Unit {0}) Stop = Ok tt in (
        [],
        no_more,
        kept_before A logs f d d had has told (has, told) driver driver r (LinesMove f []) keeps
            (none_went A logs stays f d (has, told) driver (LinesMove f []) no_line),
      )

  -- there is no mount
  pub none_mounted : (stays : (d : D) → logs d d []) → (IsOfCalls f → ⊥) → (d : D) (had : Told)
      (driver : Driven) → Ran A logs f d d had had driver driver (mount_lines f)
  none_mounted stays never d had driver =
      subst (λ (l : List DriveLine). Ran A logs f d d had had driver driver l) (sym (mounts_not f never))
      (none_went A logs stays f d had driver (LinesMove f []) no_line)

  -- the nodes were shown, or could not be
  shown : (stays : (d : D) → logs d d []) (d : D) (had has : Option (List ℕ)) (told : Bool) (driver : Driven)
      (r : Result (Unit {0}) Stop) → IfErr r IsUnprinted → Shows A had has driver r
      → Goes A logs f d d (had, told) (has, told) driver driver r (FirstThen (IsMoveOf line.Show) (MayFollow f))
  shown stays d had has told driver r own (said, printed, right) =
      shows_nodes A logs stays f d had has told driver r own (MayFollow f) said
      (all_said (MayFollow f) (note_follows f) said) printed right

module _ (A : Type 0) {D : Type 0} (logs : D → D → List Transfer → Type 0)
    (goes_on : (first mid last : D) (h k : List Transfer) → logs first mid h → logs mid last k → logs first last (h ++ k))
    (f : Form) {S : Type 0} (gives : S → S → List (List ℕ) → Type 0) (is_over : S → Type 0) where
  -- behind the mount lines were given
  pub mounted_runs : (r : Result (Unit {0}) Halt) (d e h : D) (s t : S) (had got has : Told) (old mid new : Driven)
      → Ran A logs f d e had got old mid (mount_lines f) → RunsFrom A logs gives is_over f e h s t got has mid new [] 1 r
      → RunsFrom A logs gives is_over f d h s t had has old new (mount_lines f) 1 r
  mounted_runs r d e h s t had got has old mid new one two = record {
    lines = two.lines;
    gave = two.gave;
    over = two.over;
    runs =
        runs_then A logs goes_on f r d e h had got has old mid new (mount_lines f) [] 1 1 [] two.lines (omega arith) no_more
        (subst (λ (l : List DriveLine). Ran A logs f d e had got old mid l) (sym (append-nil (mount_lines f))) one) two.runs;
  }

  -- and then the nodes were shown
  pub all_ran : (stays : (d : D) → logs d d []) (d e : D) (s t : S) (had : Told) (got has : Option (List ℕ)) (told : Bool)
      (old new : Driven)
      → (let r : Result (Unit {0}) Halt = Ok tt in
      RunsFrom A logs gives is_over f d e s t had (got, told) old new (mount_lines f) 1 r)
      → (let q : Result (Unit {0}) Stop = Ok tt in Shows A got has new q)
      → RunsAll A logs gives is_over f d e s t had (has, told) old new (Ok tt)
  all_ran stays d e s t had got has told old new runs printed =
      let (said, say, ran) = runs.runs in
      let q : Result (Unit {0}) Stop = Ok tt in record {
        lines = runs.lines;
        gave = runs.gave;
        over = runs.over;
        runs = (
          said,
          say,
          ran_then A logs goes_on f d e e had (got, told) (has, told) old new new (mount_lines f ++ said) (line.Show ∷ []) ran
              (ran_line A logs f e e (got, told) (has, told) new new line.Show
              (shown A logs f stays e got has told new q tt printed)),
        );
      }

  pub end_failed : (stays : (d : D) → logs d d []) (d e : D) (s t : S) (had : Told) (got has : Option (List ℕ))
      (told : Bool) (old new : Driven) (stop : Stop) → IsUnprinted stop
      → (let r : Result (Unit {0}) Halt = Ok tt in
      RunsFrom A logs gives is_over f d e s t had (got, told) old new (mount_lines f) 1 r)
      → (let q : Result (Unit {0}) Stop = Err stop in Shows A got has new q)
      → RunsAll A logs gives is_over f d e s t had (has, told) old new (Err (halts.Stopped stop))
  end_failed stays d e s t had got has told old new stop own runs printed =
      let (said, say, ran) = runs.runs in
      let q : Result (Unit {0}) Stop = Err stop in
      let Are = FirstThen (IsMoveOf line.Show) (MayFollow f) in record {
        lines = runs.lines;
        gave = runs.gave;
        over = tt;
        runs = (
          said,
          all_lines f said,
          say,
          inr refl,
          ran_up_to A logs goes_on f d e e had (got, told) (has, told) old new new stop (mount_lines f ++ said)
              (line.Show ∷ []) ran
              (stopped_at A logs f e e (got, told) (has, told) new new stop line.Show
              (weaker A logs f e e (got, told) (has, told) new new q Are (Perhaps q Are)
              (shown A logs f stays e got has told new q own printed) (perhaps q Are))),
        );
      }

module _ (A : Type 0) {D : Type 0} (logs : D → D → List Transfer → Type 0) (f : Form) {S : Type 0}
    (gives : S → S → List (List ℕ) → Type 0) (is_over : S → Type 0) where
  -- the mount failed
  pub unmounted_runs : (stays : (s : S) → gives s s []) (d e : D) (s : S) (had has : Told) (old new : Driven)
      (stop : Stop)
      → (let q : Result (Unit {0}) Stop = Err stop in Goes A logs f d e had has old new q (LinesMove f (mount_lines f)))
      → (let r : Result (Unit {0}) Halt = Err (halts.Stopped stop) in
      RunsFrom A logs gives is_over f d e s s had has old new (mount_lines f) 1 r)
  unmounted_runs stays d e s had has old new stop goes = record {
    lines = [];
    gave = stays s;
    over = tt;
    runs = (
      [],
      no_more,
      failed A logs f d e had has old new stop (LinesMove f (mount_lines f)) (AllButLastMove f (mount_lines f ++ [])) goes
          (λ m are. all_moved f (mount_lines f ++ []) m
          (subst (λ (l : List DriveLine). LinesMove f l m) (sym (append-nil (mount_lines f))) are)),
    );
  }

  -- lines were run, and no more
  pub not_ended : (d e : D) (s t : S) (had has : Told) (old new : Driven) (halt : Halt)
      → (let r : Result (Unit {0}) Halt = Err halt in RunsFrom A logs gives is_over f d e s t had has old new (mount_lines f) 1 r)
      → RunsAll A logs gives is_over f d e s t had has old new (Err halt)
  not_ended d e s t had has old new halt runs = record {
    lines = runs.lines;
    gave = runs.gave;
    over = tt;
    runs = not_shown A logs f halt d e had has old new runs.lines runs.runs;
  }

  -- nothing was done
  pub never_begun : (stays : (d : D) → logs d d []) (keeps : (s : S) → gives s s []) (d : D) (s : S) (had : Told)
      (driver : Driven) (stop : Stop) → IsOwnStop stop
      → RunsAll A logs gives is_over f d d s s had had driver driver (Err (halts.Stopped stop))
  never_begun stays keeps d s had driver stop own =
      let q : Result (Unit {0}) Stop = Err stop in record {
        lines = [];
        gave = keeps s;
        over = tt;
        runs = (
          [],
          mount_lines f ++ [],
          no_more,
          inl refl,
          none_goes A logs stays f d had driver q own (AllButLastMove f (mount_lines f ++ []))
              ([], mount_lines f ++ [], refl, mounts_short f, no_line),
        );
      }

-- ---- the whole run

module _ (A : Type 0) {D : Type 0} (logs : D → D → List Transfer → Type 0) (f : Form) {S : Type 0}
    (gives : S → S → List (List ℕ) → Type 0) (is_over : S → Type 0) (name : List ℕ) (asks is_report_only : Bool) (d e : D)
    (s t : S) (had : Option (List ℕ)) (got : Told) (has fault_had fault_has : Option (List ℕ)) (status : ℕ) where
  -- the source came to its end
  pub source_ended : (r : Result (Unit {0}) Halt) → r ≡ Ok tt
      → (last : Driven) × RunsAll A logs gives is_over f d e s t (had, false) got (first_driven asks) last r
      → Option Unanswered → status ≡ end_status is_report_only got.1 → has ≡ got.0 → fault_has ≡ fault_had
      → RunsSource A logs gives is_over f name asks is_report_only d e s t had has fault_had fault_has status
  source_ended r is (last, runs) waits at_end same quiet =
      let ended : Result (Unit {0}) Halt = Ok tt in
      let all : RunsAll A logs gives is_over f d e s t (had, false) got (first_driven asks) last ended =
      subst (λ (q : Result (Unit {0}) Halt). RunsAll A logs gives is_over f d e s t (had, false) got (first_driven asks) last q)
      is runs in
      let (said, say, ran) = all.runs in record {
        ended = ended;
        last = last;
        got = got;
        all = all;
        waits = waits;
        ends = (at_end ∙ ap (λ (told : Bool). end_status is_report_only told) ran.told, same, quiet);
      }

  -- it did not
  pub source_halted : (r : Result (Unit {0}) Halt) (halt : Halt) → r ≡ Err halt
      → (last : Driven) × RunsAll A logs gives is_over f d e s t (had, false) got (first_driven asks) last r
      → (waits : Option Unanswered)
      → ((only : Bool) (moves : List (Move A)) → EndsRun A waits name only moves (Err halt) status got.0 has fault_had fault_has)
      → RunsSource A logs gives is_over f name asks is_report_only d e s t had has fault_had fault_has status
  source_halted r halt is (last, runs) waits ends =
      let ended : Result (Unit {0}) Halt = Err halt in record {
        ended = ended;
        last = last;
        got = got;
        all =
            subst (λ (q : Result (Unit {0}) Halt). RunsAll A logs gives is_over f d e s t (had, false) got (first_driven asks) last q)
            is runs;
        waits = waits;
        ends = ends is_report_only [];
      }
