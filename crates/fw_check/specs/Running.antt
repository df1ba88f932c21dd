-- How a check goes on, line by line.
use Rattle.std.specs.Prelude.{◌≡◌, ◌+◌, ◌⊎◌, ◌++◌, ◌∷◌, [], ℕ, List, Bool, true, false, Option, Some, None, Result, Ok, Err, length, sum_by}
use Rattle.std.specs.Io.KnownBytes.{Appends}
use Rattle.fuse_sessions.specs.declared.act.Act.{Act}
use Rattle.fuse_sessions.specs.declared.fault.Fault.{Fault}
use Rattle.fuse_sessions.specs.declared.fault.Party.TheVariants as party
use Rattle.fuse_sessions.specs.declared.known.Known.{Known}
use Rattle.fuse_sessions.specs.declared.transfer.Transfer.{Transfer}
use Rattle.fuse_sessions.specs.Frames.{AreActs}
use Rattle.fuse_sessions.specs.Sessions.{Session}
use Rattle.fuse_judge.specs.Transfers.{HasSeenFrom, SessionState}
use Rattle.joined_judge.specs.Judging.{AreFaultsAs}
use Rattle.name_sessions.specs.NameFrames.{AreNamesAfter}
use Rattle.name_sessions.specs.NameSessions.{NameSession}
use Rattle.name_judge.specs.Judged.{HasSeen}
use Rattle.fuse_capture.specs.declared.line.CaptureFault.{CaptureFault}
use Rattle.fuse_capture.specs.declared.line.CaptureLine.{CaptureLine}
use Rattle.fuse_capture.specs.Lines.{LineFaultIs}
use Rattle.fuse_capture.specs.Readings.{IsTransferOf}
use Rattle.fw_check.specs.declared.counts.Counts.{Counts}
use Rattle.fw_check.specs.declared.options.CheckForm.{CheckForm}
use Rattle.fw_check.specs.declared.options.CheckOptions.{CheckOptions}
use Rattle.fw_check.specs.declared.file_key.FileKey.{FileKey}
use Rattle.fw_check.specs.declared.life.Doer.{Doer}
use Rattle.fw_check.specs.declared.past.Trace.{Trace}
use Rattle.fw_check.specs.declared.remains.Remains.{Remains}
use Rattle.fw_check.specs.declared.seen.Seen.{Seen}
use Rattle.fuse_text.specs.declared.stop.Stop.{Stop}
use Rattle.fuse_text.specs.declared.stop.Stop.TheVariants as stop
use Rattle.fw_check.specs.Asked.{asked_verdicts}
use Rattle.fw_check.specs.Checks.{Judged, Checks, end_text, faults_of, number_of}
use Rattle.fuse_text.specs.Lines.{lines_of}
use Rattle.fw_check.specs.Forms.{closing_text, fault_text, transfer_lines}
use Rattle.fw_check.specs.Life.{doer_for}
use Rattle.fw_check.specs.Names.{with_names, with_removal}
use Rattle.fuse_text.specs.Outputs.{AppendsSome}
use Rattle.fw_check.specs.Past.{remembered, traces_of}
use Rattle.fw_check.specs.Standing.{Stands, remains_of}
use Rattle.fw_check.specs.Summary.{ExchangeState, after_asked, exchanges_of, line_time}
use Rattle.fw_check.specs.Tallies.{entries_of, forgotten_by, is_notification, is_refused, is_reply, is_request}

-- what is printed of a verdict, where it is a fault
abbrev pub verdict_text : CheckForm → (number : ℕ) → (past : List Trace) → Act → Option Fault → List ℕ
verdict_text form number past a (Some f) = fault_text form number past a f
verdict_text form number past a None = []

-- ---- one transfer more

-- The counts of what was judged.
pub record AreCounts (j : Judged) (c : Counts) : Type 0 where
  pub requests : c.requests ≡ number_of is_request j
  pub replies : c.replies ≡ number_of is_reply j
  pub notifications : c.notifications ≡ number_of is_notification j
  pub refused : c.refused ≡ number_of is_refused j
  pub entries : c.entries ≡ sum_by entries_of j.acts
  pub forgotten : c.forgotten ≡ sum_by forgotten_by j.acts
  pub kernel : c.kernel ≡ faults_of party.Kernel j
  pub server : c.server ≡ faults_of party.Server j
  pub device : c.device ≡ faults_of party.Device j
  pub warnings : c.warnings ≡ faults_of party.Nobody j

-- What contracts see of what was seen of a session: the judge, which name acts the judge of names has seen, what stands,
-- what the table is made of, and which traces are remembered.
pub record SeenState : Type 1 where
  pub session : SessionState
  pub names : NameSession → Type 0
  pub nodes : List (ℕ × ℕ)
  pub files : List (FileKey × ℕ)
  pub exchanges : ExchangeState
  pub past : List Trace

abbrev pub seen_by : {A : Type 0} → Seen A → SeenState
seen_by seen = record {
  session = seen.judge;
  names = λ n. HasSeen n seen.names;
  nodes = seen.standing.nodes.entries;
  files = seen.standing.files.entries;
  exchanges = exchanges_of seen.exchanges;
  past = seen.past.items;
}

-- The same, and these traces are remembered.
abbrev pub remembering : List Trace → SeenState → SeenState
remembering past w = record w { past = past }

-- What a check keeps is right of what was judged.
pub record IsKept (j : Judged) (w : SeenState) (c : Counts) : Type 0 where
  pub start : Known
  pub seen : HasSeenFrom start j.transfers j.acts w.session
  pub named : w.names j.names
  pub stands : Stands j.acts w.nodes w.files
  pub known : j.known ≡ w.session.known
  pub exchanges : j.exchanges ≡ w.exchanges
  pub past : w.past ≡ remembered j.past
  pub counts : AreCounts j c

-- The next transfer was seen: these are its acts, the verdict on each and the traces that they leave, and it is said
-- whether the kernel takes away a name that is missing.
pub record IsSeenSo (is_joined : Bool) (j : Judged) (number : ℕ) (t : Transfer) (acts : List Act)
    (verdicts : List (Option Fault)) (traces : List Trace) (is_missing : Bool) (w : SeenState) : Type 0 where
  pub start : Known
  pub names : NameSession
  pub are : AreActs j.known j.acts t acts w.session.known
  pub each : length verdicts ≡ length acts
  pub faults : AreFaultsAs is_joined j.acts acts verdicts
  pub removes : AreNamesAfter j.known j.names j.acts t acts names is_missing
  pub seen : HasSeenFrom start (j.transfers ++ t ∷ []) (j.acts ++ acts) w.session
  pub named : w.names names
  pub stands : Stands (j.acts ++ acts) w.nodes w.files
  pub exchanges : j.exchanges ≡ w.exchanges
  pub traced : traces ≡ traces_of number j.acts acts

-- what was judged, with one transfer more
abbrev pub judged_after : Judged → Transfer → List Act → NameSession → List (Option Fault) → Known → ExchangeState
    → (past : List Trace) → (text : List ℕ) → Judged
judged_after j t acts names verdicts known exchanges past text = record {
  transfers = j.transfers ++ t ∷ [];
  known = known;
  acts = j.acts ++ acts;
  names = names;
  verdicts = j.verdicts ++ verdicts;
  exchanges = exchanges;
  past = past;
  text = text;
}

-- The transfer that a line says was judged: these are its acts with a removal's behind them, and these their verdicts
-- without the faults that are not asked for.
pub record IsJudgedSo (o : CheckOptions) (j : Judged) (number : ℕ) (l : CaptureLine) (shown : List Act)
    (verdicts : List (Option Fault)) (judge : SeenState) (c : Counts) : Type 0 where
  pub transfer : Transfer
  pub acts : List Act
  pub all : List (Option Fault)
  pub names : NameSession
  pub is_missing : Bool
  pub is : IsTransferOf l transfer
  pub are : AreActs j.known j.acts transfer acts judge.session.known
  pub each : length all ≡ length acts
  pub faults : AreFaultsAs o.is_joined j.acts acts all
  pub removes : AreNamesAfter j.known j.names j.acts transfer acts names is_missing
  pub removal : shown ≡ with_removal is_missing acts
  pub asked : verdicts ≡ asked_verdicts o.only (with_names is_missing all)
  pub kept : (text : List ℕ) → IsKept (judged_after j transfer acts names verdicts judge.session.known
      (after_asked o.is_summary j.exchanges transfer (line_time l)) (j.past ++ traces_of number j.acts acts) text) judge c

-- The same, and whose its first acts are.
abbrev pub IsJudgedBy : CheckOptions → Judged → (number : ℕ) → CaptureLine → (shown : List Act) → List (Option Fault)
    → SeenState → Counts → Doer → Type 0
IsJudgedBy o j number l shown verdicts judge c who =
    (so : IsJudgedSo o j number l shown verdicts judge c) × (who ≡ doer_for o.node j.acts so.transfer)

-- The same, and what is printed of it.
abbrev pub IsJudgedAs : CheckOptions → Judged → (number : ℕ) → CaptureLine → (shown : List Act) → List (Option Fault) → SeenState → Counts
    → (text : List ℕ) → Type 0
IsJudgedAs o j number l shown verdicts judge c text = (so : IsJudgedSo o j number l shown verdicts judge c)
    × (text ≡ transfer_lines o number j.past j.known judge.session.known j.acts so.transfer shown verdicts)

-- What became of a line that says a transfer, and of the output.
abbrev pub SaidEnds : {T : Type 0} → CheckOptions → Judged → (number : ℕ) → CaptureLine → SeenState → Counts → Result T (Stop CaptureFault)
    → (had has : Option (List ℕ)) → Type 0
SaidEnds o j number l judge c (Ok done) had has = (shown : List Act) × (verdicts : List (Option Fault))
    × (so : IsJudgedSo o j number l shown verdicts judge c)
    × Appends had has (transfer_lines o number j.past j.known judge.session.known j.acts so.transfer shown verdicts)
SaidEnds o j number l judge c (Err stop.OutputRefused) had has = (shown : List Act) × (verdicts : List (Option Fault))
    × (so : IsJudgedSo o j number l shown verdicts judge c)
    × AppendsSome had has (transfer_lines o number j.past j.known judge.session.known j.acts so.transfer shown verdicts)
SaidEnds o j number l judge c (Err stop.NoMemory) had has = Appends had has []
SaidEnds o j number l judge c (Err other) had has = ⊥

-- ---- one line more

-- These lines were judged, and this was printed behind what was printed before.
pub record ChecksMore (o : CheckOptions) (lines : List (List ℕ)) (before after : Judged) (more : List ℕ) : Type 0 where
  pub checks : Checks o lines after
  pub text : after.text ≡ before.text ++ more

-- What became of a line after these.
abbrev pub LineEnds : {T : Type 0} → CheckOptions → (lines : List (List ℕ)) → Judged → (line : List ℕ) → SeenState → Counts
    → Result T (Stop CaptureFault) → (had has : Option (List ℕ)) → Type 0
LineEnds o lines j line judge c (Ok done) had has = (next : Judged) × (more : List ℕ)
    × ChecksMore o (lines ++ line ∷ []) j next more × IsKept next judge c × Appends had has more
LineEnds o lines j line judge c (Err stop.OutputRefused) had has = (next : Judged) × (more : List ℕ)
    × ChecksMore o (lines ++ line ∷ []) j next more × AppendsSome had has more
LineEnds o lines j line judge c (Err stop.NoMemory) had has = Appends had has []
LineEnds o lines j line judge c (Err (stop.BadLine number f)) had has =
    (number ≡ length lines + 1) × LineFaultIs line f × Appends had has []
LineEnds o lines j line judge c (Err stop.CannotRead) had has = ⊥

-- ---- a capture

-- The first lines of a capture were judged, and these bytes are left of it.
pub record IsUpTo (o : CheckOptions) (capture : List ℕ) (left : Option (List ℕ)) (number : ℕ) (judge : SeenState)
    (c : Counts) (had has : Option (List ℕ)) : Type 0 where
  pub done : List (List ℕ)
  pub rest : List ℕ
  pub judged : Judged
  pub is_left : left ≡ Some rest
  pub lines : lines_of capture ≡ done ++ lines_of rest
  pub count : number ≡ length done + 1
  pub checks : Checks o done judged
  pub kept : IsKept judged judge c
  pub printed : Appends had has judged.text

-- All lines were judged.
pub record AllChecked (o : CheckOptions) (capture : List ℕ) (judge : SeenState) (c : Counts)
    (had has : Option (List ℕ)) : Type 0 where
  pub judged : Judged
  pub checks : Checks o (lines_of capture) judged
  pub kept : IsKept judged judge c
  pub printed : Appends had has judged.text

-- What a stop says of the lines that were judged, and of those that are left.
abbrev pub StopSays : CheckOptions → Stop CaptureFault → (number : ℕ) → (rest : List (List ℕ)) → Judged → (had has : Option (List ℕ)) → Type 0
StopSays o (stop.BadLine n f) number rest j had has = (line : List ℕ) × (after : List (List ℕ)) × (rest ≡ line ∷ after)
    × LineFaultIs line f × (n ≡ number) × Appends had has j.text
StopSays o stop.OutputRefused number rest j had has = AppendsSome had has (j.text ++ end_text o j)
StopSays o other number rest j had has = Appends had has j.text

-- A check stopped after some lines.
pub record StopsIn (o : CheckOptions) (capture : List ℕ) (s : Stop CaptureFault) (had has : Option (List ℕ)) : Type 0 where
  pub done : List (List ℕ)
  pub rest : List (List ℕ)
  pub lines : lines_of capture ≡ done ++ rest
  pub judged : Judged
  pub checks : Checks o done judged
  pub says : StopSays o s (length done + 1) rest judged had has

-- What became of the next line: there are more, or it was the last.
abbrev pub NextEnds : CheckOptions → (capture : List ℕ) → (left : Option (List ℕ)) → (number : ℕ) → SeenState → Counts
    → Result Bool (Stop CaptureFault) → (had has : Option (List ℕ)) → Type 0
NextEnds o capture left number judge c (Ok true) had has = IsUpTo o capture left (number + 1) judge c had has
NextEnds o capture left number judge c (Ok false) had has = AllChecked o capture judge c had has
NextEnds o capture left number judge c (Err s) had has = StopsIn o capture s had has

abbrev pub LinesEnd : {T : Type 0} → CheckOptions → (capture : List ℕ) → SeenState → Counts → Result T (Stop CaptureFault)
    → (had has : Option (List ℕ)) → Type 0
LinesEnd o capture judge c (Ok done) had has = AllChecked o capture judge c had has
LinesEnd o capture judge c (Err s) had has = StopsIn o capture s had has

-- All was printed.
pub record AllPrinted (o : CheckOptions) (capture : List ℕ) (c : Counts) (had has : Option (List ℕ)) : Type 0 where
  pub judged : Judged
  pub checks : Checks o (lines_of capture) judged
  pub counts : AreCounts judged c
  pub printed : Appends had has (judged.text ++ end_text o judged)

abbrev pub CheckEnds : {T : Type 0} → CheckOptions → (capture : List ℕ) → Counts → Result T (Stop CaptureFault)
    → (had has : Option (List ℕ)) → Type 0
CheckEnds o capture c (Ok done) had has = AllPrinted o capture c had has
CheckEnds o capture c (Err s) had has = StopsIn o capture s had has

-- What became of what stands at the end.
abbrev pub PrintsEnd : {T : Type 0} → CheckOptions → ExchangeState → Remains → Counts → Result T (Stop CaptureFault)
    → (had has : Option (List ℕ)) → Type 0
PrintsEnd o e r c (Ok done) had has = Appends had has (closing_text o e r c)
PrintsEnd o e r c (Err stop.OutputRefused) had has = AppendsSome had has (closing_text o e r c)
PrintsEnd o e r c (Err stop.NoMemory) had has = Appends had has []
PrintsEnd o e r c (Err other) had has = ⊥

-- This is left of the session that the judge has seen.
abbrev pub AreLeft : SessionState → (nodes : List (ℕ × ℕ)) → (files : List (FileKey × ℕ)) → Remains → Type 0
AreLeft session nodes files r = (start : Known) (transfers : List Transfer) (s : Session) → HasSeenFrom start transfers s session
    → Stands s nodes files → r ≡ remains_of s
