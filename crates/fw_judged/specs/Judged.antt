-- What is printed of what goes over a device, as it goes.
use Rattle.std.specs.Prelude.{◌≡◌, ◌+◌, ◌⊎◌, ℕ, Bool, true, false, List, [], ◌∷◌, ◌++◌, Option, codes, length}
use Rattle.std.specs.Io.KnownBytes.{Appends}
use Rattle.hex.specs.Hex.{encode_lower}
use Rattle.fuse_protocol.specs.declared.agreed.Unjudged.{Unjudged}
use Rattle.fuse_sessions.specs.declared.act.Act.{Act}
use Rattle.fuse_sessions.specs.declared.act.Taken.{Taken}
use Rattle.fuse_sessions.specs.declared.act.Taken.TheVariants as taken
use Rattle.fuse_sessions.specs.declared.fault.Fault.{Fault}
use Rattle.fuse_sessions.specs.declared.fault.Party.TheVariants as party
use Rattle.fuse_sessions.specs.declared.known.Known.{Known}
use Rattle.fuse_sessions.specs.declared.transfer.Transfer.{Transfer as Said}
use Rattle.fuse_sessions.specs.declared.transfer.Transfer.TheVariants as said
use Rattle.fuse_sessions.specs.Frames.{AreActs, nothing_known}
use Rattle.fuse_sessions.specs.Sessions.{Session}
use Rattle.fuse_judge.specs.Transfers.{AreFaults, HasSeenTransfers, SessionState}
use Rattle.fuse_device.specs.Transfers.{Transfer}
use Rattle.fw_check.specs.Counting.{faults_in}
use Rattle.fw_check.specs.FrameLines.{frame_lines}
use Rattle.fuse_text.specs.Outputs.{AppendsSome}
use Rattle.fw_judged.specs.declared.counts.FaultCounts.{FaultCounts}
use Rattle.fw_judged.specs.declared.form.Form.{Form}
use Rattle.fw_judged.specs.declared.form.Form.TheVariants as form
use Rattle.fw_judged.specs.declared.lines.FaultLines.{FaultLines}
use Rattle.fw_judged.specs.declared.stage.Stage.{Stage}
use Rattle.fw_judged.specs.declared.stage.Stage.TheVariants as stage

-- ---- lines

-- what was made of a frame, behind it
abbrev pub taken_text : Taken → List ℕ
taken_text taken.Accepted = []
taken_text taken.NoEntry = codes " ENOENT"
taken_text taken.Invalid = codes " EINVAL"
taken_text taken.Failed = codes " EIO"

-- The line of a transfer in a capture. (`fuse_capture` has the form) Of a device's end the error is not known: ENODEV stands
-- for it.
abbrev pub capture_line : Said → List ℕ
capture_line (said.Request bytes) = codes "> " ++ encode_lower bytes.now ++ codes "\n"
capture_line (said.Written bytes t) = codes "< " ++ encode_lower bytes.now ++ (taken_text t ++ codes "\n")
capture_line said.SeveralReaders = codes "= several readers\n"
capture_line said.SeveralWriters = codes "= several writers\n"
capture_line said.Ended = codes "= ended ENODEV\n"

-- what is written of a transfer: the lines of its faults, or its line in a capture
abbrev pub lines_in : Form → (number : ℕ) → Said → (before after : Option Unjudged) → List Act → List (Option Fault) → List ℕ
lines_in form.Faults number t before after acts verdicts = frame_lines number before after acts verdicts
lines_in form.Capture number t before after acts verdicts = capture_line t

-- what is written where memory runs out
abbrev pub gave_up : Form → List ℕ
gave_up form.Faults = codes "not judged from here on: no memory\n"
gave_up form.Capture = codes "# no memory: no more is written\n"

-- ---- what was judged

-- The transfers that were judged, what is known after them, their acts, and the verdict on each act.
pub record Seen : Type 0 where
  pub transfers : List Said
  pub known : Known
  pub acts : Session
  pub verdicts : List (Option Fault)

abbrev pub nothing_seen : Seen
nothing_seen = record { transfers = []; known = nothing_known; acts = []; verdicts = [] }

abbrev pub seen_after : Seen → Said → List Act → List (Option Fault) → Known → Seen
seen_after s t acts verdicts known = record {
  transfers = s.transfers ++ t ∷ [];
  known = known;
  acts = s.acts ++ acts;
  verdicts = s.verdicts ++ verdicts;
}

-- One transfer more was judged, which is said to be such a one, and this is written of it.
pub record Judges (f : Form) (Says : Said → Type 0) (s later : Seen) (text : List ℕ) : Type 0 where
  pub said : Said
  pub acts : List Act
  pub verdicts : List (Option Fault)
  pub known : Known
  pub is : Says said
  pub are : AreActs s.known s.acts said acts known
  pub each : length verdicts ≡ length acts
  pub faults : AreFaults s.acts acts verdicts
  pub after : later ≡ seen_after s said acts verdicts known
  pub lines : text ≡ lines_in f (length s.transfers + 1) said s.known.unjudged known.unjudged acts verdicts

-- ---- how it goes on

-- One call over the device: its transfer is judged and its lines are written, but for a rest that the writer refuses; or
-- memory runs out. From then on nothing is written.
abbrev pub Steps : Form → (Says : Said → Type 0) → (from : Stage) → Seen → (to : Stage) → (later : Seen) → (text : List ℕ) → Type 0
Steps f Says stage.Judging s stage.Judging later text = Judges f Says s later text
Steps f Says stage.Judging s stage.NoMemory later text = (later ≡ s) × (text ≡ gave_up f)
Steps f Says stage.Judging s stage.Refused later text =
    Judges f Says s later text ⊎ ((later ≡ s) × (text ≡ gave_up f))
Steps f Says stage.NoMemory s stage.NoMemory later text = (later ≡ s) × (text ≡ [])
Steps f Says stage.Refused s stage.Refused later text = (later ≡ s) × (text ≡ [])
Steps f Says from s to later text = ⊥

-- What goes over the device, call by call: which transfer of a session each is may be said by what was seen before it.
abbrev pub Goes : Form → (Says : Seen → Transfer → Said → Type 0) → (from : Stage) → Seen → List Transfer → (to : Stage)
    → (later : Seen) → (text : List ℕ) → Type 0
Goes f Says from s [] to later text = (to ≡ from) × (later ≡ s) × (text ≡ [])
Goes f Says from s (t ∷ log) to later text = (mid : Stage) × (next : Seen) × (first rest : List ℕ)
    × Steps f (λ said. Says s t said) from s mid next first × Goes f Says mid next log to later rest × (text ≡ first ++ rest)

-- The writer got the text, or a beginning of it once it refused.
abbrev pub Got : Stage → (old new : Option (List ℕ)) → (text : List ℕ) → Type 0
Got stage.Judging old new text = Appends old new text
Got stage.NoMemory old new text = Appends old new text
Got stage.Refused old new text = AppendsSome old new text

abbrev pub is_judging : Stage → Bool
is_judging stage.Judging = true
is_judging stage.NoMemory = false
is_judging stage.Refused = false

-- nothing is judged any more
abbrev pub IsOver : Stage → Type 0
IsOver stage.Judging = ⊥
IsOver stage.NoMemory = Unit {0}
IsOver stage.Refused = Unit {0}

-- ---- what is kept

-- how many of the verdicts are faults of each party, and warnings
pub record AreCounted (verdicts : List (Option Fault)) (c : FaultCounts) : Type 0 where
  pub kernel : c.kernel ≡ faults_in party.Kernel verdicts
  pub server : c.server ≡ faults_in party.Server verdicts
  pub device : c.device ≡ faults_in party.Device verdicts
  pub warnings : c.warnings ≡ faults_in party.Nobody verdicts

-- The judge has seen this, of so many transfers.
pub record HasJudged (s : Seen) (judge : SessionState) (number : ℕ) : Type 0 where
  pub seen : HasSeenTransfers s.transfers s.acts judge
  pub known : s.known ≡ judge.known
  pub count : number ≡ length s.transfers

-- What contracts see of what is kept.
pub record LinesState : Type 0 where
  pub judge : SessionState
  pub number : ℕ
  pub form : Form
  pub stage : Stage
  pub counts : FaultCounts

abbrev pub state_of : {W A : Type 0} → FaultLines W A → LinesState
state_of l = record { judge = l.judge; number = l.number; form = l.form; stage = l.stage; counts = l.counts }

-- It writes in this form, and is right of what was seen: the counts always, and the judge as long as there is one.
pub record IsRight (f : Form) (l : LinesState) (s : Seen) : Type 0 where
  pub form : l.form ≡ f
  pub counts : AreCounted s.verdicts l.counts
  pub judged : l.stage ≡ stage.Judging → HasJudged s l.judge l.number

-- From one state to another one call went over the device, and the writer got what is written of it.
abbrev pub IsStep : Form → (Says : Said → Type 0) → (old new : LinesState) → (had has : Option (List ℕ)) → Seen → Type 0
IsStep f Says old new had has s = (later : Seen) × (text : List ℕ) × IsRight f new later
    × Steps f Says old.stage s new.stage later text × Got new.stage had has text

-- The same of all that went over it.
abbrev pub IsWatched : Form → (Says : Seen → Transfer → Said → Type 0) → (old new : LinesState) → (had has : Option (List ℕ))
    → List Transfer → Type 0
IsWatched f Says old new had has log = (s : Seen) → IsRight f old s → (later : Seen) × (text : List ℕ)
    × IsRight f new later × Goes f Says old.stage s log new.stage later text × Got new.stage had has text
