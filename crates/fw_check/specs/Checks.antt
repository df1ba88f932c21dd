-- What is printed of a capture: the faults of the session that its lines say which are asked for, or the life of a node,
-- or a table of opcodes, and counts. Of a session that is joined the faults are those that are certain.
use Rattle.std.specs.Prelude.{◌≡◌, ◌+◌, ℕ, Bool, List, [], ◌∷◌, ◌++◌, Option, if◌then◌else◌, length, sum_by}
use Rattle.fuse_sessions.specs.declared.act.Act.{Act}
use Rattle.fuse_sessions.specs.declared.fault.Fault.{Fault}
use Rattle.fuse_sessions.specs.declared.fault.Party.{Party}
use Rattle.fuse_sessions.specs.declared.fault.Party.TheVariants as party
use Rattle.fuse_sessions.specs.declared.known.Known.{Known}
use Rattle.fuse_sessions.specs.declared.transfer.Transfer.{Transfer}
use Rattle.fuse_sessions.specs.Sessions.{Session}
use Rattle.fuse_sessions.specs.Frames.{AreActs}
use Rattle.joined_judge.specs.Judging.{AreFaultsAs, start_known}
use Rattle.name_sessions.specs.NameFrames.{AreNamesAfter, start_names}
use Rattle.name_sessions.specs.NameSessions.{NameSession}
use Rattle.fuse_capture.specs.Lines.{LineSays, IsPassedOver}
use Rattle.fw_check.specs.declared.counts.Counts.{Counts}
use Rattle.fw_check.specs.declared.options.CheckOptions.{CheckOptions}
use Rattle.fw_check.specs.declared.past.Trace.{Trace}
use Rattle.fw_check.specs.Asked.{asked_verdicts}
use Rattle.fw_check.specs.Forms.{closing_text, head_text, transfer_lines}
use Rattle.fw_check.specs.Names.{with_names, with_removal}
use Rattle.fw_check.specs.Past.{traces_of}
use Rattle.fw_check.specs.Standing.{remains_of}
use Rattle.fw_check.specs.Summary.{ExchangeState, LineTimeIs, after_asked, nothing_exchanged}
use Rattle.fw_check.specs.Tallies.{entries_of, forgotten_by, is_notification, is_of, is_refused, is_reply, is_request, one_if}

-- What was judged: the transfers that were said, what is known after them, their acts and their name acts, the verdicts
-- without the faults that are not asked for, what the table of opcodes is made of, if that is asked for, the traces that
-- the acts leave, and what is printed of them. A verdict is on each act, and on a name that is missing.
pub record Judged : Type 0 where
  pub transfers : List Transfer
  pub known : Known
  pub acts : Session
  pub names : NameSession
  pub verdicts : List (Option Fault)
  pub exchanges : ExchangeState
  pub past : List Trace
  pub text : List ℕ

abbrev pub nothing_judged : (is_joined : Bool) → Judged
nothing_judged is_joined = record {
  transfers = [];
  known = start_known is_joined;
  acts = [];
  names = start_names is_joined;
  verdicts = [];
  exchanges = nothing_exchanged;
  past = [];
  text = [];
}

-- nothing yet, of what is asked for
abbrev pub start_in : CheckOptions → Judged
start_in o = record (nothing_judged o.is_joined) { text = head_text o.form }

-- Each line is judged after those before it. What is asked for changes the verdicts that are kept, and no act.
pub data Checks (o : CheckOptions) : (lines : List (List ℕ)) → Judged → Type 0 where
  no_line : Checks o [] (start_in o)
  passed_over : (lines : List (List ℕ)) (j : Judged) → Checks o lines j → (line : List ℕ) → IsPassedOver line
      → Checks o (lines ++ line ∷ []) j
  says : (lines : List (List ℕ)) (j : Judged) → Checks o lines j → (line : List ℕ) (t : Transfer) → LineSays line t
      → (time : Option ℕ) → LineTimeIs line t time → (acts : List Act) (known : Known) → AreActs j.known j.acts t acts known → (verdicts : List (Option Fault))
      → length verdicts ≡ length acts → AreFaultsAs o.is_joined j.acts acts verdicts
      → (names : NameSession) (is_missing : Bool) → AreNamesAfter j.known j.names j.acts t acts names is_missing
      → Checks o (lines ++ line ∷ []) (record {
        transfers = j.transfers ++ t ∷ [];
        known = known;
        acts = j.acts ++ acts;
        names = names;
        verdicts = j.verdicts ++ asked_verdicts o.only (with_names is_missing verdicts);
        exchanges = after_asked o.is_summary j.exchanges t time;
        past = j.past ++ traces_of (length lines + 1) j.acts acts;
        text = j.text ++ transfer_lines o (length lines + 1) j.past j.known known j.acts t (with_removal is_missing acts)
            (asked_verdicts o.only (with_names is_missing verdicts));
      })

-- ---- counts

-- how many transfers are such
abbrev pub number_of : (Transfer → Bool) → Judged → ℕ
number_of test j = sum_by (λ t. one_if (test t)) j.transfers

-- how many faults are a party's, of those that are asked for
abbrev pub faults_of : Party → Judged → ℕ
faults_of p j = sum_by (λ v. one_if (is_of p v)) j.verdicts

-- how many faults there are, of those that are asked for, and in a strict check warnings
abbrev pub finding_count : (is_strict : Bool) → Judged → ℕ
finding_count is_strict j = faults_of party.Kernel j + faults_of party.Server j + faults_of party.Device j
    + (if is_strict then faults_of party.Nobody j else 0)

abbrev pub counts_of : Judged → Counts
counts_of j = record {
  requests = number_of is_request j;
  replies = number_of is_reply j;
  notifications = number_of is_notification j;
  refused = number_of is_refused j;
  entries = sum_by entries_of j.acts;
  forgotten = sum_by forgotten_by j.acts;
  kernel = faults_of party.Kernel j;
  server = faults_of party.Server j;
  device = faults_of party.Device j;
  warnings = faults_of party.Nobody j;
}

-- the table of opcodes, if it is asked for, and the counts at the end, also of what is left then: requests that wait, nodes
-- that are counted, files that are open
abbrev pub end_text : CheckOptions → Judged → List ℕ
end_text o j = closing_text o j.exchanges (remains_of j.acts) (counts_of j)
