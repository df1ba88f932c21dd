-- What is printed in each form.
use Rattle.std.specs.Prelude.{ℕ, Bool, if◌then◌else◌, List, [], ◌∷◌, ◌++◌, Option, Some, None}
use Rattle.fuse_protocol.specs.declared.agreed.Unjudged.{Unjudged}
use Rattle.fuse_sessions.specs.declared.act.Act.{Act}
use Rattle.fuse_sessions.specs.declared.fault.Fault.{Fault}
use Rattle.fuse_sessions.specs.declared.known.Known.{Known}
use Rattle.fuse_sessions.specs.declared.transfer.Transfer.{Transfer}
use Rattle.fuse_sessions.specs.Sessions.{Session}
use Rattle.fw_check.specs.declared.counts.Counts.{Counts}
use Rattle.fw_check.specs.declared.options.CheckForm.{CheckForm}
use Rattle.fw_check.specs.declared.options.CheckForm.TheVariants as forms
use Rattle.fw_check.specs.declared.options.CheckOptions.{CheckOptions}
use Rattle.fw_check.specs.declared.past.Trace.{Trace}
use Rattle.fw_check.specs.declared.remains.Remains.{Remains}
use Rattle.fw_check.specs.Counting.{counts_lines}
use Rattle.fw_check.specs.FaultWords.{fault_line}
use Rattle.fw_check.specs.Json.{counts_object, fault_object, head_object}
use Rattle.fw_check.specs.Life.{doer_of, life_lines}
use Rattle.fw_check.specs.Past.{remembered}
use Rattle.fw_check.specs.Summary.{ExchangeState, table_text}
use Rattle.fw_check.specs.Unjudged.{unjudged_line, unjudged_object}

-- before all else
abbrev pub head_text : CheckForm → List ℕ
head_text forms.Words = []
head_text forms.Json = head_object

-- a fault of a line, and what is remembered of the lines before
abbrev pub fault_text : CheckForm → (number : ℕ) → (past : List Trace) → Act → Fault → List ℕ
fault_text forms.Words number past a f = fault_line number past a f
fault_text forms.Json number past a f = fault_object number past a f

-- the faults of a transfer's acts, in their order
abbrev pub fault_lines : CheckForm → (number : ℕ) → (past : List Trace) → List Act → List (Option Fault) → List ℕ
fault_lines form number past (a ∷ acts) (Some f ∷ verdicts) =
    fault_text form number past a f ++ fault_lines form number past acts verdicts
fault_lines form number past (a ∷ acts) (None ∷ verdicts) = fault_lines form number past acts verdicts
fault_lines form number past acts verdicts = []

-- why nothing is judged any more
abbrev pub unjudged_text : CheckForm → (number : ℕ) → Unjudged → List ℕ
unjudged_text forms.Words number why = unjudged_line number why
unjudged_text forms.Json number why = unjudged_object number why

-- once, where it is known from this transfer on
abbrev pub leaving_text : CheckForm → (number : ℕ) → (before after : Option Unjudged) → List ℕ
leaving_text form number None (Some why) = unjudged_text form number why
leaving_text form number before after = []

-- what is printed of a transfer's acts that follow a session, and the traces of the lines before: what they do to the node
-- that is asked for, or their faults, or nothing, where the table of opcodes is asked for
abbrev pub lines_by : (node : Option ℕ) → (is_summary : Bool) → CheckForm → (number : ℕ) → (past : List Trace) → Session
    → Transfer → List Act → List (Option Fault) → List ℕ
lines_by (Some node) is_summary form number past s t acts verdicts = life_lines number node (doer_of s t) s acts
lines_by None is_summary form number past s t acts verdicts =
    if is_summary then [] else fault_lines form number (remembered past) acts verdicts

abbrev pub act_lines : CheckOptions → (number : ℕ) → (past : List Trace) → Session → Transfer → List Act
    → List (Option Fault) → List ℕ
act_lines o number past s t acts verdicts = lines_by o.node o.is_summary o.form number past s t acts verdicts

-- what is printed of a transfer after a session: the lines of its acts, and whether the session is not judged any more
abbrev pub transfer_lines : CheckOptions → (number : ℕ) → (past : List Trace) → (before after : Known) → Session → Transfer
    → List Act → List (Option Fault) → List ℕ
transfer_lines o number past before after s t acts verdicts =
    act_lines o number past s t acts verdicts ++ leaving_text o.form number before.unjudged after.unjudged

-- the counts, with what is left at the end
abbrev pub counts_text : CheckForm → Remains → Counts → List ℕ
counts_text forms.Words r c = counts_lines r c
counts_text forms.Json r c = counts_object r c

-- what is printed at the end: the table of opcodes, if it is asked for, and the counts
abbrev pub closing_text : CheckOptions → ExchangeState → Remains → Counts → List ℕ
closing_text o e r c = (if o.is_summary then table_text o.form e else []) ++ counts_text o.form r c
