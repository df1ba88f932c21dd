-- The objects of `--json`, one a line.
use Rattle.std.specs.Prelude.{ℕ, true, false, List, [], ◌++◌, Option, Some, None, codes, decimal}
use Rattle.fuse_protocol.specs.declared.opcode.Opcode.{Opcode}
use Rattle.fuse_protocol.specs.Table.{name_of}
use Rattle.fuse_sessions.specs.declared.act.Act.{Act}
use Rattle.fuse_sessions.specs.declared.act.Act.TheVariants as act
use Rattle.fuse_sessions.specs.declared.act.OpenFile.{OpenFile}
use Rattle.fuse_sessions.specs.declared.fault.Fault.{Fault}
use Rattle.fuse_sessions.specs.declared.fault.Party.{Party}
use Rattle.fuse_sessions.specs.declared.fault.Party.TheVariants as party
use Rattle.fuse_sessions.specs.Parties.{party_of}
use Rattle.fw_check.specs.declared.counts.Counts.{Counts}
use Rattle.fw_check.specs.declared.past.PastDeed.{PastDeed}
use Rattle.fw_check.specs.declared.past.PastDeed.TheVariants as deed
use Rattle.fw_check.specs.declared.past.Trace.{Trace}
use Rattle.fw_check.specs.declared.remains.Remains.{Remains}
use Rattle.fw_check.specs.FaultWords.{fault_words, party_word}
use Rattle.fw_check.specs.Past.{last_of, topic_of}

-- a key behind another
abbrev pub key_text : List ℕ → List ℕ
key_text key = codes ",\"" ++ key ++ codes "\":"

abbrev pub number_field : (key : List ℕ) → ℕ → List ℕ
number_field key number = key_text key ++ decimal number

-- a number, or null
abbrev pub number_or_null : Option ℕ → List ℕ
number_or_null None = codes "null"
number_or_null (Some number) = decimal number

abbrev pub option_field : (key : List ℕ) → Option ℕ → List ℕ
option_field key number = key_text key ++ number_or_null number

-- the text has no byte that JSON escapes
abbrev pub text_field : (key text : List ℕ) → List ℕ
text_field key text = key_text key ++ codes "\"" ++ text ++ codes "\""

-- ---- faults

abbrev pub node_fields : (node : ℕ) → (key : List ℕ) → ℕ → List ℕ
node_fields node key number = number_field (codes "nodeid") node ++ number_field key number

abbrev pub file_fields : OpenFile → List ℕ
file_fields file = node_fields file.nodeid (codes "fh") file.fh

-- what an act is about
abbrev pub act_fields : Act → List ℕ
act_fields (act.Begins opcode) = text_field (codes "opcode") (name_of opcode)
act_fields (act.Read None unique) = number_field (codes "unique") unique
act_fields (act.Read (Some opcode) unique) =
    text_field (codes "opcode") (name_of opcode) ++ number_field (codes "unique") unique
act_fields (act.Resent unique original) =
    number_field (codes "unique") unique ++ number_field (codes "original") original
act_fields (act.Interrupts unique original) =
    number_field (codes "unique") unique ++ number_field (codes "original") original
act_fields (act.Names node) = number_field (codes "nodeid") node
act_fields (act.Forgets node lookups) = node_fields node (codes "lookups") lookups
act_fields (act.Uses file) = file_fields file
act_fields (act.Releases file) = file_fields file
act_fields (act.Writes size) = number_field (codes "bytes") size
act_fields (act.Takes unique t body) = number_field (codes "unique") unique
act_fields (act.Interrupted unique) = number_field (codes "unique") unique
act_fields (act.Replies unique t) = number_field (codes "unique") unique
act_fields (act.RepliesToInterrupt original is_again t) = number_field (codes "original") original
act_fields (act.Gives node file is_certain) =
    node_fields node (codes "generation") file.generation ++ number_field (codes "ino") file.ino
act_fields (act.Describes node kind ino) = node_fields node (codes "ino") ino
act_fields (act.Missing node errno) = node_fields node (codes "error") errno
act_fields (act.Opens file) = file_fields file
act_fields a = []

-- the opcode of a request that was read, if it is known
abbrev pub opcode_field : Option Opcode → List ℕ
opcode_field None = []
opcode_field (Some opcode) = text_field (codes "read_opcode") (name_of opcode)

-- what was done at a line, and how often its node was counted then
abbrev pub deed_fields : (line : ℕ) → PastDeed → (count : ℕ) → List ℕ
deed_fields line (deed.Read opcode unique) count = number_field (codes "read_line") line ++ opcode_field opcode
deed_fields line (deed.Answered unique) count = number_field (codes "answered_line") line
deed_fields line (deed.Given node ino) count = number_field (codes "given_line") line
    ++ number_field (codes "given_ino") ino ++ number_field (codes "given_count") count
deed_fields line (deed.Forgotten node) count =
    number_field (codes "forgotten_line") line ++ number_field (codes "forgotten_count") count
deed_fields line (deed.Opened file) count = number_field (codes "opened_line") line
deed_fields line (deed.Released file) count = number_field (codes "released_line") line

abbrev pub trace_fields : Option Trace → List ℕ
trace_fields None = []
trace_fields (Some t) = deed_fields t.line t.deed t.count

-- of what an act is about: what began it last, and what ended it last
abbrev pub past_fields : (past : List Trace) → Act → List ℕ
past_fields past a = trace_fields (last_of false (topic_of a) past) ++ trace_fields (last_of true (topic_of a) past)

-- a warning is nobody's fault
abbrev pub event_text : Party → List ℕ
event_text party.Nobody = codes "{\"event\":\"warning\""
event_text p = codes "{\"event\":\"fault\""

abbrev pub party_field : Party → List ℕ
party_field party.Nobody = []
party_field p = text_field (codes "party") (party_word p)

abbrev pub rule_fields : Fault → List ℕ
rule_fields f = party_field (party_of f) ++ text_field (codes "rule") (fault_words f)

abbrev pub fault_object : (number : ℕ) → (past : List Trace) → Act → Fault → List ℕ
fault_object number past a f = event_text (party_of f) ++ number_field (codes "line") number ++ rule_fields f
    ++ act_fields a ++ past_fields past a ++ codes "}\n"

-- ---- the first and the last object

abbrev pub head_object : List ℕ
head_object = codes "{\"event\":\"check\",\"schema\":1}\n"

abbrev pub transfers_fields : Counts → List ℕ
transfers_fields c = number_field (codes "requests") c.requests ++ number_field (codes "replies") c.replies
    ++ number_field (codes "notifications") c.notifications ++ number_field (codes "refused") c.refused

abbrev pub lookups_fields : Remains → Counts → List ℕ
lookups_fields r c = number_field (codes "unanswered") r.unanswered ++ number_field (codes "entries") c.entries
    ++ number_field (codes "forgotten") c.forgotten

abbrev pub standing_fields : Remains → List ℕ
standing_fields r = number_field (codes "nodes") r.nodes ++ number_field (codes "open") r.files

abbrev pub parties_fields : Counts → List ℕ
parties_fields c = number_field (codes "kernel") c.kernel ++ number_field (codes "server") c.server
    ++ number_field (codes "device") c.device ++ number_field (codes "warnings") c.warnings

abbrev pub counts_fields : Remains → Counts → List ℕ
counts_fields r c = transfers_fields c ++ lookups_fields r c ++ standing_fields r ++ parties_fields c

abbrev pub counts_object : Remains → Counts → List ℕ
counts_object r c = codes "{\"event\":\"counts\"" ++ counts_fields r c ++ codes "}\n"
