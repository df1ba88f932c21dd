-- What is counted of transfers, acts and verdicts, and the lines of counts.
use Rattle.std.specs.Prelude.{ℕ, Bool, true, false, ◌&&◌, not, if◌then◌else◌, List, ◌++◌, Option, Some, None, codes, decimal, nat_eq}
use Rattle.fuse_sessions.specs.declared.act.Act.{Act}
use Rattle.fuse_sessions.specs.declared.act.Act.TheVariants as act
use Rattle.fuse_sessions.specs.declared.act.Taken.{Taken}
use Rattle.fuse_sessions.specs.declared.act.Taken.TheVariants as taken
use Rattle.fuse_sessions.specs.declared.fault.Fault.{Fault}
use Rattle.fuse_sessions.specs.declared.fault.Party.{Party}
use Rattle.fuse_sessions.specs.declared.fault.Party.TheVariants as party
use Rattle.fuse_sessions.specs.declared.transfer.Transfer.{Transfer}
use Rattle.fuse_sessions.specs.declared.transfer.Transfer.TheVariants as transfer
use Rattle.fuse_sessions.specs.Parties.{party_of}
use Rattle.fuse_sessions.specs.Frames.{number_in}
use Rattle.fw_check.specs.declared.remains.Remains.{Remains}

abbrev pub one_if : Bool → ℕ
one_if b = if b then 1 else 0

abbrev pub is_request : Transfer → Bool
is_request (transfer.Request bytes) = true
is_request t = false

-- what the server writes under number 0 is a notification
abbrev pub is_notification : Transfer → Bool
is_notification (transfer.Written bytes t) = nat_eq (number_in bytes.now) 0
is_notification t = false

abbrev pub is_reply : Transfer → Bool
is_reply (transfer.Written bytes t) = not (nat_eq (number_in bytes.now) 0)
is_reply t = false

abbrev pub is_accepted : Taken → Bool
is_accepted taken.Accepted = true
is_accepted t = false

-- a reply that the device refused
abbrev pub is_refused : Transfer → Bool
is_refused (transfer.Written bytes t) = not (nat_eq (number_in bytes.now) 0) && not (is_accepted t)
is_refused t = false

-- entries that give a node
abbrev pub entries_of : Act → ℕ
entries_of (act.Gives node file is_certain) = 1
entries_of a = 0

-- lookups that are given back
abbrev pub forgotten_by : Act → ℕ
forgotten_by (act.Forgets node lookups) = lookups
forgotten_by a = 0

abbrev pub is_kernel : Party → Bool
is_kernel party.Kernel = true
is_kernel p = false

abbrev pub is_server : Party → Bool
is_server party.Server = true
is_server p = false

abbrev pub is_device : Party → Bool
is_device party.Device = true
is_device p = false

abbrev pub is_nobody : Party → Bool
is_nobody party.Nobody = true
is_nobody p = false

-- a verdict is a fault of the party, or a warning where that is nobody's
abbrev pub is_of : Party → Option Fault → Bool
is_of party.Kernel (Some f) = is_kernel (party_of f)
is_of party.Server (Some f) = is_server (party_of f)
is_of party.Device (Some f) = is_device (party_of f)
is_of party.Nobody (Some f) = is_nobody (party_of f)
is_of p None = false

-- ---- lines

abbrev pub counted : List ℕ → ℕ → List ℕ
counted word number = word ++ codes " " ++ decimal number

abbrev pub transfers_text : (requests replies notifications refused : ℕ) → List ℕ
transfers_text requests replies notifications refused =
    counted (codes "requests") requests ++ counted (codes " replies") replies
    ++ counted (codes " notifications") notifications ++ counted (codes " refused") refused

abbrev pub lookups_text : (entries forgotten : ℕ) → List ℕ
lookups_text entries forgotten = counted (codes " entries") entries ++ counted (codes " forgotten") forgotten

abbrev pub standing_text : Remains → List ℕ
standing_text r = counted (codes " nodes") r.nodes ++ counted (codes " open") r.files ++ codes "\n"

-- behind the counts of transfers
abbrev pub later_text : Remains → (entries forgotten : ℕ) → List ℕ
later_text r entries forgotten =
    counted (codes " unanswered") r.unanswered ++ lookups_text entries forgotten ++ standing_text r

abbrev pub parties_text : (kernel server device : ℕ) → List ℕ
parties_text kernel server device =
    counted (codes "faults: kernel") kernel ++ counted (codes " server") server ++ counted (codes " device") device

abbrev pub faults_text : (kernel server device warnings : ℕ) → List ℕ
faults_text kernel server device warnings =
    parties_text kernel server device ++ counted (codes ", warnings") warnings ++ codes "\n"
