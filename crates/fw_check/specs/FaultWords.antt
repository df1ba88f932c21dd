-- The line of a fault, or of a warning.
use Rattle.std.specs.Prelude.{ℕ, true, false, List, [], ◌++◌, Option, Some, None, codes, decimal}
use Rattle.fuse_protocol.specs.declared.opcode.Opcode.{Opcode}
use Rattle.fuse_protocol.specs.Table.{name_of}
use Rattle.fuse_sessions.specs.declared.act.Act.{Act}
use Rattle.fuse_sessions.specs.declared.act.Act.TheVariants as act
use Rattle.fuse_sessions.specs.declared.fault.Fault.{Fault}
use Rattle.fuse_sessions.specs.declared.fault.Fault.TheVariants as fault
use Rattle.fuse_sessions.specs.declared.fault.Party.{Party}
use Rattle.fuse_sessions.specs.declared.fault.Party.TheVariants as party
use Rattle.fuse_sessions.specs.Parties.{party_of}
use Rattle.fw_check.specs.declared.past.PastDeed.{PastDeed}
use Rattle.fw_check.specs.declared.past.PastDeed.TheVariants as deed
use Rattle.fw_check.specs.declared.past.Trace.{Trace}
use Rattle.fw_check.specs.Past.{last_of, topic_of}

abbrev pub party_word : Party → List ℕ
party_word party.Kernel = codes "kernel"
party_word party.Server = codes "server"
party_word party.Device = codes "device"
party_word party.Nobody = codes "warning"

-- the rule that is broken, or what is odd
abbrev pub fault_words : Fault → List ℕ
fault_words fault.MalformedRequest = codes "malformed request"
fault_words fault.RequestBeforeInit = codes "request before INIT"
fault_words fault.InitNotFirst = codes "INIT is not first"
fault_words fault.OddNumber = codes "odd number"
fault_words fault.NumberUsedTwice = codes "number used twice"
fault_words fault.NumberOutOfOrder = codes "number out of order"
fault_words fault.ResendOfNothing = codes "resend of nothing"
fault_words fault.InterruptOfNothing = codes "INTERRUPT of nothing"
fault_words fault.InterruptUnderAnotherNumber = codes "INTERRUPT under another number"
fault_words fault.InterruptTooOften = codes "INTERRUPT too often"
fault_words fault.NodeNotCounted = codes "node that is not counted"
fault_words fault.ForgetOfTheRoot = codes "forget of the root"
fault_words fault.ForgetOfNoLookup = codes "forget of no lookup"
fault_words fault.ForgetOfMoreThanIsCounted = codes "forget of more than is counted"
fault_words fault.ForgetOfANodeInUse = codes "forget of a node in use"
fault_words fault.HandleNotOpen = codes "file handle that is not open"
fault_words fault.ReleaseOfWhatIsNotOpen = codes "RELEASE of what is not open"
fault_words fault.ReleaseBesideAUse = codes "RELEASE beside a use"
fault_words fault.WriteTooLarge = codes "WRITE of more than was agreed"
fault_words fault.NameThatIsMissing = codes "removal of a name that is missing"
fault_words fault.MalformedReply = codes "malformed reply"
fault_words fault.ReplyToNothing = codes "reply to nothing"
fault_words fault.SecondReply = codes "second reply"
fault_words fault.ReplyToForget = codes "reply to FORGET"
fault_words fault.ReplyToNoInterrupt = codes "reply to no INTERRUPT"
fault_words fault.BodyOfAnotherRequest = codes "body that is not its request's"
fault_words fault.MoreThanWasAsked = codes "more than was asked"
fault_words fault.EntryOfTheRoot = codes "entry of the root"
fault_words fault.EntryOfNoNode = codes "entry of no node"
fault_words fault.EntryOfNoKind = codes "entry of no kind"
fault_words fault.EntryOfAnotherKind = codes "entry of another kind"
fault_words fault.NodeOfTwoGenerations = codes "node of two generations"
fault_words fault.NodeOfTwoKinds = codes "node of two kinds"
fault_words fault.NodeOfTwoInodeNumbers = codes "node of two inode numbers"
fault_words fault.InitOfAnotherVersion = codes "INIT of another version"
fault_words fault.FlagsThatWereNotOffered = codes "flags that were not offered"
fault_words fault.MalformedNotification = codes "malformed notification"
fault_words fault.ReadAfterTheEnd = codes "read after the end"
fault_words fault.AcceptedAfterTheEnd = codes "reply accepted after the end"
fault_words fault.AcceptedReplyToNothing = codes "reply to nothing accepted"
fault_words fault.AcceptedWrongBody = codes "body of another request accepted"
fault_words fault.RefusedReply = codes "right reply refused"
fault_words fault.NodeGivenAgain = codes "node given again under its generation"
fault_words fault.HandleGivenAgain = codes "file handle that is open given again"
fault_words fault.NoSuchNode = codes "counted node that is said not to be there"
fault_words fault.InterruptedByNobody = codes "EINTR without an INTERRUPT"
fault_words fault.AgainTooOften = codes "INTERRUPT answered EAGAIN more than 1000 times"
fault_words fault.OffsetGivenTwice = codes "offset given twice in a row"
fault_words fault.ListingWithoutEnd = codes "listing that ends where it began"

-- ` WORD NUMBER`
abbrev pub said : List ℕ → ℕ → List ℕ
said word number = codes " " ++ word ++ codes " " ++ decimal number

-- what the act is about, behind the rule
abbrev pub act_words : Act → List ℕ
act_words (act.Begins opcode) = codes ": " ++ name_of opcode
act_words (act.Read None unique) = codes ":" ++ said (codes "unique") unique
act_words (act.Read (Some opcode) unique) = codes ": " ++ name_of opcode ++ codes " " ++ decimal unique
act_words (act.Resent unique original) = codes ":" ++ said (codes "unique") unique ++ said (codes "of") original
act_words (act.Interrupts unique original) = codes ": INTERRUPT " ++ decimal unique ++ said (codes "of") original
act_words (act.Names node) = codes ":" ++ said (codes "node") node
act_words (act.Forgets node lookups) = codes ":" ++ said (codes "node") node ++ said (codes "lookups") lookups
act_words (act.Uses file) = codes ":" ++ said (codes "node") file.nodeid ++ said (codes "file handle") file.fh
act_words (act.Releases file) = codes ":" ++ said (codes "node") file.nodeid ++ said (codes "file handle") file.fh
act_words (act.Writes size) = codes ":" ++ said (codes "bytes") size
act_words (act.Takes unique t body) = codes ":" ++ said (codes "unique") unique
act_words (act.Interrupted unique) = codes ":" ++ said (codes "unique") unique
act_words (act.Replies unique t) = codes ":" ++ said (codes "unique") unique
act_words (act.RepliesToInterrupt original is_again t) = codes ":" ++ said (codes "INTERRUPT of") original
act_words (act.Gives node file is_certain) = codes ":" ++ said (codes "node") node
    ++ said (codes "generation") file.generation ++ said (codes "inode") file.ino
act_words (act.Describes node kind ino) = codes ":" ++ said (codes "node") node ++ said (codes "inode") ino
act_words (act.Missing node errno) = codes ":" ++ said (codes "node") node ++ said (codes "error") errno
act_words (act.Opens file) = codes ":" ++ said (codes "node") file.nodeid ++ said (codes "file handle") file.fh
act_words a = []

-- ---- what the lines before say

abbrev pub request_word : Option Opcode → List ℕ
request_word None = codes "request"
request_word (Some opcode) = name_of opcode

-- what was done
abbrev pub deed_words : PastDeed → List ℕ
deed_words (deed.Read opcode unique) = request_word opcode ++ codes " read"
deed_words (deed.Answered unique) = codes "answered"
deed_words (deed.Given node ino) = codes "given"
deed_words (deed.Forgotten node) = codes "forgotten"
deed_words (deed.Opened file) = codes "opened"
deed_words (deed.Released file) = codes "released"

abbrev pub count_words : (count : ℕ) → List ℕ
count_words count = codes "," ++ said (codes "count") count

-- of which file the node was then, and how often it was counted
abbrev pub node_words : PastDeed → (count : ℕ) → List ℕ
node_words (deed.Given node ino) count = codes "," ++ said (codes "inode") ino ++ count_words count
node_words (deed.Forgotten node) count = count_words count
node_words d count = []

-- `; DEED at line N`
abbrev pub trace_words : Option Trace → List ℕ
trace_words None = []
trace_words (Some t) = codes "; " ++ deed_words t.deed ++ said (codes "at line") t.line ++ node_words t.deed t.count

-- of what an act is about: what began it last, and what ended it last
abbrev pub past_words : (past : List Trace) → Act → List ℕ
past_words past a = trace_words (last_of false (topic_of a) past) ++ trace_words (last_of true (topic_of a) past)

-- `line N: PARTY: RULE` or `line N: warning: ..`, what the act is about, and what is remembered of that
abbrev pub fault_line : (number : ℕ) → (past : List Trace) → Act → Fault → List ℕ
fault_line number past a f = codes "line " ++ decimal number ++ codes ": " ++ party_word (party_of f) ++ codes ": "
    ++ fault_words f ++ act_words a ++ past_words past a ++ codes "\n"
