-- The first fault of a reply, each where those before it do not apply.
use Rattle.std.specs.Prelude.{◌≡◌, ◌≢◌, ◌≤◌, ◌<◌, ℕ, IsTrue, ◌+◌, ◌==◌, if◌then◌else◌, List, length, Some, None}
use Rattle.std.specs.Int.{cast_signed, cast_unsigned, w32}
use Rattle.fk_wire.specs.declared.fault.WireFault.{WireFault}
use Rattle.fk_wire.specs.declared.fault.WireFault.TheVariants as faults
use Rattle.fk_wire.specs.declared.opcode.Opcode.{Opcode}
use Rattle.fk_wire.specs.declared.opcode.Minor.{Minor}
use Rattle.fk_wire.specs.declared.reply.ReplyHead.{ReplyHead}
use Rattle.fk_wire.specs.declared.reply.ReplyKind.{ReplyKind}
use Rattle.fk_wire.specs.declared.reply.ReplyKind.TheVariants as kind
use Rattle.fk_wire.specs.Opcodes.{latest_minor}
use Rattle.fk_wire.specs.Fields.{ReadsAs, number_at, sizes}
use Rattle.fk_wire.specs.Requests.{max_frame}
use Rattle.fk_wire.specs.Dirents.{DirentContent, DirentPlusContent, dirents, direntpluses, HaveEntries}
use Rattle.fk_wire.specs.Records.{AreRecords, AreRecordsPlus}
use Rattle.fk_wire.specs.Replies.{reply_kind, knows_kind, kind_of_content, states_15, IsErrorNumber, ReplyMessage}
use Rattle.fk_wire.specs.Replies.{IsAlone, IsReplyContent, HasReplyNames, reply_body}

-- A frame has what a body of its kind has, whatever its names are.
abbrev pub FillsReply : ReplyKind → List ℕ → Type 0
FillsReply kind.Empty bytes = length bytes ≡ 16
FillsReply kind.Entry bytes = (length bytes ≡ 144) × (number_at 48 4 bytes ≤ 999999999)
FillsReply kind.Attr bytes = length bytes ≡ 120
FillsReply kind.Open bytes = length bytes ≡ 32
FillsReply kind.Bytes bytes = 16 ≤ length bytes
FillsReply kind.Write bytes = length bytes ≡ 24
FillsReply kind.Init bytes = length bytes ≡ (if states_15 (number_at 16 4 bytes) (number_at 20 4 bytes) then 40 else 80)
FillsReply kind.Create bytes = (length bytes ≡ 160) × (number_at 48 4 bytes ≤ 999999999)
FillsReply kind.Records bytes = (ds : List DirentContent) × ReadsAs 16 (dirents ds) bytes
FillsReply kind.RecordsPlus bytes = (ps : List DirentPlusContent) × HaveEntries ps × ReadsAs 16 (direntpluses ps) bytes

-- Its names are records' names.
abbrev pub HasNamesOf : ReplyKind → List ℕ → Type 0
HasNamesOf kind.Records bytes = (ds : List DirentContent) × AreRecords 16 bytes ds
HasNamesOf kind.RecordsPlus bytes = (ps : List DirentPlusContent) × AreRecordsPlus 16 bytes ps
HasNamesOf k bytes = Unit {0}

-- the fault of a body of this kind
abbrev pub ReplyBodyFaultIs : ReplyKind → List ℕ → WireFault → Type 0
ReplyBodyFaultIs k bytes faults.Body = FillsReply k bytes → ⊥
ReplyBodyFaultIs k bytes faults.Name = FillsReply k bytes × (HasNamesOf k bytes → ⊥)
ReplyBodyFaultIs k bytes _ = ⊥

-- A frame is as long as it says.
abbrev pub HasReplyLength : List ℕ → Type 0
HasReplyLength bytes = (16 ≤ length bytes) × (number_at 0 4 bytes ≡ length bytes)

-- It has this head: it is as long as it says, and its error, which is in range, and its unique stand there.
abbrev pub IsReplyHead : List ℕ → ReplyHead → Type 0
IsReplyHead bytes head = HasReplyLength bytes × IsErrorNumber head.error
    × (cast_unsigned w32 head.error ≡ number_at 4 4 bytes) × (head.unique ≡ number_at 8 8 bytes)

-- Its error is in range.
abbrev pub HasError : List ℕ → Type 0
HasError bytes = IsErrorNumber (cast_signed w32 (number_at 4 4 bytes))

-- the kind of body that a frame has to have, where replies have this kind: with an error it is empty
abbrev pub kind_in : List ℕ → ReplyKind → ReplyKind
kind_in bytes k = if number_at 4 4 bytes == 0 then k else kind.Empty

-- The first fault of a frame. In each line the faults of the lines above do not apply.
abbrev pub ReplyFaultIsAt : Minor → Opcode → List ℕ → WireFault → Type 0
ReplyFaultIsAt minor o bytes faults.Short = length bytes < 16
ReplyFaultIsAt minor o bytes faults.Length = (16 ≤ length bytes) × (number_at 0 4 bytes ≢ length bytes)
ReplyFaultIsAt minor o bytes faults.ErrorRange = HasReplyLength bytes × (HasError bytes → ⊥)
ReplyFaultIsAt minor o bytes faults.Opcode = HasReplyLength bytes × HasError bytes × (reply_kind minor o ≡ None)
ReplyFaultIsAt minor o bytes faults.Body = HasReplyLength bytes × HasError bytes × (k : ReplyKind)
    × (reply_kind minor o ≡ Some k) × ((length bytes ≤ max_frame) × FillsReply (kind_in bytes k) bytes → ⊥)
ReplyFaultIsAt minor o bytes faults.Name = HasReplyLength bytes × HasError bytes × (k : ReplyKind)
    × (reply_kind minor o ≡ Some k) × (length bytes ≤ max_frame) × FillsReply (kind_in bytes k) bytes
    × (HasNamesOf (kind_in bytes k) bytes → ⊥)
ReplyFaultIsAt minor o bytes _ = ⊥

-- what a reply has to be, whatever its names are
abbrev pub FitsReply : ReplyMessage → Type 0
FitsReply t = IsAlone t × IsReplyContent t.content × (16 + sizes (reply_body t.content) ≤ max_frame)

-- The first fault of a reply that is to be written. Memory runs out only for one that has a spelling.
abbrev pub ReplyRefusalIsAt : Minor → ReplyMessage → WireFault → Type 0
ReplyRefusalIsAt minor t faults.ErrorRange = IsErrorNumber t.error → ⊥
ReplyRefusalIsAt minor t faults.Opcode = IsErrorNumber t.error
    × (IsTrue (knows_kind minor (kind_of_content t.content)) → ⊥)
ReplyRefusalIsAt minor t faults.Body = IsErrorNumber t.error × IsTrue (knows_kind minor (kind_of_content t.content))
    × (FitsReply t → ⊥)
ReplyRefusalIsAt minor t faults.Name = IsErrorNumber t.error × IsTrue (knows_kind minor (kind_of_content t.content))
    × FitsReply t × (HasReplyNames t.content → ⊥)
ReplyRefusalIsAt minor t faults.Memory = IsErrorNumber t.error × IsTrue (knows_kind minor (kind_of_content t.content))
    × FitsReply t × HasReplyNames t.content
ReplyRefusalIsAt minor t _ = ⊥

-- The fault of a reply at the latest minor version.
abbrev pub ReplyFaultIs : Opcode → List ℕ → WireFault → Type 0
ReplyFaultIs = ReplyFaultIsAt latest_minor

abbrev pub ReplyRefusalIs : ReplyMessage → WireFault → Type 0
ReplyRefusalIs = ReplyRefusalIsAt latest_minor

-- the faults that a header alone shows
abbrev pub IsReplyHeadFault : WireFault → Type 0
IsReplyHeadFault faults.Short = Unit {0}
IsReplyHeadFault faults.Length = Unit {0}
IsReplyHeadFault faults.ErrorRange = Unit {0}
IsReplyHeadFault _ = ⊥
