-- A frame in words: what it says, or why it has not the shape of its row.
use Rattle.std.specs.Prelude.{◌≡◌, ◌⊎◌, ◌++◌, ℕ, zero, ℤ, pos, List, [], codes, decimal, length}
use Rattle.std.specs.Int.{cast_unsigned, w32}
use Rattle.std.specs.Int.RustNames.{unsigned_abs}
use Rattle.fk_fields.specs.Fields.{number_at}
use Rattle.fuse_protocol.specs.declared.agreed.Agreed.{Agreed}
use Rattle.fuse_protocol.specs.declared.fault.ShapeFault.{ShapeFault}
use Rattle.fuse_protocol.specs.declared.fault.ShapeFault.TheVariants as shape_fault
use Rattle.fuse_protocol.specs.declared.opcode.Opcode.{Opcode}
use Rattle.fuse_protocol.specs.Faults.{FaultIs, HasOpcode}
use Rattle.fuse_protocol.specs.Init.{init_request_at}
use Rattle.fuse_protocol.specs.Inits.{IsInit}
use Rattle.fuse_protocol.specs.Requests.{IsRequest, RequestMessage}
use Rattle.fuse_protocol.specs.Table.{name_of, row_at}
use Rattle.fuse_replies.specs.declared.fault.ReplyFault.{ReplyFault}
use Rattle.fuse_replies.specs.declared.fault.ReplyFault.TheVariants as reply_fault
use Rattle.fuse_replies.specs.declared.reply.ReplyHeader.{ReplyHeader}
use Rattle.fuse_replies.specs.Replies.{IsFrame, IsReply, ReplyFaultIs, ReplyMessage}
use Rattle.frame_words.specs.Errors.{error_words}
use Rattle.frame_words.specs.Replies.{reply_words}
use Rattle.frame_words.specs.Requests.{init_request_words, request_words}

-- why a frame is no request
abbrev pub shape_fault_words : ShapeFault → List ℕ
shape_fault_words shape_fault.Short = codes "the frame is too short for its header"
shape_fault_words shape_fault.Length = codes "the frame has another length than it says"
shape_fault_words shape_fault.Opcode = codes "the opcode is not known"
shape_fault_words shape_fault.Struct = codes "the frame is too short for its struct"
shape_fault_words shape_fault.Name = codes "a name breaks the rules of names"
shape_fault_words shape_fault.Tail = codes "the frame has another tail than it says"

-- why a frame is no reply
abbrev pub reply_fault_words : ReplyFault → List ℕ
reply_fault_words reply_fault.Unwanted = codes "the opcode has no replies"
reply_fault_words reply_fault.Short = codes "the frame is too short for its header"
reply_fault_words reply_fault.Length = codes "the frame has another length than it says"
reply_fault_words reply_fault.Error = codes "the error number is out of range"
reply_fault_words reply_fault.Body = codes "the body is not of its kind"
reply_fault_words reply_fault.Name = codes "a record's name breaks the rules of names"

-- `len LEN`
abbrev pub len_words : ℕ → List ℕ
len_words len = codes "len " ++ decimal len

-- ---- requests

-- what an INIT offers, and nothing of another frame
abbrev pub IsOfferText : List ℕ → List ℕ → Type 0
IsOfferText bytes text = (IsInit bytes × (text ≡ init_request_words (init_request_at bytes)))
    ⊎ ((IsInit bytes → ⊥) × (text ≡ []))

-- `OPNAME UNIQUE `
unfoldable pub known_head_words : Opcode → (unique : ℕ) → List ℕ
known_head_words o unique = name_of o ++ codes " " ++ decimal unique ++ codes " "

-- that of a frame with a whole header, and nothing of another
abbrev pub IsKnownHeadText : List ℕ → List ℕ → Type 0
IsKnownHeadText bytes text = ((o : Opcode) × HasOpcode bytes o × (text ≡ known_head_words o (number_at 8 8 bytes)))
    ⊎ (((o : Opcode) → HasOpcode bytes o → ⊥) × (text ≡ []))

-- `len LEN: ` and why
unfoldable pub bad_request_words : ShapeFault → (len : ℕ) → List ℕ
bad_request_words fault len = len_words len ++ codes ": " ++ shape_fault_words fault

-- What is printed of a frame that is read as a request: what the request says, or the first fault.
abbrev pub IsRequestText : Agreed → List ℕ → List ℕ → Type 0
IsRequestText agreed bytes text =
    ((o : Opcode) × (m : RequestMessage) × IsRequest agreed bytes (row_at o) m
    × (offer : List ℕ) × IsOfferText bytes offer × (text ≡ request_words o m (length bytes) ++ offer))
    ⊎ ((fault : ShapeFault) × FaultIs agreed bytes fault
    × (head : List ℕ) × IsKnownHeadText bytes head × (text ≡ head ++ bad_request_words fault (length bytes)))

-- ---- replies

-- the name of an error that a header has negated, or 0
abbrev pub signed_error_words : ℤ → List ℕ
signed_error_words (pos zero) = codes "0"
signed_error_words error = error_words (unsigned_abs error)

-- `WORD UNIQUE ERROR LEN`
unfoldable pub reply_head_words : (word : List ℕ) → ReplyHeader → (len : ℕ) → List ℕ
reply_head_words word header len = word ++ codes " " ++ decimal header.unique ++ codes " "
    ++ signed_error_words header.error ++ codes " " ++ decimal len

-- The bytes have this header.
abbrev pub HasHeader : List ℕ → ReplyHeader → Type 0
HasHeader bytes header = IsFrame bytes × (header.unique ≡ number_at 8 8 bytes)
    × (cast_unsigned w32 header.error ≡ number_at 4 4 bytes)

-- the head of a frame with a whole header, and the length of another
abbrev pub IsReplyHeadText : Opcode → List ℕ → List ℕ → Type 0
IsReplyHeadText o bytes text =
    ((header : ReplyHeader) × HasHeader bytes header × (text ≡ reply_head_words (name_of o) header (length bytes)))
    ⊎ ((IsFrame bytes → ⊥) × (text ≡ len_words (length bytes)))

-- What is printed of a frame that is read as a reply to an opcode, where so many bytes were asked for: what the reply
-- says, or the first fault.
abbrev pub IsReplyText : Agreed → Opcode → (asked : ℕ) → List ℕ → List ℕ → Type 0
IsReplyText agreed o asked bytes text =
    ((m : ReplyMessage) × IsReply agreed (row_at o).reply asked bytes m × (text ≡ reply_words o m (length bytes)))
    ⊎ ((fault : ReplyFault) × ReplyFaultIs agreed (row_at o).reply asked bytes fault
    × (head : List ℕ) × IsReplyHeadText o bytes head × (text ≡ head ++ (codes ": " ++ reply_fault_words fault)))
