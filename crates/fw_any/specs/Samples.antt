-- The lines of the vectors of every opcode: what was read, and the reader's verdict on it, where INIT agreed on no flag.
use Rattle.std.specs.Prelude.{◌≡◌, ◌⊎◌, ◌++◌, ℕ, List, [], ◌∷◌, Option, Some, None, All, Contains, codes, decimal, flat_map}
use Rattle.std.specs.Io.KnownBytes.{Appends}
use Rattle.hex.specs.Hex.{encode_lower}
use Rattle.fuse_protocol.specs.Agreement.{before_init}
use Rattle.fuse_protocol.specs.Faults.{FaultIs}
use Rattle.fuse_protocol.specs.Requests.{IsRequest, RequestMessage}
use Rattle.fuse_protocol.specs.Table.{code_of, name_of, row_at}
use Rattle.fuse_protocol.specs.declared.fault.ShapeFault.{ShapeFault}
use Rattle.fuse_protocol.specs.declared.opcode.Opcode.{Opcode}
use Rattle.fuse_replies.specs.Replies.{IsReply, ReplyFaultIs, ReplyMessage}
use Rattle.fuse_replies.specs.declared.fault.ReplyFault.{ReplyFault}
use Rattle.frame_words.specs.Frames.{reply_fault_words, shape_fault_words}
use Rattle.fw_vectors.specs.Vectors.{PrintsVectors}

-- the start of each line
unfoldable pub line_start : (direction : List ℕ) → Opcode → List ℕ
line_start direction o = codes "{\"direction\":\"" ++ direction ++ codes "\",\"opcode\":" ++ decimal (code_of o)
    ++ codes ",\"name\":\"" ++ name_of o ++ codes "\",\"any\":true,"

-- how many bytes were asked for
unfoldable pub asked_member : ℕ → List ℕ
asked_member asked = codes "\"asked\":" ++ decimal asked ++ codes ","

-- the frame
unfoldable pub frame_member : List ℕ → List ℕ
frame_member frame = codes "\"hex\":\"" ++ encode_lower frame ++ codes "\","

-- the end of each line: whether the frame has the shape of its row, or why not
unfoldable pub verdict_end : Option (List ℕ) → List ℕ
verdict_end None = codes "\"verdict\":\"ok\"}\n"
verdict_end (Some why) = codes "\"verdict\":\"fault\",\"why\":\"" ++ why ++ codes "\"}\n"

-- the line of a request
abbrev pub request_line : Opcode → List ℕ → Option (List ℕ) → List ℕ
request_line o frame why = line_start (codes "request") o ++ frame_member frame ++ verdict_end why

-- of a reply to an opcode, where so many bytes were asked for
abbrev pub reply_line : Opcode → (asked : ℕ) → List ℕ → Option (List ℕ) → List ℕ
reply_line o asked frame why = line_start (codes "reply") o ++ asked_member asked ++ frame_member frame
    ++ verdict_end why

-- A line is that of a frame that is read as a request: of the opcode of which it is one, or with its first fault.
abbrev pub IsRequestLine : List ℕ → List ℕ → Type 0
IsRequestLine frame line =
    ((o : Opcode) × (m : RequestMessage) × IsRequest before_init frame (row_at o) m
    × (line ≡ request_line o frame None))
    ⊎ ((o : Opcode) × (fault : ShapeFault) × FaultIs before_init frame fault
    × (line ≡ request_line o frame (Some (shape_fault_words fault))))

-- The same of a reply to an opcode, where so many bytes were asked for.
abbrev pub IsReplyLine : Opcode → (asked : ℕ) → List ℕ → List ℕ → Type 0
IsReplyLine o asked frame line =
    ((m : ReplyMessage) × IsReply before_init (row_at o).reply asked frame m
    × (line ≡ reply_line o asked frame None))
    ⊎ ((fault : ReplyFault) × ReplyFaultIs before_init (row_at o).reply asked frame fault
    × (line ≡ reply_line o asked frame (Some (reply_fault_words fault))))

-- A line of a vector: its verdict is the reader's of the frame that stands in it as hex.
abbrev pub IsSampleLine : List ℕ → Type 0
IsSampleLine line = (frame : List ℕ)
    × (IsRequestLine frame line ⊎ ((o : Opcode) × (asked : ℕ) × IsReplyLine o asked frame line))

-- the writer got such lines alone
abbrev pub PrintsSamples : (old new : Option (List ℕ)) → Type 0
PrintsSamples old new = (lines : List (List ℕ)) × All IsSampleLine lines × Appends old new (flat_map (λ line. line) lines)

-- What becomes of an output, of which `out` says what it holds, where all vectors are printed, by the exit status: 0,
-- first the codec's and then these; 3 where memory runs out; 5 where the output refuses.
pub record EndsAllVectors {W : Type 0} (out : W → Option (List ℕ)) (old new : W) (status : ℕ) : Type 0 where
  pub statuses : Contains (0 ∷ 3 ∷ 5 ∷ []) status
  pub printed : status ≡ 0 → (mid : Option (List ℕ)) × PrintsVectors (out old) mid × PrintsSamples mid (out new)
  pub silent : status ≡ 3 → new ≡ old
