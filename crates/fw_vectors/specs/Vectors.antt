-- The lines of the vectors: what was read, and the codec's verdict on it.
use Rattle.std.specs.Prelude.{◌≡◌, ◌⊎◌, ◌++◌, ℕ, ℤ, List, [], ◌∷◌, Option, codes, decimal, flat_map}
use Rattle.std.specs.Prelude.{Contains, if◌then◌else◌, nat_lt, length}
use Rattle.std.specs.Fmt.{signed_decimal}
use Rattle.std.specs.Io.KnownBytes.{Appends}
use Rattle.hex.specs.Hex.{encode_lower}
use Rattle.fk_wire.specs.declared.fault.WireFault.{WireFault}
use Rattle.fk_wire.specs.declared.opcode.Minor.{Minor}
use Rattle.fk_wire.specs.declared.opcode.Minor.TheVariants as minors
use Rattle.fk_wire.specs.declared.opcode.Opcode.{Opcode}
use Rattle.fk_wire.specs.Faults.{FaultIsAt}
use Rattle.fk_wire.specs.Fields.{number_at}
use Rattle.fk_wire.specs.Opcodes.{code_of}
use Rattle.fk_wire.specs.Replies.{ReplyMessage, SpellsReplyAt}
use Rattle.fk_wire.specs.ReplyFaults.{ReplyFaultIsAt}
use Rattle.fk_wire.specs.Requests.{RequestMessage, SpellsAt}
use Rattle.fk_wire.specs.WireFaults.{fault_name, fault_number}
use Rattle.fw_vectors.specs.Members.{reply_members, request_members}

abbrev pub minor_value : Minor → ℕ
minor_value minors.M15 = 15
minor_value minors.M31 = 31

-- the number at the place of the opcode in a frame that has this place
unfoldable pub opcode_word : List ℕ → List ℕ
opcode_word frame = if nat_lt (length frame) 8 then codes "null" else decimal (number_at 4 4 frame)

-- the verdict on a frame with a fault
unfoldable pub fault_members : WireFault → List ℕ
fault_members fault = codes "\"verdict\":\"fault\",\"number\":" ++ decimal (fault_number fault) ++ codes ",\"name\":\""
    ++ fault_name fault ++ codes "\""

-- on a frame that spells a request
abbrev pub request_verdict : RequestMessage → List ℕ
request_verdict m = codes "\"verdict\":\"ok\",\"fields\":{\"unique\":\"" ++ decimal m.unique ++ codes "\",\"nodeid\":\""
    ++ decimal m.nodeid ++ codes "\",\"body\":{" ++ request_members m.content ++ codes "}}"

-- the head of that on a frame that spells a reply
abbrev pub reply_start : (unique : ℕ) → (error : ℤ) → List ℕ
reply_start unique error = codes "\"verdict\":\"ok\",\"fields\":{\"unique\":\"" ++ decimal unique
    ++ codes "\",\"error\":\"" ++ signed_decimal error ++ codes "\",\"body\":{"

-- on a frame that spells a reply
abbrev pub reply_verdict : ReplyMessage → List ℕ
reply_verdict t = reply_start t.unique t.error ++ reply_members t.content ++ codes "}}"

-- what the codec says of a frame: the request that it spells, or its first fault
abbrev pub IsRequestVerdict : Minor → List ℕ → List ℕ → Type 0
IsRequestVerdict minor frame verdict =
    ((m : RequestMessage) × SpellsAt minor frame m × (verdict ≡ request_verdict m))
    ⊎ ((fault : WireFault) × FaultIsAt minor frame fault × (verdict ≡ fault_members fault))

-- the same, read as a reply to an opcode
abbrev pub IsReplyVerdict : Minor → Opcode → List ℕ → List ℕ → Type 0
IsReplyVerdict minor o frame verdict =
    ((t : ReplyMessage) × SpellsReplyAt minor o frame t × (verdict ≡ reply_verdict t))
    ⊎ ((fault : WireFault) × ReplyFaultIsAt minor o frame fault × (verdict ≡ fault_members fault))

-- the end of each line before its verdict: the minor version and the frame
unfoldable pub frame_members : Minor → List ℕ → List ℕ
frame_members minor frame = codes ",\"minor\":" ++ decimal (minor_value minor) ++ codes ",\"hex\":\""
    ++ encode_lower frame ++ codes "\","

-- the line of a request
abbrev pub request_vector_line : Minor → List ℕ → List ℕ → List ℕ
request_vector_line minor frame verdict = codes "{\"direction\":\"request\",\"opcode\":" ++ opcode_word frame
    ++ frame_members minor frame ++ verdict ++ codes "}\n"

-- the line of a reply to an opcode
abbrev pub reply_line : Minor → Opcode → List ℕ → List ℕ → List ℕ
reply_line minor o frame verdict = codes "{\"direction\":\"reply\",\"opcode\":" ++ decimal (code_of o)
    ++ frame_members minor frame ++ verdict ++ codes "}\n"

-- a line is that of a frame that is read as a request: its verdict is the codec's
abbrev pub IsRequestLine : Minor → List ℕ → List ℕ → Type 0
IsRequestLine minor frame line = (verdict : List ℕ) × IsRequestVerdict minor frame verdict
    × (line ≡ request_vector_line minor frame verdict)

-- the same of one that is read as a reply to an opcode
abbrev pub IsReplyLine : Minor → Opcode → List ℕ → List ℕ → Type 0
IsReplyLine minor o frame line = (verdict : List ℕ) × IsReplyVerdict minor o frame verdict
    × (line ≡ reply_line minor o frame verdict)

-- a vector's line: its verdict is the codec's of the frame that stands in it as hex
abbrev pub IsVectorLine : List ℕ → Type 0
IsVectorLine line = (minor : Minor) × (frame : List ℕ)
    × (IsRequestLine minor frame line ⊎ ((o : Opcode) × IsReplyLine minor o frame line))

-- Each is a vector's line.
abbrev pub AreVectorLines : List (List ℕ) → Type 0
AreVectorLines [] = Unit {0}
AreVectorLines (line ∷ lines) = IsVectorLine line × AreVectorLines lines

-- the writer got lines of vectors alone
abbrev pub PrintsVectors : (old new : Option (List ℕ)) → Type 0
PrintsVectors old new = (lines : List (List ℕ)) × AreVectorLines lines × Appends old new (flat_map (λ line. line) lines)

-- What becomes of an output, of which `out` says what it holds, where the vectors are printed, by the exit status: 0, 3
-- where memory runs out, 5 where the output refuses.
pub record EndsVectors {W : Type 0} (out : W → Option (List ℕ)) (old new : W) (status : ℕ) : Type 0 where
  pub statuses : Contains (0 ∷ 3 ∷ 5 ∷ []) status
  pub printed : status ≡ 0 → PrintsVectors (out old) (out new)
  pub silent : status ≡ 3 → new ≡ old
