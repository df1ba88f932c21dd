-- What is printed of one frame.
use Rattle.std.specs.Prelude.{◌⊎◌, ◌++◌, ℕ, Bool, if◌then◌else◌, List, [], Option, codes, decimal, length}
use Rattle.std.specs.Int.RustNames.{unsigned_abs}
use Rattle.std.specs.Io.KnownBytes.{Appends}
use Rattle.fk_wire.specs.declared.opcode.Opcode.{Opcode}
use Rattle.fk_wire.specs.Faults.{FaultIs}
use Rattle.fk_wire.specs.Opcodes.{name_of}
use Rattle.fk_wire.specs.Replies.{ReplyMessage, SpellsReply}
use Rattle.fk_wire.specs.ReplyFaults.{ReplyFaultIs}
use Rattle.fk_wire.specs.Requests.{RequestMessage, Spells, opcode_of}
use Rattle.fk_wire.specs.WireFaults.{fault_name, fault_number}
use Rattle.fk_wire.specs.declared.fault.WireFault.{WireFault}
use Rattle.fw_frames.specs.Words.{reply_words, request_words}

-- the head of a request, and the length of its frame
unfoldable pub request_head : RequestMessage → ℕ → List ℕ
request_head m len =
    name_of (opcode_of m.content) ++ codes " " ++ decimal m.unique ++ codes " " ++ decimal m.nodeid ++ codes " "
    ++ decimal len

-- of a request, with its fields or without
abbrev pub request_text : Bool → RequestMessage → ℕ → List ℕ
request_text words m len = request_head m len ++ (if words then request_words m.content else []) ++ codes "\n"

-- the head of a reply to a request of an opcode, its error as a positive number, and the length of its frame
unfoldable pub reply_head : Opcode → ReplyMessage → ℕ → List ℕ
reply_head opcode t len =
    name_of opcode ++ codes " " ++ decimal t.unique ++ codes " " ++ decimal (unsigned_abs t.error) ++ codes " "
    ++ decimal len

-- of a reply, with what it says
abbrev pub reply_text : Opcode → ReplyMessage → ℕ → List ℕ
reply_text opcode t len = reply_head opcode t len ++ reply_words t.content ++ codes "\n"

-- of a fault
abbrev pub fault_text : WireFault → List ℕ
fault_text fault = codes "fault " ++ decimal (fault_number fault) ++ codes " " ++ fault_name fault ++ codes "\n"

-- the writer got the text of the request that the bytes spell, or else of their first fault
abbrev pub PrintsFrame : Bool → List ℕ → (old new : Option (List ℕ)) → Type 0
PrintsFrame words bytes old new =
    ((m : RequestMessage) × Spells bytes m × Appends old new (request_text words m (length bytes)))
    ⊎ ((fault : WireFault) × FaultIs bytes fault × Appends old new (fault_text fault))

-- the writer got the text of the reply to an opcode that the bytes spell, or else of their first fault
abbrev pub PrintsReply : Opcode → List ℕ → (old new : Option (List ℕ)) → Type 0
PrintsReply opcode bytes old new =
    ((t : ReplyMessage) × SpellsReply opcode bytes t × Appends old new (reply_text opcode t (length bytes)))
    ⊎ ((fault : WireFault) × ReplyFaultIs opcode bytes fault × Appends old new (fault_text fault))
