-- How what is written answers a request.
use Rattle.std.proofs.Common.{◌≡◌, ◌≢◌, Bool, true, false, true≢false, refl, sym, subst, ap, Option, Some, None, is_some, IsTrue, List, ℕ, ◌++◌, if◌then◌else◌}
use Rattle.fk_wire.specs.Opcodes.{latest_minor, reply_kind_of}
use Rattle.fk_wire.specs.Requests.{RequestMessage, Spells, opcode_of}
use Rattle.fk_wire.specs.Replies.{ReplyMessage, GoesWith, SpellsReply, WrittenReply}
use Rattle.fk_wire.proofs.Frames.{spells_reply}
use Rattle.fk_wire.specs.declared.fault.WireFault.{WireFault}
use Rattle.fk_wire.specs.declared.fault.WireFault.TheVariants.{Memory as MemoryFault}
use Rattle.fk_wire.specs.ReplyFaults.{ReplyRefusalIs}
use Rattle.callers.specs.Answered.{AnswerFaultIs, AnswersRequest, replied, reply_to}

-- What is known and there is some kind.
pub kind_there : {K : Type 0} (b : Bool) (x : Option K) → IsTrue b → is_some x ≡ true
    → (k : K) × ((if b then x else None) ≡ Some k)
kind_there true (Some k) known replies = (k, refl)
kind_there true None known replies = absurd (true≢false (sym replies))
kind_there false x known replies = absurd (true≢false (sym known))

pub none_there : {K : Type 0} (x : Option K) → false ≡ is_some x → x ≡ None
none_there None none = refl
none_there (Some k) none = absurd (true≢false (sym none))

pub some_there : {K : Type 0} (x : Option K) → is_some x ≡ true → x ≢ None
some_there (Some k) there = λ none. true≢false (ap is_some none)
some_there None there = absurd (true≢false (sym there))

-- The reply to the request, written behind the old bytes, answers it.
pub answered_by : (frame old new : List ℕ) (request : RequestMessage) (reply : ReplyMessage) → Spells frame request
    → reply ≡ reply_to request
    → GoesWith latest_minor (opcode_of request.content) reply
    → ((bytes : List ℕ) × WrittenReply reply bytes × (new ≡ old ++ bytes)) → AnswersRequest frame old new
answered_by frame old new request reply spells is goes (bytes, written, appended) =
    replied request spells bytes (subst (SpellsReply (opcode_of request.content) bytes) is
    (spells_reply latest_minor (opcode_of request.content) reply bytes goes written)) appended

-- Where only memory for the reply can be out, that is the fault.
pub unsent : (frame : List ℕ) (request : RequestMessage) (reply : ReplyMessage) → Spells frame request
    → reply_kind_of (opcode_of request.content) ≢ None
    → ((fault : WireFault) → ReplyRefusalIs reply fault → fault ≡ MemoryFault)
    → (fault : WireFault) → ReplyRefusalIs reply fault → AnswerFaultIs frame fault
unsent frame request reply spells replies only fault refused =
    subst (AnswerFaultIs frame) (sym (only fault refused)) (request, spells, replies)
