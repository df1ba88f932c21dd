-- What went over a device, read as acts: by the shapes of its frames, by what INIT agreed on, and by what waits.
-- Sources: linux/fuse.h, the kernel's fuse.rst and dev.c.
use Rattle.std.specs.Prelude.{◌≡◌, ℕ, ◌-◌, ◌%◌, ◌^◌, ◌==◌, ◌⊎◌, Bool, true, false, MatchBool, MatchOption, if◌then◌else◌, bit_and, List, [], ◌∷◌, ◌++◌, drop, Option, Some, None}
use Rattle.std.specs.List.{flat_map}
use Rattle.fk_fields.specs.Fields.{number_at}
use Rattle.fuse_protocol.specs.declared.agreed.Agreed.{Agreed}
use Rattle.fuse_protocol.specs.declared.agreed.Unjudged.{Unjudged}
use Rattle.fuse_protocol.specs.declared.init.InitRequest.{InitRequest}
use Rattle.fuse_protocol.specs.declared.init.InitReply.{InitReply}
use Rattle.fuse_protocol.specs.declared.opcode.Opcode.{Opcode}
use Rattle.fuse_protocol.specs.declared.opcode.Opcode.TheVariants as op
use Rattle.fuse_protocol.specs.Agreement.{before_init, IsAgreement, UnjudgedIs}
use Rattle.fuse_protocol.specs.Init.{init_request_at}
use Rattle.fuse_protocol.specs.Inits.{IsInit}
use Rattle.fuse_protocol.specs.Requests.{RequestMessage, IsRequest}
use Rattle.fuse_protocol.specs.Table.{row_at}
use Rattle.fuse_replies.specs.Replies.{AnswerContent, ReplyMessage, IsFrame, IsErrorWord, IsReply}
use Rattle.fuse_replies.specs.Replies as answer
use Rattle.fuse_replies.specs.Records.{entry_records_from}
use Rattle.fuse_replies.specs.Notifications.{IsNotification}
use Rattle.fuse_sessions.specs.declared.act.Act.{Act}
use Rattle.fuse_sessions.specs.declared.act.Act.TheVariants.{Faulty, Takes, Interrupted, Replies, Resends, RepliesToInterrupt, SeveralReaders, SeveralWriters, Ends}
use Rattle.fuse_sessions.specs.declared.act.Asked.{Asked}
use Rattle.fuse_sessions.specs.declared.act.Fit.{Fit}
use Rattle.fuse_sessions.specs.declared.act.Fit.TheVariants as fit
use Rattle.fuse_sessions.specs.declared.act.Taken.{Taken}
use Rattle.fuse_sessions.specs.declared.act.Taken.TheVariants as taken
use Rattle.fuse_sessions.specs.declared.fault.Fault.TheVariants as fault
use Rattle.fuse_sessions.specs.declared.known.Known.{Known}
use Rattle.fuse_sessions.specs.declared.transfer.Transfer.{Transfer}
use Rattle.fuse_sessions.specs.declared.transfer.Transfer.TheVariants as transfer
use Rattle.fuse_sessions.specs.Sessions.{Session}
use Rattle.fuse_sessions.specs.Waiting.{waits}
use Rattle.fuse_sessions.specs.Fits.{fit_in, fit_of_another}
use Rattle.fuse_sessions.specs.RequestActs.{request_acts}
use Rattle.fuse_sessions.specs.UnreadRequests.{unread_acts}
use Rattle.fuse_sessions.specs.ReplyActs.{answer_acts, record_acts}

-- Read as a message, this is done by what it says; where it is none, this.
abbrev pub Reads : {M : Type 0} → (Is Does : M → Type 0) → (else_does : Type 0) → Type 0
Reads {M} Is Does else_does = ((m : M) × Is m × Does m) ⊎ (((m : M) → Is m → ⊥) × else_does)

-- ---- requests

-- The bytes are a request of an opcode's row.
abbrev pub IsRequestOf : Agreed → List ℕ → Opcode × RequestMessage → Type 0
IsRequestOf agreed bytes q = IsRequest agreed bytes (row_at q.0) q.1

-- A request is one of a row, or it is not read further.
abbrev pub AreRequestActs : Known → List ℕ → List Act → Type 0
AreRequestActs k bytes acts = Reads (IsRequestOf k.agreed bytes) (λ q. acts ≡ request_acts k.has_resent q.0 q.1)
    (acts ≡ unread_acts k.offered bytes)

-- What is offered is what the first INIT offers.
abbrev pub IsFirstInit : Known → List ℕ → Type 0
IsFirstInit k bytes = (k.offered ≡ None) × IsInit bytes

abbrev pub IsOffered : Known → List ℕ → Known → Type 0
IsOffered k bytes later = (IsFirstInit k bytes × (later ≡ record k { offered = Some (init_request_at bytes) }))
    ⊎ ((IsFirstInit k bytes → ⊥) × (later ≡ k))

-- ---- replies and notifications

-- the number and the error of a frame that is written
abbrev pub number_in : List ℕ → ℕ
number_in bytes = number_at 8 8 bytes

abbrev pub error_in : List ℕ → ℕ
error_in bytes = number_at 4 4 bytes

-- FUSE_NOTIFY_RESEND, code 7, which the device accepted
abbrev pub is_resend : List ℕ → Taken → Bool
is_resend bytes taken.Accepted = error_in bytes == 7
is_resend bytes t = false

abbrev pub known_resent : Known → Bool → Known
known_resent k again = if again then record k { has_resent = true } else k

-- A notification has number 0. One alone is an act that others are judged by.
abbrev pub IsNotified : Known → List ℕ → Taken → List Act → Known → Type 0
IsNotified k bytes t acts later = Reads (IsNotification k.agreed bytes)
    (λ m. (acts ≡ (if is_resend bytes t then Resends ∷ [] else [])) × (later ≡ known_resent k (is_resend bytes t)))
    ((acts ≡ Faulty fault.MalformedNotification ∷ []) × (later ≡ k))

-- -EAGAIN, -11, in 32 bits
abbrev pub eagain : ℕ
eagain = 2 ^ 32 - 11

-- An INTERRUPT's number is one above that of the request that it interrupts. (fuse.rst)
abbrev pub interrupt_acts : List ℕ → Taken → List Act
interrupt_acts bytes t = RepliesToInterrupt (number_in bytes - 1) (error_in bytes == eagain) t ∷ []

-- INIT's reply is of protocol 7, and has no flag that its request lacks. (linux/fuse.h)
abbrev pub of_version : InitReply → List Act
of_version i = if i.major == 7 then [] else Faulty fault.InitOfAnotherVersion ∷ []

abbrev pub of_offered : InitRequest → InitReply → List Act
of_offered r i = if bit_and i.flags r.flags == i.flags then [] else Faulty fault.FlagsThatWereNotOffered ∷ []

abbrev pub init_acts : Option InitRequest → AnswerContent → List Act
init_acts (Some r) (answer.init i) = of_version i ++ of_offered r i
init_acts offered content = []

-- what a reply says, once the device has accepted it
abbrev pub said_acts : Known → Opcode → Asked → Taken → AnswerContent → List Act
said_acts k o a taken.Accepted content = init_acts k.offered content ++ answer_acts o a content
said_acts k o a t content = []

-- What the two sides agree on is known from an accepted reply to INIT on, or why their frames cannot be read.
abbrev pub IsAgreed : Known → Option InitRequest → InitReply → Known → Type 0
IsAgreed k None i later = later ≡ k
IsAgreed k (Some r) i later = ((agreed : Agreed) × IsAgreement r i agreed × (later ≡ record k { agreed = agreed }))
    ⊎ ((why : Unjudged) × UnjudgedIs r i why × (later ≡ record k { unjudged = Some why }))

abbrev pub IsTold : Known → Taken → AnswerContent → Known → Type 0
IsTold k taken.Accepted (answer.init i) later = IsAgreed k k.offered i later
IsTold k t content later = later ≡ k

-- -EINTR, -4, in 32 bits
abbrev pub eintr : ℕ
eintr = 2 ^ 32 - 4

-- the device accepts EINTR
abbrev pub eintr_acts : List ℕ → Taken → List Act
eintr_acts bytes taken.Accepted = if error_in bytes == eintr then Interrupted (number_in bytes) ∷ [] else []
eintr_acts bytes t = []

-- the device takes a reply, or does not, and it replies
abbrev pub replied : List ℕ → Taken → Fit → List Act
replied bytes t body =
    eintr_acts bytes t ++ Takes (number_in bytes) t body ∷ Replies (number_in bytes) t ∷ []

-- Of a listing with a bad name Linux counts the entries before it: so whether each counts is not certain.
-- (linux/fs/fuse/readdir.c)
abbrev pub listed_acts : Opcode → Asked → Taken → List ℕ → List Act
listed_acts op.Readdirplus a taken.Accepted bytes = if error_in bytes == 0
    then flat_map (record_acts false a) (entry_records_from 0 (drop 16 bytes)) else []
listed_acts o a t bytes = []

-- A reply to a request of an opcode.
abbrev pub IsReplyOf : Known → List ℕ → Taken → Opcode → Asked → List Act → Known → Type 0
IsReplyOf k bytes t o a acts later = Reads (IsReply k.agreed (row_at o).reply a.asked bytes)
    (λ m. (acts ≡ replied bytes t (fit_in (row_at o).reply a.asked bytes) ++ said_acts k o a t m.answer)
    × IsTold k t m.answer later)
    ((acts ≡ Faulty fault.BodyOfAnotherRequest
    ∷ (replied bytes t (fit_of_another (fit_in (row_at o).reply a.asked bytes)) ++ listed_acts o a t bytes))
    × (later ≡ k))

-- A reply to a request that was judged by an opcode, or by none.
abbrev pub IsReplyBy : Known → List ℕ → Taken → Option Opcode → Asked → List Act → Known → Type 0
IsReplyBy k bytes t None a acts later = (acts ≡ replied bytes t fit.MayFit) × (later ≡ k)
IsReplyBy k bytes t (Some o) a acts later = IsReplyOf k bytes t o a acts later

-- A reply, by what waits under its number. Where nothing does, nothing is said of its body.
abbrev pub IsReplyTo : Known → List ℕ → Taken → Option Asked → List Act → Known → Type 0
IsReplyTo k bytes t None acts later = (acts ≡ replied bytes t fit.MayFit) × (later ≡ k)
IsReplyTo k bytes t (Some a) acts later = IsReplyBy k bytes t a.opcode a acts later

-- The header is whole, and its error is one; a notification has its code there.
abbrev pub IsHead : List ℕ → Type 0
IsHead bytes = IsFrame bytes × MatchBool (number_in bytes == 0) (Unit {0}) (IsErrorWord (error_in bytes))

-- A reply under an odd number is one to an INTERRUPT, unless a request waits under that number itself.
abbrev pub is_to_interrupt : ℕ → Option Asked → Bool
is_to_interrupt number None = number % 2 == 1
is_to_interrupt number (Some a) = false

-- what is written under a good header
abbrev pub IsHeaded : Known → Session → List ℕ → Taken → List Act → Known → Type 0
IsHeaded k s bytes t acts later = MatchBool (number_in bytes == 0)
    (IsNotified k bytes t acts later)
    (MatchBool (is_to_interrupt (number_in bytes) (waits s (number_in bytes)))
    ((acts ≡ interrupt_acts bytes t) × (later ≡ k))
    (IsReplyTo k bytes t (waits s (number_in bytes)) acts later))

abbrev pub IsWritten : Known → Session → List ℕ → Taken → List Act → Known → Type 0
IsWritten k s bytes t acts later = (IsHead bytes × IsHeaded k s bytes t acts later)
    ⊎ ((IsHead bytes → ⊥) × (acts ≡ Faulty fault.MalformedReply ∷ []) × (later ≡ k))

-- ---- transfers

-- These are the acts of a transfer whose frames can be read, and what is known after it.
abbrev pub AreReadActs : Known → Session → Transfer → List Act → Known → Type 0
AreReadActs k s (transfer.Request bytes) acts later = AreRequestActs k bytes.now acts × IsOffered k bytes.now later
AreReadActs k s (transfer.Written bytes t) acts later = IsWritten k s bytes.now t acts later
AreReadActs k s transfer.SeveralReaders acts later = (acts ≡ SeveralReaders ∷ []) × (later ≡ k)
AreReadActs k s transfer.SeveralWriters acts later = (acts ≡ SeveralWriters ∷ []) × (later ≡ k)
AreReadActs k s transfer.Ended acts later = (acts ≡ Ends ∷ []) × (later ≡ k)

-- These are the acts of the next transfer, and what is known after it. Once INIT agreed on frames that cannot be read
-- there are none.
abbrev pub AreActs : Known → Session → Transfer → List Act → Known → Type 0
AreActs k s t acts later =
    MatchOption k.unjudged (AreReadActs k s t acts later) (λ why. (acts ≡ []) × (later ≡ k))

-- The transfers lead from one session, with what was known, to another.
abbrev pub Lead : Known → Session → List Transfer → Known → Session → Type 0
Lead k s [] later all = (later ≡ k) × (all ≡ s)
Lead k s (t ∷ ts) later all =
    (acts : List Act) × (next : Known) × AreActs k s t acts next × Lead next (s ++ acts) ts later all

-- before anything
abbrev pub nothing_known : Known
nothing_known = record { offered = None; agreed = before_init; has_resent = false; unjudged = None }

-- The session of these transfers has these acts, and this is known after it.
abbrev pub IsSession : List Transfer → Known → Session → Type 0
IsSession transfers k s = Lead nothing_known [] transfers k s

-- Each reply and notification that is written is accepted.
abbrev pub AreAccepted : List Transfer → Type 0
AreAccepted [] = Unit {0}
AreAccepted (transfer.Written bytes t ∷ ts) = (t ≡ taken.Accepted) × AreAccepted ts
AreAccepted (t ∷ ts) = AreAccepted ts
