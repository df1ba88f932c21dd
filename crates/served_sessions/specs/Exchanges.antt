-- The shape of what goes over a server's device, and which transfers of a session it is.
use Rattle.std.specs.Prelude.{◌≡◌, ◌≢◌, ◌≤◌, ◌<◌, ℕ, ◌^◌, true, List, [], ◌∷◌, length, bit_and}
use Rattle.fuse_spec.specs.declared.WriteResult.{WriteResult}
use Rattle.fuse_spec.specs.declared.WriteResult.TheVariants.{Accepted, NoEntry, Invalid}
use Rattle.fuse_device.specs.Transfers.{Transfer, received, sent, unsent, stopped}
use Rattle.fuse_device.specs.declared.device.DeviceEnd.{DeviceEnd}
use Rattle.fk_fields.specs.Fields.{number_at}
use Rattle.fk_wire.specs.Faults.{HasLength}
use Rattle.fuse_protocol.specs.declared.init.InitReply.{InitReply}
use Rattle.fuse_protocol.specs.Init.{init_request_at, init_reply_at}
use Rattle.fuse_protocol.specs.declared.agreed.Agreed.{Agreed}
use Rattle.fuse_protocol.specs.declared.opcode.Opcode.{Opcode}
use Rattle.fuse_protocol.specs.Requests.{asked_at}
use Rattle.fuse_protocol.specs.Table.{code_of, row_at}
use Rattle.fuse_replies.specs.Replies.{IsErrorWord, IsFrame, IsReply, ReplyMessage}
use Rattle.fuse_sessions.specs.declared.act.Taken.{Taken}
use Rattle.fuse_sessions.specs.declared.act.Taken.TheVariants as taken
use Rattle.fuse_sessions.specs.declared.transfer.Transfer.{Transfer as Said}
use Rattle.fuse_sessions.specs.declared.transfer.Transfer.TheVariants as said
use Rattle.fuse_sessions.specs.Frames.{number_in, error_in}
use Rattle.fuse_sessions.specs.UnreadRequests.{opcode_in, unique_in, takes_no_reply}

-- INIT's reply has no flag beyond the first 32.
abbrev pub IsPlainInit : InitReply → Type 0
IsPlainInit i = i.flags < 2 ^ 32

-- INIT's reply is of protocol 7, and has no flag that this request of INIT lacks. (linux/fuse.h)
pub record AgreesOn (request reply : List ℕ) : Type 0 where
  pub version : (init_reply_at reply).major ≡ 7
  pub plain : IsPlainInit (init_reply_at reply)
  pub flags : bit_and (init_reply_at reply).flags (init_request_at request).flags ≡ (init_reply_at reply).flags

-- A body says of a WRITE that no more was written than its bytes, and of a copy of a range nothing: this server answers
-- an error to it. (linux/fuse.h, struct fuse_write_in, struct fuse_write_out)
pub record SaysFew (request reply : List ℕ) : Type 0 where
  pub written : opcode_in request ≡ 16 → number_at 16 4 reply ≤ number_at 56 4 request
  pub no_copy : (opcode_in request ≢ 47) × (opcode_in request ≢ 53)

-- A frame has no body behind an error, and else the body of a reply to the request's opcode, whatever was agreed on but
-- names of 255 bytes: of the shape of its row, and of no more bytes than were asked for.
pub record HasBodyOf (request reply : List ℕ) : Type 0 where
  pub bare : error_in reply ≢ 0 → length reply ≡ 16
  pub fits : error_in reply ≡ 0 → (agreed : Agreed) → 255 ≤ agreed.max_name → (o : Opcode) → code_of o ≡ opcode_in request
      → (m : ReplyMessage) × IsReply agreed (row_at o).reply (asked_at (row_at o).reply request) reply m
  pub few : error_in reply ≡ 0 → SaysFew request reply

-- A frame answers the frame of a request: its header is whole, with an error or none, and its number is the request's.
-- FORGET and BATCH_FORGET are not answered, and INTERRUPT and NOTIFY_REPLY by an error alone. An INTERRUPT has its
-- request's number behind the header, 48 bytes in all. (linux/fuse.h, struct fuse_interrupt_in)
pub record IsAnswer (request reply : List ℕ) : Type 0 where
  pub header : HasLength request
  pub frame : IsFrame reply
  pub error : IsErrorWord (error_in reply)
  pub number : number_in reply ≡ unique_in request
  pub no_forget : (opcode_in request ≢ 2) × (opcode_in request ≢ 42)
  pub fails : takes_no_reply (opcode_in request) ≡ true → error_in reply ≢ 0
  pub interrupt : opcode_in request ≡ 36 → length request ≡ 48
  pub body : HasBodyOf request reply
  pub init : opcode_in request ≡ 26 → error_in reply ≡ 0 → AgreesOn request reply

-- Behind each frame that was received at most one was sent, which answers it so, or the device came to its end.
pub data AreExchangesBy (Answers : List ℕ → List ℕ → Type 0) : List Transfer → Type 0 where
  nothing : AreExchangesBy Answers []
  unanswered : (request : List ℕ) (later : List Transfer) → AreExchangesBy Answers later
      → AreExchangesBy Answers (received request ∷ later)
  answered : (request reply : List ℕ) → Answers request reply → (result : WriteResult) (later : List Transfer)
      → AreExchangesBy Answers later → AreExchangesBy Answers (received request ∷ sent reply result ∷ later)
  cut_off : (request reply : List ℕ) (end : DeviceEnd) (later : List Transfer) → AreExchangesBy Answers later
      → AreExchangesBy Answers (received request ∷ unsent reply end ∷ later)
  ended : (end : DeviceEnd) (later : List Transfer) → AreExchangesBy Answers later
      → AreExchangesBy Answers (stopped end ∷ later)

abbrev pub AreExchanges : List Transfer → Type 0
AreExchanges log = AreExchangesBy IsAnswer log

-- what the device made of a frame
abbrev pub taken_of : WriteResult → Taken
taken_of Accepted = taken.Accepted
taken_of NoEntry = taken.NoEntry
taken_of Invalid = taken.Invalid

-- What a server receives is a kernel's request, and what it sends is written, with what the device made of it.
abbrev pub IsSaid : Transfer → Said → Type 0
IsSaid (received frame) (said.Request bytes) = bytes.now ≡ frame
IsSaid (sent frame result) (said.Written bytes t) = (bytes.now ≡ frame) × (t ≡ taken_of result)
IsSaid (unsent frame end) said.Ended = Unit {0}
IsSaid (stopped end) said.Ended = Unit {0}
IsSaid t other = ⊥

abbrev pub AreSaid : List Transfer → List Said → Type 0
AreSaid [] [] = Unit {0}
AreSaid (t ∷ log) (u ∷ us) = IsSaid t u × AreSaid log us
AreSaid log us = ⊥

-- Each frame that was received is such.
abbrev pub AllReceived : (List ℕ → Type 0) → List Transfer → Type 0
AllReceived IsSuch [] = Unit {0}
AllReceived IsSuch (received frame ∷ log) = IsSuch frame × AllReceived IsSuch log
AllReceived IsSuch (t ∷ log) = AllReceived IsSuch log
