-- How a server serves what comes over a device.
use Rattle.std.specs.Prelude.{◌≡◌, ◌≢◌, ◌⊎◌, ℕ, ◌-◌, ◌^◌, ℤ, negsuc, Bool, true, false, List, [], ◌∷◌, ◌++◌, drop, length, Some, None}
use Rattle.fuse_spec.specs.Kernel.Messages.{Request, release}
use Rattle.fk_wire.specs.Fields.{number_at}
use Rattle.fk_wire.specs.Requests.{RequestContent, interrupt}
use Rattle.fuse_spec.specs.Values.Maps.{get, remove}
use Rattle.fuse_spec.specs.Server.Server.{HeldRequest, Server}
use Rattle.fuse_spec.specs.Server.Refusals.{is_server_past_end}
use Rattle.fuse_spec.specs.Server.Memory.{performing_takes_memory}
use Rattle.fuse_spec.specs.Server.Taking.{taking}
use Rattle.fuse_spec.specs.World.Worlds.{Sent}
use Rattle.fuse_spec.specs.declared.Opened.{Opened}
use Rattle.fuse_spec.specs.declared.Taken.TheVariants.{Held}
use Rattle.fuse_spec.specs.declared.Refusal.{Refusal}
use Rattle.fuse_spec.specs.declared.Refusal.TheVariants.{Exhausted, NoMemory}
use Rattle.fk_wire.specs.declared.opcode.Opcode.{Opcode}
use Rattle.fk_wire.specs.declared.opcode.Opcode.TheVariants.{Release}
use Rattle.fuse_frames.specs.ReplyTies.{has_reply}
use Rattle.fuse_frames.specs.RequestTies.{SaysRequest, asked_opcode}
use Rattle.fs_server.specs.Effects.{CanTake, PerformsHeld, RefusesFrame, RefusesHeld, TakingNeedsMemory, copy_of, request_fault}
use Rattle.fs_server.specs.Releasing.{Releases, release_copy}
use Rattle.fs_server.specs.Steps.{CanPerform}
use Rattle.fs_server.specs.declared.server.ServerFault.{ServerFault}
use Rattle.fs_server.specs.declared.server.ServerFault.TheVariants.{Memory, Wire}
use Rattle.fuse_device.specs.Transfers.{Transfer, received, stopped, ended_in}
use Rattle.fuse_device.specs.Listed.{frames_received}
use Rattle.fuse_device.specs.declared.device.DeviceEnd.{DeviceEnd}
use Rattle.fs_serve.specs.LongBatches.{IsLongBatch, first_pairs, part_of}
use Rattle.fs_serve.specs.LongInits.{IsReadAs}
use Rattle.fs_serve.specs.LongNames.{IsNameTooLong}
use Rattle.fs_serve.specs.Sending.{Delivers, RepliesToRelease, SendsError, SendsFault}

-- ENOMEM and EIO, as error replies have them
abbrev pub out_of_memory : ℤ
out_of_memory = negsuc 11

abbrev pub input_output : ℤ
input_output = negsuc 4

-- ENAMETOOLONG, as error replies have it
abbrev pub too_long_name : ℤ
too_long_name = negsuc 35

-- the error of a request that cannot be performed
abbrev pub error_for : Refusal → ℤ
error_for NoMemory = out_of_memory
error_for refusal = input_output

-- A frame spells this request, which has no fault, and is taken.
pub record TakesRequest (old : Server) (frame : List ℕ) (request : Request) (new : Server) : Type 0 where
  pub says : SaysRequest frame request
  pub faultless : request_fault old request.unique (Some request.body) ≡ None
  pub after : new ≡ (taking old request.unique request.body).server

-- whether this is an INTERRUPT, to which nothing is replied where it cannot be taken
abbrev pub is_interrupt : RequestContent → Bool
is_interrupt (interrupt unique) = true
is_interrupt content = false

-- What is held under this unique, if anything, is a request of this opcode, which has replies.
abbrev pub HoldsOpcode : Server → (unique : ℕ) → Opcode → Type 0
HoldsOpcode s unique opcode = (held : HeldRequest) → get s.held unique ≡ Some held
    → (asked_opcode held.body ≡ opcode) × (has_reply opcode ≡ true)

-- Memory runs out for a held request that can be performed, and takes memory.
abbrev pub RunsOutOfMemory : Server → (unique : ℕ) → Refusal → Type 0
RunsOutOfMemory s unique refusal = (refusal ≡ NoMemory) × CanPerform s unique
    × (performing_takes_memory s (get s.held unique) ≡ true)

-- A held request is performed, and its reply sent; after an abort there is none. One that cannot be performed, or for
-- which memory runs out that it takes, is held no longer, and its reply is an error.
pub data ServesHeld (old : Server) (unique : ℕ) : List Transfer → Server → Type 0 where
  replied : (errno : ℕ) (copy : Sent) (did : Server) → PerformsHeld old unique errno (Some copy) did
      → (log : List Transfer) (new : Server) → Delivers copy did log new → ServesHeld old unique log new
  unreplied : (errno : ℕ) (new : Server) → PerformsHeld old unique errno None new → ServesHeld old unique [] new
  dropped : (refusal : Refusal) → RefusesHeld old unique refusal ⊎ RunsOutOfMemory old unique refusal
      → (log : List Transfer) → SendsError unique (error_for refusal) log
      → ServesHeld old unique log (record old { held = remove old.held unique })

-- One frame is served.
pub data ServesFrame (old : Server) (frame : List ℕ) : List Transfer → Server → Type 0 where
  -- Forgets are done as they are taken, and an INTERRUPT whose request is held, or whose reply is kept: nothing is sent.
  done_at_once : (request : Request) (new : Server) → TakesRequest old frame request new
      → (taking old request.unique request.body).reply ≡ None
      → ((taking old request.unique request.body).word ≡ Held → ⊥) → ServesFrame old frame [] new
  -- An INTERRUPT of a request that is not known is answered at once.
  replied_at_once : (request : Request) (taken : Server) → TakesRequest old frame request taken → (copy : Sent)
      → Some copy ≡ copy_of old.next_copy request.unique (taking old request.unique request.body).reply
      → (log : List Transfer) (new : Server) → Delivers copy taken log new → ServesFrame old frame log new
  -- A RELEASE is done at once, and its reply sent. The server is the same whatever comes of that, also where the device
  -- comes to its end at it. Where no copy number is left nothing changes, and the reply is an error.
  released : (unique : ℕ) (opened : Opened) → SaysRequest frame (record { unique = unique; body = release opened })
      → (errno : ℕ) (new : Server) → Releases old unique opened errno new → (log : List Transfer)
      → RepliesToRelease (release_copy old unique errno) log → ServesFrame old frame log new
  unreleased : (unique : ℕ) (opened : Opened) → SaysRequest frame (record { unique = unique; body = release opened })
      → RefusesHeld (taking old unique (release opened)).server unique Exhausted → (log : List Transfer)
      → SendsError unique input_output log → ServesFrame old frame log old
  -- Any other request is held, and performed.
  performed : (request : Request) (taken : Server) → TakesRequest old frame request taken
      → (taking old request.unique request.body).word ≡ Held → asked_opcode request.body ≢ Release
      → (log : List Transfer) (new : Server) → ServesHeld taken request.unique log new → ServesFrame old frame log new
  -- Out of memory to take one that takes memory, and is no RELEASE: nothing changes. The reply is an error, and to an
  -- INTERRUPT there is none.
  untaken : (can : CanTake old frame) → TakingNeedsMemory old frame → asked_opcode can.request.body ≢ Release
      → is_interrupt can.says.message.content ≡ false → (log : List Transfer)
      → SendsError can.request.unique out_of_memory log → ServesFrame old frame log old
  uninterrupted : (can : CanTake old frame) → TakingNeedsMemory old frame → is_interrupt can.says.message.content ≡ true
      → ServesFrame old frame [] old
  -- A frame of which nothing is wrong but that a name is too long changes nothing. The reply is ENAMETOOLONG.
  name_too_long : RefusesFrame old frame Wire → IsNameTooLong frame → is_server_past_end old ≡ false
      → (log : List Transfer) → SendsError (number_at 8 8 frame) too_long_name log → ServesFrame old frame log old
  -- Any other faulty frame, or one for which no number is left, changes nothing.
  refused : (fault : ServerFault) → RefusesFrame old frame fault → fault ≢ Memory
      → (fault ≡ Wire → IsNameTooLong frame → ⊥) → is_server_past_end old ≡ false
      → (log : List Transfer) → SendsFault old.minor frame fault log → ServesFrame old frame log old

-- The pairs of a long BATCH_FORGET are served up to some place, the first 64 of those that are left in each frame.
pub data ServesPairs (bytes : List ℕ) (old : Server) : (pairs : List ℕ) → List Transfer → Server → Type 0 where
  no_pairs : ServesPairs bytes old [] [] old
  more_pairs : (pairs : List ℕ) (before : List Transfer) (mid : Server) → ServesPairs bytes old pairs before mid
      → ended_in before ≡ None → (left : List ℕ) → drop 48 bytes ≡ pairs ++ left → (log : List Transfer) (new : Server)
      → ServesFrame mid (part_of bytes (first_pairs left)) log new
      → ServesPairs bytes old (pairs ++ first_pairs left) (before ++ log) new

-- All its pairs are served, or the device came to its end before.
pub record ServesBatch (bytes : List ℕ) (old : Server) (log : List Transfer) (new : Server) : Type 0 where
  pub pairs : List ℕ
  pub serves : ServesPairs bytes old pairs log new
  pub all : ended_in log ≡ None → pairs ≡ drop 48 bytes

-- One frame is received and served, or the device ends.
pub data ServesNext (old : Server) : List Transfer → Server → Type 0 where
  one : (bytes frame : List ℕ) → IsReadAs bytes frame → (log : List Transfer) (new : Server)
      → ServesFrame old frame log new → ServesNext old (received bytes ∷ log) new
  batch : (bytes : List ℕ) → IsLongBatch bytes → (log : List Transfer) (new : Server) → ServesBatch bytes old log new
      → ServesNext old (received bytes ∷ log) new
  none : (end : DeviceEnd) → ServesNext old (stopped end ∷ []) old

-- All that went over a device is so served, one frame after another, until the device came to its end, or nothing more
-- was asked of it.
pub data Serves (old : Server) : List Transfer → Server → Type 0 where
  nothing : Serves old [] old
  next : (before : List Transfer) (mid : Server) → Serves old before mid → ended_in before ≡ None
      → (log : List Transfer) (new : Server) → ServesNext mid log new → Serves old (before ++ log) new

-- It went on until the device came to its end, or 2^64 - 1 frames were received.
abbrev pub IsToTheEnd : List Transfer → Type 0
IsToTheEnd log = ended_in log ≡ None → length (frames_received log) ≡ 2 ^ 64 - 1
