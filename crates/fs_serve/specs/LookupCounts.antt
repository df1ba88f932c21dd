-- How the lookup counts of a server follow the frames that go over its device: what a server's author has to keep.
use Rattle.std.specs.Prelude.{◌≡◌, ◌≢◌, ◌≤◌, ◌+◌, ℕ, ℤ, true, List, [], ◌∷◌, ◌++◌, All, drop, None}
use Rattle.fuse_spec.specs.declared.Minor.{Minor}
use Rattle.fuse_spec.specs.declared.Validity.{Validity}
use Rattle.fuse_spec.specs.declared.WriteResult.{WriteResult}
use Rattle.fuse_spec.specs.declared.WriteResult.TheVariants.{Accepted}
use Rattle.fuse_spec.specs.Values.Maps.{get}
use Rattle.fuse_spec.specs.Kernel.Messages.{Forget, Request, WireReply}
use Rattle.fuse_spec.specs.Server.Server.{Server, count_in, forgets_of, forgotten, knows}
use Rattle.fuse_spec.specs.Server.Copies.{remounted}
use Rattle.fuse_spec.specs.Claim.Counts.{times_named}
use Rattle.fuse_spec.specs.World.Worlds.{first_server}
use Rattle.fk_wire.specs.Replies.{WrittenReply, empty_reply}
use Rattle.fuse_frames.specs.RequestTies.{SaysRequest, asked_opcode}
use Rattle.fuse_device.specs.Transfers.{Transfer, received, sent, unsent, stopped, ended_in}
use Rattle.fuse_device.specs.declared.device.DeviceEnd.{DeviceEnd}
use Rattle.fs_serve.specs.LongBatches.{IsLongBatch, first_pairs, part_of}
use Rattle.fs_serve.specs.LongInits.{IsReadAs}
use Rattle.fs_serve.specs.Sending.{IsFilledFrame, SendsBytes}
use Rattle.fs_serve.specs.NodePairs.{GivesPairsOnce}
use Rattle.fs_serve.specs.Serving.{IsToTheEnd, Serves}

-- How often the server counts a node: 0 where it holds none of this id. (libfuse, low-level: lookup)
abbrev pub lookup_count : Server → ℕ → ℕ
lookup_count s id = count_in (get s.nodes.rows id)

-- A server that was just mounted.
pub data IsFresh : Server → Type 0 where
  fresh : (validity : Validity) (minor : Minor) → IsFresh (remounted first_server validity minor)

-- Forgets may be taken: each is of a node that is counted, and no node is forgotten more often than it is counted.
-- (libfuse, low-level: forget)
pub record MayForget (counts : ℕ → ℕ) (fs : List Forget) : Type 0 where
  pub known : All (λ (f : Forget). 1 ≤ counts f.0) fs
  pub counted : (id : ℕ) → forgotten id fs ≤ counts id

-- How many lookups of each node a frame gives back: those of its forgets, where the minor knows them and they may be
-- taken, and else none.
pub data FrameGivesBack (minor : Minor) (counts : ℕ → ℕ) (frame : List ℕ) : (ℕ → ℕ) → Type 0 where
  forgets : (request : Request) → SaysRequest frame request → knows minor request.body ≡ true
      → MayForget counts (forgets_of request.body)
      → FrameGivesBack minor counts frame (λ id. forgotten id (forgets_of request.body))
  none : ((request : Request) → SaysRequest frame request → knows minor request.body ≡ true
      → MayForget counts (forgets_of request.body) → forgets_of request.body ≡ [])
      → FrameGivesBack minor counts frame (λ id. 0)

-- The bytes are the frame of this reply to the request that a frame spells, with the blocks of each file.
pub record RepliesWith (frame bytes : List ℕ) (wire : WireReply) : Type 0 where
  pub request : Request
  pub says : SaysRequest frame request
  pub framed : IsFilledFrame (asked_opcode request.body) bytes (record { unique = request.unique; wire = wire })

-- How many lookups of each node what is sent after a frame gives: as many as entries of an accepted reply to it name the
-- node. A refused reply gives none, and an error none. One at which the device came to its end is counted as accepted,
-- since nobody knows.
pub data GivesLookups (frame : List ℕ) : List Transfer → (ℕ → ℕ) → Type 0 where
  nothing_sent : GivesLookups frame [] (λ id. 0)
  reply_accepted : (wire : WireReply) (bytes : List ℕ) → RepliesWith frame bytes wire
      → GivesLookups frame (sent bytes Accepted ∷ []) (λ id. times_named id wire)
  refused : (bytes : List ℕ) (result : WriteResult) → result ≢ Accepted
      → GivesLookups frame (sent bytes result ∷ []) (λ id. 0)
  cut_off : (wire : WireReply) (bytes : List ℕ) → RepliesWith frame bytes wire → (end : DeviceEnd)
      → GivesLookups frame (unsent bytes end ∷ []) (λ id. times_named id wire)
  error : (unique : ℕ) (code : ℤ) (bytes : List ℕ)
      → WrittenReply (record { unique = unique; error = code; content = empty_reply }) bytes
      → (log : List Transfer) → SendsBytes bytes log → GivesLookups frame log (λ id. 0)

-- After a frame each count has risen by what was given and fallen by what was given back.
pub record FollowsFrame (minor : Minor) (old : ℕ → ℕ) (frame : List ℕ) (log : List Transfer) (new : ℕ → ℕ) : Type 0 where
  pub back : ℕ → ℕ
  pub gives_back : FrameGivesBack minor old frame back
  pub more : ℕ → ℕ
  pub tells : GivesLookups frame log more
  pub balance : (id : ℕ) → new id + back id ≡ old id + more id

-- The counts follow the pairs of a long BATCH_FORGET up to some place, 64 after 64: each frame of them that may be
-- taken gives its lookups back.
pub data FollowsPairs (minor : Minor) (bytes : List ℕ) (old : ℕ → ℕ)
    : (pairs : List ℕ) → List Transfer → (ℕ → ℕ) → Type 0 where
  no_pairs : FollowsPairs minor bytes old [] [] old
  more_pairs : (pairs : List ℕ) (before : List Transfer) (mid : ℕ → ℕ) → FollowsPairs minor bytes old pairs before mid
      → (left : List ℕ) → drop 48 bytes ≡ pairs ++ left → (log : List Transfer) (new : ℕ → ℕ)
      → FollowsFrame minor mid (part_of bytes (first_pairs left)) log new
      → FollowsPairs minor bytes old (pairs ++ first_pairs left) (before ++ log) new

-- The counts follow what went over the device, frame after frame.
pub data Follows (minor : Minor) (old : ℕ → ℕ) : List Transfer → (ℕ → ℕ) → Type 0 where
  nothing : Follows minor old [] old
  frame : (before : List Transfer) (mid : ℕ → ℕ) → Follows minor old before mid → (bytes frame : List ℕ)
      → IsReadAs bytes frame → (log : List Transfer) (new : ℕ → ℕ) → FollowsFrame minor mid frame log new
      → Follows minor old (before ++ received bytes ∷ log) new
  batch : (before : List Transfer) (mid : ℕ → ℕ) → Follows minor old before mid → (bytes : List ℕ) → IsLongBatch bytes
      → (pairs : List ℕ) (log : List Transfer) (new : ℕ → ℕ) → FollowsPairs minor bytes mid pairs log new
      → (ended_in log ≡ None → pairs ≡ drop 48 bytes) → Follows minor old (before ++ received bytes ∷ log) new
  end : (before : List Transfer) (mid : ℕ → ℕ) → Follows minor old before mid → (end : DeviceEnd)
      → Follows minor old (before ++ stopped end ∷ []) mid

-- All that went over a device is served so, until the device came to its end. Of a server that was just mounted the
-- lookup counts follow the frames, at every moment between two of them, and no pair of nodeid and generation is given
-- twice.
pub record IsServed (old : Server) (log : List Transfer) (new : Server) : Type 0 where
  pub serves : Serves old log new
  pub to_the_end : IsToTheEnd log
  pub counts : IsFresh old → (before : List Transfer) (mid : Server) → Serves old before mid
      → Follows old.minor (lookup_count old) before (lookup_count mid)
  pub pairs : IsFresh old → GivesPairsOnce old
