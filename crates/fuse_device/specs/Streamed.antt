-- What goes over a device of a reader and a writer, where those know their bytes.
use Rattle.std.specs.Prelude.{◌≡◌, ◌≤◌, ℕ, ℤ, Bool, List, [], ◌∷◌, ◌++◌, Option, Result, length, take}
use Rattle.std.proofs.Common.{refl, sym, ap, subst, ◌∙◌, append_assoc}
use Rattle.std.specs.Io.KnownBytes.{Appends, Consumes}
use Rattle.std.proofs.KnownBytes.{Appends-nil, Appends-trans, Consumes-nil, Consumes-trans}
use Rattle.byteorder.specs.Endian.{little_number}
use Rattle.fuse_spec.specs.declared.WriteResult.{WriteResult}
use Rattle.fuse_spec.specs.declared.WriteResult.TheVariants.{Accepted, NoEntry, Invalid}
use Rattle.fuse_device.specs.Transfers.{Transfer, received, sent, unsent, stopped}
use Rattle.fuse_device.specs.Calls.{InTurn, InTurn-append, IsPacketCall, IsStreamCall}
use Rattle.fuse_device.specs.declared.device.DeviceEnd.TheVariants.{Ended, TimedOut, Failed}

-- A call read these bytes of a reader of packets: the frame that was received.
abbrev pub ReadsPacket : Transfer → List ℕ → Type 0
ReadsPacket (received frame) bytes = bytes ≡ frame
ReadsPacket (sent frame result) bytes = bytes ≡ []
ReadsPacket (unsent frame end) bytes = bytes ≡ []
ReadsPacket (stopped end) bytes = bytes ≡ []

-- the length that the first four bytes of a frame state (linux/fuse.h, struct fuse_in_header)
abbrev pub stated_len : List ℕ → ℕ
stated_len bytes = little_number 4 bytes

-- the bytes are one whole frame, by its length: a header of this many bytes, and what it says follows
pub record IsWholeFrame (least : ℕ) (bytes : List ℕ) : Type 0 where
  pub header : least ≤ length bytes
  pub stated : stated_len bytes ≡ length bytes

-- A call read these bytes of a stream: the frame that was received, which is whole. At the other side's end, and where
-- no frame came in time, it read none; and where the device failed no whole frame.
abbrev pub ReadsStream : (least : ℕ) → Transfer → List ℕ → Type 0
ReadsStream least (received frame) bytes = (bytes ≡ frame) × IsWholeFrame least frame
ReadsStream least (sent frame result) bytes = bytes ≡ []
ReadsStream least (unsent frame end) bytes = bytes ≡ []
ReadsStream least (stopped Ended) bytes = bytes ≡ []
ReadsStream least (stopped TimedOut) bytes = bytes ≡ []
ReadsStream least (stopped Failed) bytes = IsWholeFrame least bytes → ⊥

-- the bytes of a frame that reach a writer, by its result
abbrev pub accepted_bytes : List ℕ → WriteResult → List ℕ
accepted_bytes frame Accepted = frame
accepted_bytes frame NoEntry = []
accepted_bytes frame Invalid = []

-- A call wrote these bytes: the frame that was accepted, nothing of one that was refused, and some of one that was to
-- be sent as the device came to its end.
abbrev pub Writes : Transfer → List ℕ → Type 0
Writes (received frame) bytes = bytes ≡ []
Writes (sent frame result) bytes = bytes ≡ accepted_bytes frame result
Writes (unsent frame end) bytes = (n : ℕ) × (bytes ≡ take n frame)
Writes (stopped end) bytes = bytes ≡ []

-- So of a stream, which accepts each frame that is sent.
abbrev pub WritesStream : Transfer → List ℕ → Type 0
WritesStream (received frame) bytes = bytes ≡ []
WritesStream (sent frame result) bytes = (result ≡ Accepted) × (bytes ≡ frame)
WritesStream (unsent frame end) bytes = (n : ℕ) × (bytes ≡ take n frame)
WritesStream (stopped end) bytes = bytes ≡ []

-- These calls moved these bytes, each as this says, one after another.
abbrev pub MovesBytes : (Transfer → List ℕ → Type 0) → List Transfer → List ℕ → Type 0
MovesBytes by [] bytes = bytes ≡ []
MovesBytes by (t ∷ log) bytes = (front : List ℕ) × (rest : List ℕ)
    × by t front × MovesBytes by log rest × (bytes ≡ front ++ rest)

pub Moves-append : (by : Transfer → List ℕ → Type 0) (h k : List Transfer) (bs cs : List ℕ) → MovesBytes by h bs
    → MovesBytes by k cs → MovesBytes by (h ++ k) (bs ++ cs)
Moves-append by [] k bs cs none there = subst (λ (l : List ℕ). MovesBytes by k (l ++ cs)) (sym none) there
Moves-append by (t ∷ h) k bs cs (front, rest, moved, others, is) there = (
  front,
  rest ++ cs,
  moved,
  Moves-append by h k rest cs others there,
  ap (λ (l : List ℕ). l ++ cs) is ∙ append_assoc front rest cs,
)

module _ {R W : Type 0} (remaining : R → Option (List ℕ)) (contents : W → Option (List ℕ))
    (reads writes : Transfer → List ℕ → Type 0) where
  -- The reader gave the bytes that these calls read, and the writer took those that they wrote, each as is said.
  pub record Streamed (old_reader new_reader : R) (old_writer new_writer : W) (log : List Transfer) : Type 0 where
    pub read : List ℕ
    pub moved : MovesBytes reads log read
    pub given : Consumes (remaining old_reader) (remaining new_reader) read
    pub written : List ℕ
    pub writes_them : MovesBytes writes log written
    pub taken : Appends (contents old_writer) (contents new_writer) written

  pub nothing_streamed : (reader : R) (writer : W) → Streamed reader reader writer writer []
  nothing_streamed reader writer = record {
    read = [];
    moved = refl;
    given = Consumes-nil (remaining reader);
    written = [];
    writes_them = refl;
    taken = Appends-nil (contents writer);
  }

  pub streamed_in_turn : (r s t : R) (u v w : W) (h k : List Transfer) → Streamed r s u v h → Streamed s t v w k
      → Streamed r t u w (h ++ k)
  streamed_in_turn r s t u v w h k one two = record {
    read = one.read ++ two.read;
    moved = Moves-append reads h k one.read two.read one.moved two.moved;
    given = Consumes-trans (remaining r) (remaining s) (remaining t) one.read two.read one.given two.given;
    written = one.written ++ two.written;
    writes_them = Moves-append writes h k one.written two.written one.writes_them two.writes_them;
    taken = Appends-trans (contents u) (contents v) (contents w) one.written two.written one.taken two.taken;
  }

module _ {R W : Type 0} (remaining : R → Option (List ℕ)) (contents : W → Option (List ℕ))
    (gives : R → R → Result ℕ ℤ → Type 0) (takes : W → W → List ℕ → Result ℕ ℤ → Type 0) where
  -- So of packets, and each call is as its reader or writer says. Whether the device times out stays.
  pub record IsInPackets (old_times new_times : Bool) (old_reader new_reader : R) (old_writer new_writer : W)
      (log : List Transfer) : Type 0 where
    pub times : new_times ≡ old_times
    pub streamed : Streamed remaining contents ReadsPacket Writes old_reader new_reader old_writer new_writer log
    pub calls : InTurn (IsPacketCall gives takes old_times) log (old_reader, old_writer) (new_reader, new_writer)

  pub no_packets : (times : Bool) (reader : R) (writer : W) → IsInPackets times times reader reader writer writer []
  no_packets times reader writer = record {
    times = refl;
    streamed = nothing_streamed remaining contents ReadsPacket Writes reader writer;
    calls = refl;
  }

  pub packets_in_turn : (a b c : Bool) (r s t : R) (u v w : W) (h k : List Transfer) → IsInPackets a b r s u v h
      → IsInPackets b c s t v w k → IsInPackets a c r t u w (h ++ k)
  packets_in_turn a b c r s t u v w h k one two = record {
    times = two.times ∙ one.times;
    streamed = streamed_in_turn remaining contents ReadsPacket Writes r s t u v w h k one.streamed two.streamed;
    calls = InTurn-append (IsPacketCall gives takes a) h k (r, u) (s, v) (t, w) one.calls
        (subst (λ (times : Bool). InTurn (IsPacketCall gives takes times) k (s, v) (t, w)) one.times two.calls);
  }

  -- So of a stream that is cut into frames of at least this many bytes, which stays so.
  pub record IsCutInto (old_least new_least : ℕ) (old_times new_times : Bool) (old_reader new_reader : R)
      (old_writer new_writer : W) (log : List Transfer) : Type 0 where
    pub same : new_least ≡ old_least
    pub times : new_times ≡ old_times
    pub streamed : Streamed remaining contents (ReadsStream old_least) WritesStream old_reader new_reader old_writer
        new_writer log
    pub calls : InTurn (IsStreamCall gives takes old_times) log (old_reader, old_writer) (new_reader, new_writer)

  pub nothing_cut : (least : ℕ) (times : Bool) (reader : R) (writer : W)
      → IsCutInto least least times times reader reader writer writer []
  nothing_cut least times reader writer = record {
    same = refl;
    times = refl;
    streamed = nothing_streamed remaining contents (ReadsStream least) WritesStream reader writer;
    calls = refl;
  }

  pub cut_in_turn : (l m n : ℕ) (a b c : Bool) (r s t : R) (u v w : W) (h k : List Transfer)
      → IsCutInto l m a b r s u v h → IsCutInto m n b c s t v w k → IsCutInto l n a c r t u w (h ++ k)
  cut_in_turn l m n a b c r s t u v w h k one two = record {
    same = two.same ∙ one.same;
    times = two.times ∙ one.times;
    streamed = streamed_in_turn remaining contents (ReadsStream l) WritesStream r s t u v w h k one.streamed
        (subst (λ (least : ℕ). Streamed remaining contents (ReadsStream least) WritesStream s t v w k) one.same
        two.streamed);
    calls = InTurn-append (IsStreamCall gives takes a) h k (r, u) (s, v) (t, w) one.calls
        (subst (λ (times : Bool). InTurn (IsStreamCall gives takes times) k (s, v) (t, w)) one.times two.calls);
  }
