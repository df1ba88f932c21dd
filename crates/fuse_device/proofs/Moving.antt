-- What one call moves.
use Rattle.std.proofs.Common.{◌≡◌, ◌≤◌, ℕ, ℤ, Bool, List, [], ◌∷◌, Option, Result, Ok, Err, length, take, refl, sym, subst, append-nil}
use Rattle.std.specs.Prelude.{IfOk, IfErr, OnErr}
use Rattle.std.specs.Io.KnownBytes.{Appends, Consumes}
use Rattle.std.proofs.KnownBytes.{Appends-nil, Consumes-nil}
use Rattle.std.proofs.lemmas.List.{length-take-le}
use Rattle.fuse_spec.specs.declared.WriteResult.{WriteResult}
use Rattle.fuse_spec.specs.declared.WriteResult.TheVariants.{Accepted}
use Rattle.fuse_device.specs.Transfers.{Transfer, received, sent, stopped, unsent}
use Rattle.fuse_device.specs.Calls.{HasBrokenOff, HasEnded, TriedUntil, packet_result, read_result}
use Rattle.fuse_device.specs.Streamed.{IsCutInto, IsInPackets, MovesBytes, ReadsPacket, ReadsStream, Streamed, Writes, WritesStream, accepted_bytes}
use Rattle.fuse_device.specs.declared.device.DeviceEnd.{DeviceEnd}

pub moves_one : (by : Transfer → List ℕ → Type 0) (t : Transfer) (bytes : List ℕ) → by t bytes → MovesBytes by (t ∷ []) bytes
moves_one by t bytes moved = (bytes, [], moved, refl, sym (append-nil bytes))

module _ {R W : Type 0} (remaining : R → Option (List ℕ)) (contents : W → Option (List ℕ))
    (reads writes : Transfer → List ℕ → Type 0) where
  -- A call that reads, and writes nothing.
  pub read_one : (t : Transfer) (bytes : List ℕ) → reads t bytes → writes t [] → (old new : R) (writer : W)
      → Consumes (remaining old) (remaining new) bytes
      → Streamed remaining contents reads writes old new writer writer (t ∷ [])
  read_one t bytes is quiet old new writer given = record {
    read = bytes;
    moved = moves_one reads t bytes is;
    given = given;
    written = [];
    writes_them = moves_one writes t [] quiet;
    taken = Appends-nil (contents writer);
  }

  -- A call that writes, and reads nothing.
  pub written_one : (t : Transfer) (bytes : List ℕ) → writes t bytes → reads t [] → (reader : R) (old new : W)
      → Appends (contents old) (contents new) bytes
      → Streamed remaining contents reads writes reader reader old new (t ∷ [])
  written_one t bytes is quiet reader old new taken = record {
    read = [];
    moved = moves_one reads t [] quiet;
    given = Consumes-nil (remaining reader);
    written = bytes;
    writes_them = moves_one writes t bytes is;
    taken = taken;
  }

module _ {R W : Type 0} (remaining : R → Option (List ℕ)) (contents : W → Option (List ℕ))
    (gives : R → R → Result ℕ ℤ → Type 0) (takes : W → W → List ℕ → Result ℕ ℤ → Type 0) (times : Bool) where
  pub packet_received : (room : List ℕ) (r : Result ℕ DeviceEnd) (old new : R) (writer : W)
      → IfOk r (λ n. n ≤ length room) → IfOk r (λ n. Consumes (remaining old) (remaining new) (take n room))
      → TriedUntil gives (read_result times) old r new
      → IfOk r (λ n. IsInPackets remaining contents gives takes times times old new writer writer
      (received (take n room) ∷ []))
  packet_received room (Err end) old new writer within read tried = tt
  packet_received room (Ok n) old new writer within read tried = record {
    times = refl;
    streamed = read_one remaining contents ReadsPacket Writes (received (take n room)) (take n room) refl refl old new
        writer read;
    calls = (
      (new, writer),
      subst (λ (k : ℕ). TriedUntil gives (read_result times) old (Ok k) new)
          (sym (length-take-le n room within)) tried,
      refl,
    );
  }

  pub packet_stopped : (r : Result ℕ DeviceEnd) (old new : R) (writer : W)
      → OnErr r (Consumes (remaining old) (remaining new) []) → TriedUntil gives (read_result times) old r new
      → IfErr r (λ end. IsInPackets remaining contents gives takes times times old new writer writer (stopped end ∷ []))
  packet_stopped (Ok n) old new writer read tried = tt
  packet_stopped (Err end) old new writer read tried = record {
    times = refl;
    streamed = read_one remaining contents ReadsPacket Writes (stopped end) [] refl refl old new writer read;
    calls = ((new, writer), tried, refl);
  }

  module _ (frame : List ℕ) (reader : R) (old new : W) where
    pub packet_sent : (r : Result WriteResult DeviceEnd)
        → IfOk r (λ w. Appends (contents old) (contents new) (accepted_bytes frame w))
        → ((s : Result ℕ ℤ) × takes old new frame s × (r ≡ packet_result (length frame) s))
        → IfOk r (λ w. IsInPackets remaining contents gives takes times times reader reader old new (sent frame w ∷ []))
    packet_sent (Err end) written said = tt
    packet_sent (Ok w) written (s, took, says) = record {
      times = refl;
      streamed = written_one remaining contents ReadsPacket Writes (sent frame w) (accepted_bytes frame w) refl refl
          reader old new written;
      calls = ((reader, new), (s, took, sym says), refl);
    }

    pub packet_unsent : (r : Result WriteResult DeviceEnd)
        → OnErr r ((n : ℕ) × Appends (contents old) (contents new) (take n frame))
        → ((s : Result ℕ ℤ) × takes old new frame s × (r ≡ packet_result (length frame) s))
        → IfErr r (λ end. IsInPackets remaining contents gives takes times times reader reader old new
        (unsent frame end ∷ []))
    packet_unsent (Ok w) written said = tt
    packet_unsent (Err end) (n, written) (s, took, says) = record {
      times = refl;
      streamed = written_one remaining contents ReadsPacket Writes (unsent frame end) (take n frame) (n, refl) refl
          reader old new written;
      calls = ((reader, new), (s, took, sym says), refl);
    }

  module _ (least : ℕ) where
    -- what a call over a stream comes to
    abbrev Cuts : R → R → W → W → Transfer → Type 0
    Cuts old new old_writer new_writer t =
        IsCutInto remaining contents gives takes least least times times old new old_writer new_writer (t ∷ [])

    pub stream_received : (room : List ℕ) (r : Result ℕ DeviceEnd) (old new : R) (writer : W)
        → IfOk r (λ n. ReadsStream least (received (take n room)) (take n room)
        × Consumes (remaining old) (remaining new) (take n room))
        → IfOk r (λ n. Cuts old new writer writer (received (take n room)))
    stream_received room (Err end) old new writer read = tt
    stream_received room (Ok n) old new writer (whole, read) = record {
      same = refl;
      times = refl;
      streamed = read_one remaining contents (ReadsStream least) WritesStream (received (take n room)) (take n room)
          whole refl old new writer read;
      calls = ((new, writer), tt, refl);
    }

    pub stream_stopped : (r : Result ℕ DeviceEnd) (old new : R) (writer : W)
        → IfErr r (λ end. (bytes : List ℕ) × ReadsStream least (stopped end) bytes
        × Consumes (remaining old) (remaining new) bytes) → IfErr r (λ end. HasEnded gives times new end)
        → IfErr r (λ end. Cuts old new writer writer (stopped end))
    stream_stopped (Ok n) old new writer read why = tt
    stream_stopped (Err end) old new writer (bytes, is, read) why = record {
      same = refl;
      times = refl;
      streamed = read_one remaining contents (ReadsStream least) WritesStream (stopped end) bytes is refl old new writer
          read;
      calls = ((new, writer), why, refl);
    }

    pub stream_sent : (frame : List ℕ) (reader : R) (old new : W) → Appends (contents old) (contents new) frame
        → Cuts reader reader old new (sent frame Accepted)
    stream_sent frame reader old new written = record {
      same = refl;
      times = refl;
      streamed = written_one remaining contents (ReadsStream least) WritesStream (sent frame Accepted) frame
          (refl, refl) refl reader old new written;
      calls = ((reader, new), tt, refl);
    }

    pub stream_unsent : (frame : List ℕ) (end : DeviceEnd) (reader : R) (old new : W)
        → ((n : ℕ) × Appends (contents old) (contents new) (take n frame)) → HasBrokenOff takes new end
        → Cuts reader reader old new (unsent frame end)
    stream_unsent frame end reader old new (n, written) why = record {
      same = refl;
      times = refl;
      streamed = written_one remaining contents (ReadsStream least) WritesStream (unsent frame end) (take n frame)
          (n, refl) refl reader old new written;
      calls = ((reader, new), why, refl);
    }
