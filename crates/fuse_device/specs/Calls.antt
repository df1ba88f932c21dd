-- What single reads and writes say of the frames that go over a device.
use Rattle.std.specs.Prelude.{◌≡◌, ◌⊎◌, ⊤, ℕ, ℤ, pos, Bool, true, ◌+◌, ◌-◌, ◌^◌, List, [], ◌∷◌, ◌++◌, Option, Some, None, Result, Ok, Err, if◌then◌else◌, ◌==◌, length}
use Rattle.std.proofs.Common.{subst}
use Rattle.fuse_spec.specs.declared.WriteResult.{WriteResult}
use Rattle.fuse_spec.specs.declared.WriteResult.TheVariants.{Accepted}
use Rattle.fuse_device.specs.Transfers.{Transfer, received, sent, unsent, stopped}
use Rattle.fuse_device.specs.ErrorNumbers.{end_of, is_read_again, is_time_over, is_written_again, result_of}
use Rattle.fuse_device.specs.declared.device.DeviceEnd.{DeviceEnd}
use Rattle.fuse_device.specs.declared.device.DeviceEnd.TheVariants.{Ended, TimedOut, Failed}

-- What the write of a packet of this length says of it: it is accepted where it is taken whole.
abbrev pub packet_result : (size : ℕ) → Result ℕ ℤ → Result WriteResult DeviceEnd
packet_result size (Ok count) = if count == size then Ok Accepted else Err Failed
packet_result size (Err number) = result_of number

-- What a read says, if it is not to be tried again: how many bytes came, or an end. No byte is the other side's end, and
-- EAGAIN that of a device that times out.
abbrev pub read_result : (times_out : Bool) → Result ℕ ℤ → Option (Result ℕ DeviceEnd)
read_result times_out (Ok count) = if count == 0 then Some (Err Ended) else Some (Ok count)
read_result times_out (Err number) =
    if is_time_over times_out number then Some (Err TimedOut)
    else (if is_read_again number then None else Some (Err (end_of number)))

-- What a write into a stream says, if it is not to be tried again: how many bytes were taken, or an end.
abbrev pub write_result : Result ℕ ℤ → Option (Result ℕ DeviceEnd)
write_result (Ok count) = if count == 0 then Some (Err Failed) else Some (Ok count)
write_result (Err number) = if is_written_again number then None else Some (Err (end_of number))

module _ {D : Type 0} (call : D → D → Result ℕ ℤ → Type 0) (says : Result ℕ ℤ → Option (Result ℕ DeviceEnd)) where
  -- The call was made so many times in turn, and each is to be tried again.
  pub data TriedAgain (old : D) : ℕ → D → Type 0 where
    not_yet : TriedAgain old 0 old
    again : (count : ℕ) (mid : D) → TriedAgain old count mid → (came : Result ℕ ℤ) (new : D) → call mid new came
        → says came ≡ None → TriedAgain old (count + 1) new

  -- The call was tried until it said this. After 2^64 - 1 times it is a failure.
  pub data TriedUntil (old : D) : Result ℕ DeviceEnd → D → Type 0 where
    said : (count : ℕ) (mid : D) → TriedAgain old count mid → (came : Result ℕ ℤ) (new : D) → call mid new came
        → (result : Result ℕ DeviceEnd) → says came ≡ Some result → TriedUntil old result new
    too_often : (new : D) → TriedAgain old (2 ^ 64 - 1) new → TriedUntil old (Err Failed) new

module _ {R : Type 0} (gives : R → R → Result ℕ ℤ → Type 0) where
  -- the read that led to this state came to this
  abbrev pub HasGiven : R → Result ℕ ℤ → Type 0
  HasGiven new result = (old : R) × gives old new result

  -- The last read says this end: the other side ended where it gave no byte or failed with such a number, and no frame
  -- came in time where it failed with EAGAIN and the device times out. A failure may have other grounds.
  abbrev pub HasEnded : (times_out : Bool) → R → DeviceEnd → Type 0
  HasEnded times_out new Ended =
      HasGiven new (Ok 0) ⊎ ((number : ℤ) × HasGiven new (Err number) × (end_of number ≡ Ended))
  HasEnded times_out new TimedOut = (times_out ≡ true) × HasGiven new (Err (pos 11))
  HasEnded times_out new Failed = ⊤

module _ {W : Type 0} (takes : W → W → List ℕ → Result ℕ ℤ → Type 0) where
  -- The last write says this end: the other side ended where it failed with such a number. A write never times out.
  abbrev pub HasBrokenOff : W → DeviceEnd → Type 0
  HasBrokenOff new Ended =
      (old : W) × (bytes : List ℕ) × (number : ℤ) × takes old new bytes (Err number) × (end_of number ≡ Ended)
  HasBrokenOff new TimedOut = ⊥
  HasBrokenOff new Failed = ⊤

module _ {R W : Type 0} (gives : R → R → Result ℕ ℤ → Type 0) (takes : W → W → List ℕ → Result ℕ ℤ → Type 0) where
  -- One call over packets. A frame that is received is what one read gave, after those that are tried again; one that
  -- is sent is written by one call, which says its result or the end.
  abbrev pub IsPacketCall : (times_out : Bool) → Transfer → (old new : R × W) → Type 0
  IsPacketCall times_out (received frame) old new =
      TriedUntil gives (read_result times_out) old.0 (Ok (length frame)) new.0
  IsPacketCall times_out (sent frame result) old new =
      (r : Result ℕ ℤ) × takes old.1 new.1 frame r × (packet_result (length frame) r ≡ Ok result)
  IsPacketCall times_out (unsent frame end) old new =
      (r : Result ℕ ℤ) × takes old.1 new.1 frame r × (packet_result (length frame) r ≡ Err end)
  IsPacketCall times_out (stopped end) old new = TriedUntil gives (read_result times_out) old.0 (Err end) new.0

  -- One call over a stream: the last read or write says at which end it came to its end.
  abbrev pub IsStreamCall : (times_out : Bool) → Transfer → (old new : R × W) → Type 0
  IsStreamCall times_out (received frame) old new = ⊤
  IsStreamCall times_out (sent frame result) old new = ⊤
  IsStreamCall times_out (unsent frame end) old new = HasBrokenOff takes new.1 end
  IsStreamCall times_out (stopped end) old new = HasEnded gives times_out new.0 end

-- From the one state to the other these calls were made, one after another, each as this says.
abbrev pub InTurn : {D : Type 0} → (Transfer → D → D → Type 0) → List Transfer → (old new : D) → Type 0
InTurn by [] old new = new ≡ old
InTurn {D} by (t ∷ log) old new = (mid : D) × by t old mid × InTurn by log mid new

pub InTurn-append : {D : Type 0} (by : Transfer → D → D → Type 0) (h k : List Transfer) (first mid last : D)
    → InTurn by h first mid → InTurn by k mid last → InTurn by (h ++ k) first last
InTurn-append by [] k first mid last same rest = subst (λ d. InTurn by k d last) same rest
InTurn-append by (t ∷ h) k first mid last (next, called, calls) rest =
    (next, called, InTurn-append by h k next mid last calls rest)
