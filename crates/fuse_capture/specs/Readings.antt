-- How the words of a line are read, one after another.
use Rattle.std.specs.Prelude.{◌≡◌, ◌≢◌, ◌<◌, ◌^◌, ◌%◌, ◌⊎◌, ◌++◌, ◌∷◌, [], ℕ, List, Option, Some, None, codes, decimal, length, replicate}
use Rattle.std.specs.List.{AllPass}
use Rattle.hex.specs.Hex.{is_hex_digit}
use Rattle.fuse_sessions.specs.declared.transfer.Transfer.{Transfer}
use Rattle.fuse_sessions.specs.declared.transfer.Transfer.TheVariants as transfer
use Rattle.fuse_capture.specs.declared.line.CaptureFault.{CaptureFault}
use Rattle.fuse_capture.specs.declared.line.CaptureFault.TheVariants as fault
use Rattle.fuse_capture.specs.declared.line.CapturedFrame.{CapturedFrame}
use Rattle.fuse_capture.specs.declared.line.CaptureLine.{CaptureLine}
use Rattle.fuse_capture.specs.declared.line.CaptureLine.TheVariants as line
use Rattle.fuse_text.specs.Words.{words_left}
use Rattle.fuse_capture.specs.Lines.{IsHexWord, IsMoreWord, IsTimeWord, BeginsWithFrame, BeginsWithTimedFrame, HasBadHex, SaysTransfer, IsFaultOf}

-- the first of the words is no number below 2^64 behind a mark
abbrev pub HasNoMark : ℕ → List (List ℕ) → Type 0
HasNoMark mark words = (word : List ℕ) (later : List (List ℕ)) → words ≡ word ∷ later → (n : ℕ) → n < 2 ^ 64
    → word ≢ mark ∷ decimal n

-- one or more pairs of hex digits
abbrev pub IsPairs : List ℕ → Type 0
IsPairs word = (0 < length word) × (length word % 2 ≡ 0) × AllPass is_hex_digit word

-- ---- frames

-- The bytes of a frame of which these were kept in hex, and so many more were not.
abbrev pub AreBytes : (hex : List ℕ) (more : ℕ) → List ℕ → Type 0
AreBytes hex more bytes = (kept : List ℕ) → IsHexWord hex kept → bytes ≡ kept ++ replicate more 0

abbrev pub IsFrameOf : CapturedFrame → List ℕ → Type 0
IsFrameOf f bytes = AreBytes f.hex.now f.more bytes

-- none of these words says how many bytes more a frame had
abbrev pub HasNoMore : List (List ℕ) → Type 0
HasNoMore words = (word : List ℕ) (later : List (List ℕ)) (count : ℕ) → words ≡ word ∷ later → ¬ (IsMoreWord word count)

-- the first word is no hex
abbrev pub BeginsWithBadHex : List (List ℕ) → Type 0
BeginsWithBadHex words = (word : List ℕ) × (rest : List (List ℕ)) × (words ≡ word ∷ rest)
    × ((bytes : List ℕ) → ¬ (IsHexWord word bytes))

-- The words begin with a frame of this hex and so many bytes more, these words are left, and they are the only ones.
pub record ReadsKept (words : List (List ℕ)) (hex : List ℕ) (more : ℕ) (left : List (List ℕ)) : Type 0 where
  pub begins : (bytes : List ℕ) → AreBytes hex more bytes → BeginsWithFrame words bytes left
  pub only : (bytes : List ℕ) (rest : List (List ℕ)) → BeginsWithFrame words bytes rest → HasNoMore rest → rest ≡ left
  pub good : ¬ (BeginsWithBadHex words)

-- The words begin with this time, or with none.
abbrev pub IsTimeOf : List (List ℕ) → Option ℕ → Type 0
IsTimeOf words None = (word : List ℕ) (later : List (List ℕ)) (time : ℕ) → words ≡ word ∷ later → ¬ (IsTimeWord word time)
IsTimeOf words (Some time) = (word : List ℕ) × (later : List (List ℕ)) × (words ≡ word ∷ later) × IsTimeWord word time

pub record ReadsFrame (words : List (List ℕ)) (f : CapturedFrame) (left : List (List ℕ)) : Type 0 where
  pub time : IsTimeOf words f.time
  pub begins : (bytes : List ℕ) → IsFrameOf f bytes → BeginsWithTimedFrame words bytes left
  pub only : (bytes : List ℕ) (rest : List (List ℕ)) → BeginsWithTimedFrame words bytes rest → HasNoMore rest
      → rest ≡ left
  pub good : ¬ (HasBadHex words)

-- A fault of the words of a frame is that of the hex exactly where the word there is none.
abbrev pub SaysOfHex : CaptureFault → (is_bad : Type 0) → Type 0
SaysOfHex fault.BadHex is_bad = is_bad
SaysOfHex fault.WrongWords is_bad = ¬ is_bad
SaysOfHex fault.UnknownDirection is_bad = ⊥

-- The words begin with no frame.
pub record KeptFaultIs (words : List (List ℕ)) (f : CaptureFault) : Type 0 where
  pub none : (bytes : List ℕ) (rest : List (List ℕ)) → BeginsWithFrame words bytes rest → HasNoMore rest → ⊥
  pub says : SaysOfHex f (BeginsWithBadHex words)

pub record FrameFaultIs (words : List (List ℕ)) (f : CaptureFault) : Type 0 where
  pub none : (bytes : List ℕ) (rest : List (List ℕ)) → BeginsWithTimedFrame words bytes rest → HasNoMore rest → ⊥
  pub says : SaysOfHex f (HasBadHex words)

-- ---- lines

-- A line is this transfer, once its frame is read.
abbrev pub IsTransferOf : CaptureLine → Transfer → Type 0
IsTransferOf (line.Request f) (transfer.Request bytes) = IsFrameOf f bytes.now
IsTransferOf (line.Written f t) (transfer.Written bytes taken) = IsFrameOf f bytes.now × (taken ≡ t)
IsTransferOf line.SeveralReaders transfer.SeveralReaders = Unit {0}
IsTransferOf line.SeveralWriters transfer.SeveralWriters = Unit {0}
IsTransferOf line.Ended transfer.Ended = Unit {0}
IsTransferOf l t = ⊥

-- the words say what the line is
abbrev pub Says : List (List ℕ) → CaptureLine → Type 0
Says words l = (t : Transfer) → IsTransferOf l t → SaysTransfer words t

-- the time of the line's frame is the one that stands in the words before it
abbrev pub HasTime : List (List ℕ) → CaptureLine → Type 0
HasTime words (line.Request f) = (first : List ℕ) (rest : List (List ℕ)) → words ≡ first ∷ rest → IsTimeOf rest f.time
HasTime words (line.Written f t) = (first : List ℕ) (rest : List (List ℕ)) → words ≡ first ∷ rest → IsTimeOf rest f.time
HasTime words l = Unit {0}

-- The words are read as this line.
pub record AreRead (words : List (List ℕ)) (l : CaptureLine) : Type 0 where
  pub says : Says words l
  pub time : HasTime words l

-- The words say nothing, and this is wrong with them.
pub record IsBad (words : List (List ℕ)) (f : CaptureFault) : Type 0 where
  pub silent : (t : Transfer) → ¬ (SaysTransfer words t)
  pub open_still : words ≢ codes "=" ∷ codes "closed" ∷ []
  pub says : IsFaultOf words f
