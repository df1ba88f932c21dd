-- The lines of a capture: what went over a device, a line a transfer. (this project's format)
use Rattle.std.specs.Prelude.{◌≡◌, ◌≢◌, ◌+◌, ◌<◌, ◌≤◌, ◌^◌, ◌⊎◌, ◌++◌, ◌∷◌, [], ◌==◌, ℕ, List, All, Ok, codes, decimal, length, replicate, slice_index}
use Rattle.hex.specs.Hex.{decode_of}
use Rattle.fuse_text.specs.Words.{words_of}
use Rattle.fuse_sessions.specs.declared.act.Taken.{Taken}
use Rattle.fuse_sessions.specs.declared.act.Taken.TheVariants as taken
use Rattle.fuse_sessions.specs.declared.transfer.Transfer.{Transfer}
use Rattle.fuse_sessions.specs.declared.transfer.Transfer.TheVariants as transfer
use Rattle.fuse_capture.specs.declared.line.CaptureFault.{CaptureFault}
use Rattle.fuse_capture.specs.declared.line.CaptureFault.TheVariants as fault

-- ---- words

-- The text of a line: without the carriage return at its end, if it has one.
abbrev pub IsTextOf : (line text : List ℕ) → Type 0
IsTextOf line text = (line ≡ text ++ 13 ∷ []) ⊎ ((line ≡ text) × ((start : List ℕ) → line ≢ start ++ 13 ∷ []))

-- one or more bytes, in hex of either case
abbrev pub IsHexWord : (word bytes : List ℕ) → Type 0
IsHexWord word bytes = (0 < length bytes) × (decode_of word ≡ Ok bytes)

-- how many bytes of a frame were not kept
abbrev pub IsMoreWord : List ℕ → ℕ → Type 0
IsMoreWord word more = word ≡ codes "+" ++ decimal more

-- when a transfer was, in nanoseconds
abbrev pub IsTimeWord : List ℕ → ℕ → Type 0
IsTimeWord word time = (time < 2 ^ 64) × (word ≡ codes "@" ++ decimal time)

-- an upper-case letter or a digit
abbrev pub IsErrnoByte : ℕ → Type 0
IsErrnoByte c = ((48 ≤ c) × (c ≤ 57)) ⊎ ((65 ≤ c) × (c ≤ 90))

-- an error's name, as ENOENT, or E and its number
abbrev pub IsErrno : List ℕ → Type 0
IsErrno word = (rest : List ℕ) × (word ≡ codes "E" ++ rest) × (0 < length rest) × All IsErrnoByte rest

-- ---- frames

-- the longest frame
abbrev pub longest_frame : ℕ
longest_frame = 2 ^ 24

-- Words begin with a frame of these bytes, and these words come after it: hex; and how many bytes more there were, each
-- of which is read as zero.
pub data BeginsWithFrame : (words : List (List ℕ)) → (bytes : List ℕ) → (rest : List (List ℕ)) → Type 0 where
  whole : (hex bytes : List ℕ) → IsHexWord hex bytes → length bytes ≤ longest_frame → (rest : List (List ℕ))
      → BeginsWithFrame (hex ∷ rest) bytes rest
  cut : (hex bytes more : List ℕ) (count : ℕ) → IsHexWord hex bytes → IsMoreWord more count
      → length bytes + count ≤ longest_frame → (rest : List (List ℕ))
      → BeginsWithFrame (hex ∷ more ∷ rest) (bytes ++ replicate count 0) rest

-- the same, with a time before it or with none
abbrev pub BeginsWithTimedFrame : (words : List (List ℕ)) → (bytes : List ℕ) → (rest : List (List ℕ)) → Type 0
BeginsWithTimedFrame words bytes rest = BeginsWithFrame words bytes rest
    ⊎ ((word : List ℕ) × (time : ℕ) × (later : List (List ℕ)) × (words ≡ word ∷ later) × IsTimeWord word time
    × BeginsWithFrame later bytes rest)

-- what the device made of a frame that was written: it took it where no error's name follows
abbrev pub IsResult : List (List ℕ) → Taken → Type 0
IsResult [] taken.Accepted = Unit {0}
IsResult (word ∷ []) taken.NoEntry = word ≡ codes "ENOENT"
IsResult (word ∷ []) taken.Invalid = word ≡ codes "EINVAL"
IsResult (word ∷ []) taken.Failed = IsErrno word × (word ≢ codes "ENOENT") × (word ≢ codes "EINVAL")
IsResult words t = ⊥

-- ---- lines

-- the words say this transfer
abbrev pub SaysTransfer : List (List ℕ) → Transfer → Type 0
SaysTransfer words (transfer.Request bytes) =
    (rest : List (List ℕ)) × (words ≡ codes ">" ∷ rest) × BeginsWithTimedFrame rest bytes.now []
SaysTransfer words (transfer.Written bytes t) = (rest result : List (List ℕ)) × (words ≡ codes "<" ∷ rest)
    × BeginsWithTimedFrame rest bytes.now result × IsResult result t
SaysTransfer words transfer.SeveralReaders = words ≡ codes "=" ∷ codes "several" ∷ codes "readers" ∷ []
SaysTransfer words transfer.SeveralWriters = words ≡ codes "=" ∷ codes "several" ∷ codes "writers" ∷ []
SaysTransfer words transfer.Ended = (word : List ℕ) × (words ≡ codes "=" ∷ codes "ended" ∷ word ∷ []) × IsErrno word

-- The line says this transfer.
abbrev pub LineSays : (line : List ℕ) → Transfer → Type 0
LineSays line t = (text : List ℕ) × IsTextOf line text × SaysTransfer (words_of text) t

-- A text with no transfer: an empty one, one that begins with `#`, or the server's end.
abbrev pub HasNoTransfer : List ℕ → Type 0
HasNoTransfer text = (length text ≡ 0) ⊎ (slice_index text 0 ≡ 35) ⊎ (words_of text ≡ codes "=" ∷ codes "closed" ∷ [])

abbrev pub IsPassedOver : (line : List ℕ) → Type 0
IsPassedOver line = (text : List ℕ) × IsTextOf line text × HasNoTransfer text

-- ---- faults

-- the first word of a line with a frame
abbrev pub IsOfFrame : List ℕ → Type 0
IsOfFrame word = (word ≡ codes ">") ⊎ (word ≡ codes "<")

-- no line begins so
abbrev pub HasNoDirection : List (List ℕ) → Type 0
HasNoDirection [] = Unit {0}
HasNoDirection (word ∷ rest) = ¬ (IsOfFrame word) × (word ≢ codes "=")

-- This word stands where the hex of a frame should: first of the words behind the direction, or behind a time.
abbrev pub StandsForHex : (word : List ℕ) → List (List ℕ) → Type 0
StandsForHex word words = (rest : List (List ℕ))
    × (((words ≡ word ∷ rest) × ((time : ℕ) → ¬ (IsTimeWord word time)))
    ⊎ ((time : ℕ) × (at : List ℕ) × IsTimeWord at time × (words ≡ at ∷ word ∷ rest)))

-- a word stands there that is no hex
abbrev pub HasBadHex : List (List ℕ) → Type 0
HasBadHex words = (word : List ℕ) × StandsForHex word words × ((bytes : List ℕ) → ¬ (IsHexWord word bytes))

-- the line of a frame has such a word
abbrev pub IsOfBadHex : List (List ℕ) → Type 0
IsOfBadHex [] = ⊥
IsOfBadHex (first ∷ words) = IsOfFrame first × HasBadHex words

-- What is wrong with a line that says nothing, the first fault in order. It is one alone.
abbrev pub IsFaultOf : List (List ℕ) → CaptureFault → Type 0
IsFaultOf words fault.UnknownDirection = HasNoDirection words
IsFaultOf words fault.BadHex = IsOfBadHex words
IsFaultOf words fault.WrongWords = ¬ (HasNoDirection words) × ¬ (IsOfBadHex words)

abbrev pub LineFaultIs : (line : List ℕ) → CaptureFault → Type 0
LineFaultIs line f = ¬ (IsPassedOver line) × ((t : Transfer) → ¬ (LineSays line t))
    × ((text : List ℕ) → IsTextOf line text → IsFaultOf (words_of text) f)
