-- What the words after a line's form may have to be, and what is wrong with them.
use Rattle.std.specs.Prelude.{◌≡◌, ◌<◌, ◌≤◌, ◌^◌, ℕ, List, ◌∷◌, All, Bool, true, false, codes, decimal, length}
use Rattle.fuse_spec.specs.declared.Minor.{Minor}
use Rattle.fuse_spec.specs.declared.Minor.TheVariants.{M15, M31}
use Rattle.fuse_text.specs.HexTexts.{IsHexOrNone}
use Rattle.fuse_text.specs.Words.{HasWords}
use Rattle.fw_script.specs.declared.line.LineFault.{LineFault}
use Rattle.fw_script.specs.declared.line.LineFault.TheVariants as faults

-- what a word may have to be
pub data Argument : Type 0 where
  number : Argument
  text : Argument
  bytes : Argument
  signal : Argument
  minor : Argument

-- decimal, below 2^64, with no sign and no leading zero
abbrev pub IsNumber : List ℕ → Type 0
IsNumber word = (n : ℕ) × (n < 2 ^ 64) × (word ≡ decimal n)

-- bytes from 33 to 126
abbrev pub IsText : List ℕ → Type 0
IsText word = All (λ byte. (33 ≤ byte) × (byte ≤ 126)) word

-- whether a signal is fatal
abbrev pub signal_word : Bool → List ℕ
signal_word true = codes "fatal"
signal_word false = codes "soft"

abbrev pub IsSignal : List ℕ → Type 0
IsSignal word = (fatal : Bool) × (word ≡ signal_word fatal)

-- a minor as it is written
abbrev pub minor_word : Minor → List ℕ
minor_word M15 = codes "15"
minor_word M31 = codes "31"

abbrev pub IsMinor : List ℕ → Type 0
IsMinor word = (m : Minor) × (word ≡ minor_word m)

-- a fact of each word, by what it has to be
abbrev pub AllAre : (Argument → List ℕ → Type 0) → List Argument → List (List ℕ) → Type 0
AllAre P (argument ∷ arguments) (word ∷ words) = P argument word × AllAre P arguments words
AllAre P arguments words = Unit {0}

abbrev pub IsSignalAt : Argument → List ℕ → Type 0
IsSignalAt signal word = IsSignal word
IsSignalAt argument word = Unit {0}

abbrev pub IsNumberAt : Argument → List ℕ → Type 0
IsNumberAt number word = IsNumber word
IsNumberAt minor word = IsMinor word
IsNumberAt argument word = Unit {0}

abbrev pub IsTextAt : Argument → List ℕ → Type 0
IsTextAt text word = IsText word
IsTextAt bytes word = IsHexOrNone word
IsTextAt argument word = Unit {0}

-- as many words as there have to be, none of them empty, and signals in their places
abbrev pub HasShape : List Argument → List (List ℕ) → Type 0
HasShape arguments words = HasWords (length arguments) words × AllAre IsSignalAt arguments words

-- what is wrong with the words that follow a form's, the first fault in order: their count, an empty
-- one or a signal; a number; a text
abbrev pub ArgumentFaultIs : List Argument → List (List ℕ) → LineFault → Type 0
ArgumentFaultIs arguments words faults.UnknownEvent = ⊥
ArgumentFaultIs arguments words faults.WrongWords = ¬ (HasShape arguments words)
ArgumentFaultIs arguments words faults.BadNumber = HasShape arguments words × ¬ (AllAre IsNumberAt arguments words)
ArgumentFaultIs arguments words faults.BadText =
    HasShape arguments words × AllAre IsNumberAt arguments words × ¬ (AllAre IsTextAt arguments words)
