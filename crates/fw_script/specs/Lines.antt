-- Script lines, by their words.
use Rattle.std.specs.Prelude.{◌≡◌, ◌≢◌, ℕ, List, [], ◌∷◌, ◌++◌, ◌⊎◌, codes, decimal}
use Rattle.fuse_spec.specs.declared.Minor.{Minor}
use Rattle.fuse_spec.specs.declared.Minor.TheVariants.{M15, M31}
use Rattle.fw_script.specs.Arguments.{ArgumentFaultIs, IsText, minor_word, signal_word}
use Rattle.fw_script.specs.CallLines.{HasTexts, spelled_call}
use Rattle.fw_script.specs.Forms.{form_words, arguments_of}
use Rattle.fuse_text.specs.HexTexts.{IsHexOrNone}
use Rattle.fw_script.specs.declared.form.Form.{Form}
use Rattle.fw_script.specs.declared.line.LineFault.{LineFault}
use Rattle.fw_script.specs.declared.line.LineFault.TheVariants as faults
use Rattle.fw_world.specs.declared.event.Event.{Event}
use Rattle.fw_world.specs.declared.event.Event.TheVariants as event
use Rattle.fk_kernel.specs.declared.read.Pick.{Pick}
use Rattle.fk_kernel.specs.declared.read.Pick.TheVariants as pick
use Rattle.fw_script.specs.declared.line.Line.{Line}
use Rattle.fw_script.specs.declared.line.Line.TheVariants as line

-- the words after `read`
abbrev pub spelled_pick : Pick → List (List ℕ)
spelled_pick pick.Interrupt = codes "i" ∷ []
spelled_pick (pick.Forgets count) = codes "f" ∷ decimal count ∷ []
spelled_pick (pick.Pending place) = codes "p" ∷ decimal place ∷ []

-- the words of the line that names an event
abbrev pub spelled_event : Event → List (List ℕ)
spelled_event (event.Mount found missing m) = codes "mount" ∷ decimal found ∷ decimal missing ∷ minor_word m ∷ []
spelled_event (event.Call c) = codes "call" ∷ spelled_call c
spelled_event (event.Read p) = codes "read" ∷ spelled_pick p
spelled_event (event.Take place) = codes "take" ∷ decimal place ∷ []
spelled_event (event.Do unique) = codes "do" ∷ decimal unique ∷ []
spelled_event (event.Again unique) = codes "again" ∷ decimal unique ∷ []
spelled_event (event.Write place) = codes "write" ∷ decimal place ∷ []
spelled_event (event.Settle place) = codes "settle" ∷ decimal place ∷ []
spelled_event (event.Interrupt c fatal) = codes "intr" ∷ decimal c ∷ signal_word fatal ∷ []
spelled_event (event.Tick ms) = codes "tick" ∷ decimal ms ∷ []
spelled_event (event.DropName directory name) = codes "drop" ∷ decimal directory ∷ name.now ∷ []
spelled_event (event.Evict node) = codes "evict" ∷ decimal node ∷ []
spelled_event event.Abort = codes "abort" ∷ []

-- the words of any line
abbrev pub spelled : Line → List (List ℕ)
spelled (line.Event e) = spelled_event e
spelled (line.CallWrite open_call offset hex) =
    codes "call" ∷ codes "write" ∷ decimal open_call ∷ decimal offset ∷ hex.now ∷ []
spelled line.Show = codes "show" ∷ []

-- the paths, the name and the hex of a line are texts and hex
abbrev pub IsWritten : Line → Type 0
IsWritten (line.Event (event.Call c)) = HasTexts c
IsWritten (line.Event (event.DropName directory name)) = IsText name.now
IsWritten (line.CallWrite open_call offset hex) = IsHexOrNone hex.now
IsWritten other = Unit {0}

-- the last words of a mount at this minor: 31 may be left out
abbrev pub EndsAt : Minor → List (List ℕ) → Type 0
EndsAt M15 words = words ≡ minor_word M15 ∷ []
EndsAt M31 words = (words ≡ []) ⊎ (words ≡ minor_word M31 ∷ [])

-- these are the words of the line
abbrev pub LineHasWords : Line → List (List ℕ) → Type 0
LineHasWords (line.Event (event.Mount found missing m)) words =
    (last : List (List ℕ)) × (words ≡ codes "mount" ∷ decimal found ∷ decimal missing ∷ last) × EndsAt m last
LineHasWords l words = (words ≡ spelled l) × IsWritten l

-- what is wrong with the words of a line: before all else, no form begins so
abbrev pub WordsFaultIs : List (List ℕ) → LineFault → Type 0
WordsFaultIs words faults.UnknownEvent = (f : Form) (rest : List (List ℕ)) → words ≢ form_words f ++ rest
WordsFaultIs words fault =
    (f : Form) × (rest : List (List ℕ)) × (words ≡ form_words f ++ rest) × ArgumentFaultIs (arguments_of f rest) rest fault
