-- How a command on one frame of any opcode ends, by its exit status.
use Rattle.std.specs.Prelude.{◌≡◌, ◌≢◌, ◌⊎◌, ◌++◌, ℕ, List, [], ◌∷◌, Option, Contains, codes}
use Rattle.std.specs.Io.KnownBytes.{Appends}
use Rattle.fuse_protocol.specs.Agreement.{before_init}
use Rattle.fuse_protocol.specs.Table.{name_of}
use Rattle.fuse_protocol.specs.declared.opcode.Opcode.{Opcode}
use Rattle.frame_words.specs.Frames.{IsReplyText, IsRequestText}
use Rattle.fuse_text.specs.HexTexts.{SpellsHex}
use Rattle.fuse_text.specs.declared.hex_text.HexFault.{HexFault}
use Rattle.fuse_text.specs.declared.hex_text.HexFault.TheVariants as hex_fault
use Rattle.hex.specs.Hex.{IsBytes}

-- 1 where the text is no hex, 3 where memory runs out
abbrev pub hex_status_of : HexFault → ℕ
hex_status_of hex_fault.BadHex = 1
hex_status_of hex_fault.NoMemory = 3

-- the writer got such a text, and a line feed
abbrev pub PrintsLine : (IsText : List ℕ → Type 0) → (old new : Option (List ℕ)) → Type 0
PrintsLine IsText old new = (text : List ℕ) × IsText text × Appends old new (text ++ codes "\n")

-- What becomes of an output, of which `out` says what it holds, at the hex of a frame, of which `IsText` says which text
-- is printed: 0 where it is printed, 1 where the hex is bad, 3 where memory runs out, 5 where the output refuses.
pub record EndsAtHex {W : Type 0} (out : W → Option (List ℕ)) (IsText : List ℕ → List ℕ → Type 0) (hex : List ℕ)
    (old new : W) (status : ℕ) : Type 0 where
  pub statuses : Contains (0 ∷ 1 ∷ 3 ∷ 5 ∷ []) status
  pub printed : status ≡ 0 → (frame : List ℕ) × SpellsHex hex frame × PrintsLine (IsText frame) (out old) (out new)
  pub bad_hex : status ≡ 1 → (frame : List ℕ) → IsBytes frame → ¬ (SpellsHex hex frame)
  pub silent : (status ≡ 1) ⊎ (status ≡ 3) → new ≡ old

-- the hex of a request
abbrev pub EndsAnyFrame : {W : Type 0} → (out : W → Option (List ℕ)) → (hex : List ℕ) → (old new : W) → (status : ℕ)
    → Type 0
EndsAnyFrame out hex old new status = EndsAtHex out (IsRequestText before_init) hex old new status

-- the hex of a reply to the opcode that has this name, where so many bytes were asked for; 2 where none has
abbrev pub EndsAnyReply : {W : Type 0} → (out : W → Option (List ℕ)) → (name : List ℕ) → (asked : ℕ) → (hex : List ℕ)
    → (old new : W) → (status : ℕ) → Type 0
EndsAnyReply out name asked hex old new status =
    ((o : Opcode) × (name_of o ≡ name) × EndsAtHex out (IsReplyText before_init o asked) hex old new status)
    ⊎ (((o : Opcode) → name_of o ≢ name) × (status ≡ 2) × (new ≡ old))
