-- How a command on one frame ends, by its exit status.
use Rattle.std.specs.Prelude.{◌≡◌, ◌≢◌, ◌⊎◌, ℕ, Bool, List, [], ◌∷◌, Option, Contains}
use Rattle.fk_wire.specs.Opcodes.{name_of}
use Rattle.fk_wire.specs.declared.opcode.Opcode.{Opcode}
use Rattle.fw_frames.specs.Frames.{PrintsFrame, PrintsReply}
use Rattle.fuse_text.specs.HexTexts.{SpellsHex}
use Rattle.hex.specs.Hex.{IsBytes}

-- What becomes of an output, of which `out` says what it holds, at the hex of a request: 0 where it is printed, 1 where
-- it is no hex, 3 where memory runs out, 5 where the output refuses.
pub record EndsFrame {W : Type 0} (out : W → Option (List ℕ)) (words : Bool) (text : List ℕ) (old new : W) (status : ℕ)
    : Type 0 where
  pub statuses : Contains (0 ∷ 1 ∷ 3 ∷ 5 ∷ []) status
  pub printed : status ≡ 0 → (frame : List ℕ) × SpellsHex text frame × PrintsFrame words frame (out old) (out new)
  pub bad_hex : status ≡ 1 → (frame : List ℕ) → IsBytes frame → ¬ (SpellsHex text frame)
  pub silent : (status ≡ 1) ⊎ (status ≡ 3) → new ≡ old

-- The same at the hex of a reply to an opcode that has this name; 2 where none has.
pub record EndsReply {W : Type 0} (out : W → Option (List ℕ)) (name text : List ℕ) (old new : W) (status : ℕ)
    : Type 0 where
  pub statuses : Contains (0 ∷ 1 ∷ 2 ∷ 3 ∷ 5 ∷ []) status
  pub printed : status ≡ 0 → (o : Opcode) × (name_of o ≡ name) × (frame : List ℕ) × SpellsHex text frame
      × PrintsReply o frame (out old) (out new)
  pub bad_hex : status ≡ 1 → (frame : List ℕ) → IsBytes frame → ¬ (SpellsHex text frame)
  pub unknown : status ≡ 2 → (o : Opcode) → name_of o ≢ name
  pub silent : (status ≡ 1) ⊎ (status ≡ 2) ⊎ (status ≡ 3) → new ≡ old
