-- Exit statuses.
use Rattle.std.proofs.Common.{◌≡◌, ℕ, List, [], ◌∷◌, Option, zero, suc, arith, refl}
use Rattle.std.specs.Prelude.{Contains}
use Rattle.hex.specs.Hex.{IsBytes}
use Rattle.fuse_text.specs.HexTexts.{SpellsHex}
use Rattle.fuse_text.specs.declared.hex_text.HexFault.{HexFault}
use Rattle.fuse_text.specs.declared.hex_text.HexFault.TheVariants as hex_fault
use Rattle.fw_any.specs.Endings.{EndsAtHex, hex_status_of}

-- those of a command on one frame are those of one that also names an opcode
pub with_two : (status : ℕ) → Contains (0 ∷ 1 ∷ 3 ∷ 5 ∷ []) status → Contains (0 ∷ 1 ∷ 2 ∷ 3 ∷ 5 ∷ []) status
with_two status (zero, below, is) = (0, omega arith, is)
with_two status (suc zero, below, is) = (1, omega arith, is)
with_two status (suc (suc zero), below, is) = (3, omega arith, is)
with_two status (suc (suc (suc zero)), below, is) = (4, omega arith, is)
with_two status (suc (suc (suc (suc n))), below, is) = absurd (omega (arith, below))

-- hex that is not read: nothing was printed
pub hex_ends : {W : Type 0} (out : W → Option (List ℕ)) (IsText : List ℕ → List ℕ → Type 0) (hex : List ℕ) (old : W)
    (fault : HexFault) → (fault ≡ hex_fault.BadHex → (frame : List ℕ) → IsBytes frame → ¬ (SpellsHex hex frame))
    → EndsAtHex out IsText hex old old (hex_status_of fault)
hex_ends out IsText hex old hex_fault.BadHex bad = record {
  statuses = (1, omega arith, refl);
  printed = λ at. absurd (cc at);
  bad_hex = λ at. bad refl;
  silent = λ at. refl;
}
hex_ends out IsText hex old hex_fault.NoMemory bad = record {
  statuses = (2, omega arith, refl);
  printed = λ at. absurd (cc at);
  bad_hex = λ at. absurd (cc at);
  silent = λ at. refl;
}
