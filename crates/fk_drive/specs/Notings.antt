-- What is noted of a frame that waits for the kernel or is set aside.
use Rattle.std.specs.Prelude.{◌≡◌, ℕ, List, [], ◌∷◌}
use Rattle.fk_drive_frames.specs.Asides.{IsOtherFrame, SaysOtherFrame}
use Rattle.fk_drive_frames.specs.declared.aside.OtherFrame.{OtherFrame}
use Rattle.fk_drive.specs.declared.noted.Noted.{Noted}
use Rattle.fk_drive.specs.declared.noted.Noted.TheVariants.{SetAside}

-- What is set aside is noted, with what it is, and it alone. Of a frame that waits nothing is.
pub record AreNoted {N O : Type 0} (notes : N → N → O → O → List Noted → Type 0) (old new : N) (had has : O) (next : ℕ) (frame : List ℕ)
    : Type 0 where
  pub aside : IsOtherFrame next frame → (other_frame : OtherFrame) × SaysOtherFrame next frame other_frame
      × notes old new had has (SetAside other_frame ∷ [])
  pub waits : (IsOtherFrame next frame → ⊥) → (new ≡ old) × (has ≡ had)

-- From the one state to the other some were noted, or none.
abbrev pub HasNoted : {N O : Type 0} → (N → N → O → O → List Noted → Type 0) → (old new : N) → (had has : O) → Type 0
HasNoted notes old new had has = (noted : List Noted) × notes old new had has noted
