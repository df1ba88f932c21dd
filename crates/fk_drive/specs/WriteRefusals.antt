-- Why the kernel refuses a frame.
use Rattle.std.specs.Prelude.{◌≡◌, ◌∷◌, ℕ, List, map}
use Rattle.fuse_spec.specs.declared.Refusal.{Refusal}
use Rattle.fuse_spec.specs.Kernel.Kernel.{Kernel}
use Rattle.fk_kernel.specs.AwaitedReplies.{HasReplyHead}
use Rattle.fk_kernel.specs.Refused.{WriteRefused}
use Rattle.fk_drive_frames.specs.Agreements.{IsHandedOn}
use Rattle.fk_drive.specs.declared.connection.Connection.{Connection}

-- The kernel refuses what is handed to it of a frame.
abbrev pub IsWriteRefused : Kernel → List ℕ → Refusal → Type 0
IsWriteRefused kernel frame refusal =
    (handed : List ℕ) × IsHandedOn frame handed × (HasReplyHead handed → WriteRefused kernel handed refusal)

-- It refuses the first frame that waits, which still does.
abbrev pub IsFirstRefused : {A : Type 0} → Kernel → Connection A → Refusal → Type 0
IsFirstRefused kernel connection refusal =
    (frame : List ℕ) × (rest : List (List ℕ)) × (map (λ f. f.items) connection.waiting.items ≡ frame ∷ rest)
    × IsWriteRefused kernel frame refusal
