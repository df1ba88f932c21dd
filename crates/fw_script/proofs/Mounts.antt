-- The words after `mount`.
use Rattle.std.proofs.Common.{ℕ, List, [], ◌∷◌, arith}
use Rattle.fuse_text.specs.Words.{HasWords}
use Rattle.fw_script.specs.Arguments.{ArgumentFaultIs, number}
use Rattle.fw_script.specs.Forms.{arguments_of_mount}
use Rattle.fw_script.specs.declared.line.LineFault.{LineFault}
use Rattle.fw_script.specs.declared.line.LineFault.TheVariants.{UnknownEvent, WrongWords, BadNumber, BadText}

-- What is wrong with two numbers is wrong with what follows `mount`, where that is no three words.
pub mount_fault : (words : List (List ℕ)) → ¬ (HasWords 3 words) → (fault : LineFault)
    → ArgumentFaultIs (number ∷ number ∷ []) words fault → ArgumentFaultIs (arguments_of_mount words) words fault
mount_fault [] none fault is = is
mount_fault (a ∷ []) none fault is = is
mount_fault (a ∷ b ∷ []) none fault is = is
mount_fault (a ∷ b ∷ c ∷ words) none UnknownEvent is = is
mount_fault (a ∷ b ∷ c ∷ words) none WrongWords is = λ shaped. none shaped.0
mount_fault (a ∷ b ∷ c ∷ words) none BadNumber is = let two = is.0.0.0 in absurd (omega (arith, two))
mount_fault (a ∷ b ∷ c ∷ words) none BadText is = let two = is.0.0.0 in absurd (omega (arith, two))
