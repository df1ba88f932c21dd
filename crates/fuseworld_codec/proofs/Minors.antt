-- The numbers of the minor versions.
use Rattle.std.proofs.Common.{◌≡◌, ℕ, refl, sym, subst, ◌∙◌}
use Rattle.fk_wire.specs.declared.opcode.Minor.{Minor}
use Rattle.fk_wire.specs.declared.opcode.Minor.TheVariants as minors
use Rattle.fk_wire.specs.declared.opcode.Opcode.{Opcode}
use Rattle.fuseworld_codec.specs.Status.{minor_number_of}

one_minor : (v w : Minor) → minor_number_of v ≡ minor_number_of w → v ≡ w
one_minor minors.M15 minors.M15 e = refl
one_minor minors.M15 minors.M31 e = cc e
one_minor minors.M31 minors.M15 e = cc e
one_minor minors.M31 minors.M31 e = refl

-- What holds at one minor version and opcode holds at another of the same numbers.
pub moved : (P : Minor → Opcode → Type 0) (v w : Minor) (o p : Opcode) (number : ℕ) → minor_number_of v ≡ number
    → minor_number_of w ≡ number → o ≡ p → P v o → P w p
moved P v w o p number ev ew same h = subst (λ (q : Opcode). P w q) same
    (subst (λ (m : Minor). P m o) (one_minor v w (ev ∙ sym ew)) h)

pub one_minor_of : (v w : Minor) (number : ℕ) → minor_number_of v ≡ number → minor_number_of w ≡ number → v ≡ w
one_minor_of v w number ev ew = one_minor v w (ev ∙ sym ew)
