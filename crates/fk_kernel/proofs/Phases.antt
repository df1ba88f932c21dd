-- What the phases and the counters of a kernel say.
use Rattle.std.proofs.Common.{◌≡◌, ℕ, ◌≤◌, ◌^◌, true, false, true≢false, refl, sym, arith}
use Rattle.std.specs.Prelude.{◌||◌, nat_lt}
use Rattle.std.proofs.lemmas.Bool.Decides.{nat_tests}
use Rattle.fuse_spec.specs.declared.Phase.{Phase}
use Rattle.fuse_spec.specs.declared.Phase.TheVariants.{Down, Starting, Ready, Aborted}
use Rattle.fuse_spec.specs.Kernel.Kernel.{is_live, is_aborted}
use Rattle.fuse_spec.specs.Kernel.Refusals.{is_ready}

pub live_if : (p : Phase) → is_ready p ≡ true → is_aborted p ≡ false → is_live p ≡ true
live_if Down ready aborted = absurd (true≢false (sym ready))
live_if Starting ready aborted = refl
live_if Ready ready aborted = refl
live_if Aborted ready aborted = absurd (true≢false aborted)

-- two counters of which neither is past its end
pub none_past_end : (unique call : ℕ) → unique ≤ 2 ^ 62 → call ≤ 2 ^ 62
    → (nat_lt (2 ^ 62) unique || nat_lt (2 ^ 62) call) ≡ false
none_past_end unique call low few = grind (arith, nat_tests)

pub within_ends : (unique call : ℕ) → (nat_lt (2 ^ 62) unique || nat_lt (2 ^ 62) call) ≡ false
    → (unique ≤ 2 ^ 62) × (call ≤ 2 ^ 62)
within_ends unique call within = (grind (arith, nat_tests), grind (arith, nat_tests))
