-- The first fault of words, one word after another.
use Rattle.std.proofs.Common.{◌≡◌, ℕ, ◌+◌, ◌<◌, Bool, true, false, List, ◌∷◌, Option, Some, None, refl, arith}
use Rattle.std.proofs.lemmas.Bool.Decides.{nat_tests}
use Rattle.std.specs.Prelude.{nat_le}
use Rattle.fuse_spec.specs.Calls.Paths.{Name, word_fault, first_fault}

module _ (place : ℕ) (word : Name) (words : List Name) where
  pub fault_here : (errno : ℕ) → word_fault place word ≡ Some errno → first_fault place (word ∷ words) ≡ Some errno
  fault_here errno fault = rw (fault, first_fault) refl

  pub fault_behind : word_fault place word ≡ None → first_fault place (word ∷ words) ≡ first_fault (place + 1) words
  fault_behind none = rw (none, first_fault) refl

-- only the first 32 words have no fault
pub few_words : (place : ℕ) (word : Name) → word_fault place word ≡ None → place < 32
few_words place word none = by (nat_le 32 place) refl
  where
    by : (t : Bool) → nat_le 32 place ≡ t → place < 32
    by true h =
        let there : ◌≡◌ {A = Option ℕ} (Some 36) None = rw h at none in
        cc
    by false h = grind (arith, nat_tests, h)
