-- Answers are collected one after another, the lowest first.
use Rattle.std.proofs.Common.{◌≡◌, ℕ, ◌+◌, ◌≤◌, ◌<◌, Bool, not, nat_eq, cond, [], ◌∷◌, Option, Some, None, length, slice_get, refl, ap, sym, arith, inl, inr}
use Rattle.std.proofs.lemmas.Bool.Decides.{eqb_tells}
use Rattle.std.proofs.lemmas.List.Sums.{count_by-le-length, length-filter}
use Rattle.fuse_spec.specs.Calls.Answers.{Answer}
use Rattle.fuse_spec.specs.Kernel.Kernel.{Kernel}
use Rattle.fuse_spec.specs.Values.Maps.{Map, remove}

abbrev key_or : {X : Type 0} → ℕ → Option (ℕ × X) → ℕ
key_or k None = k
key_or k (Some e) = e.0

no_longer : {X : Type 0} (k : ℕ) (m : Map X) → length (remove m k) ≤ length m
no_longer k m =
    let counted = length-filter (λ e. not (nat_eq e.0 k)) m in
    let few = count_by-le-length (λ e. not (nat_eq e.0 k)) m in
    omega (arith, counted, few)

-- Without its first entry a map has fewer.
pub fewer : {X : Type 0} (m : Map X) (k : ℕ) (x : X) → Some (k, x) ≡ slice_get m 0
    → length (remove m k) + 1 ≤ length m
fewer {X} [] k x is = let no : ◌≡◌ {A = Option (ℕ × X)} (Some (k, x)) None = is in cc
fewer (e ∷ m) k x is = elim (eqb_tells e.0 k) [
  | inl h ↦ let gone : length (remove (e ∷ m) k) ≡ length (remove m k) =
      ap (λ (b : Bool). length (cond (not b) (e ∷ remove m k) (remove m k))) h.0 in
      let few = no_longer k m in
      omega (arith, gone, few)
  | inr h ↦ absurd (h.1 (sym (ap (key_or k) is)))
]

-- A map without a first entry is empty.
pub none_first : {X : Type 0} (m : Map X) → None ≡ slice_get m 0 → m ≡ []
none_first [] is = refl
none_first {X} (e ∷ m) is = let no : ◌≡◌ {A = Option (ℕ × X)} None (Some e) = is in cc

-- A kernel of which the first answer is collected has fewer.
pub fewer_left : (old new : Kernel) (k : ℕ) (x : Answer) → Some (k, x) ≡ slice_get old.vfs.answers 0
    → new ≡ record old { vfs = record old.vfs { answers = remove old.vfs.answers k } }
    → length new.vfs.answers < length old.vfs.answers
fewer_left old new k x first taken =
    let less = fewer old.vfs.answers k x first in
    let same = ap (λ (kernel : Kernel). length kernel.vfs.answers) taken in
    omega (arith, less, same)
