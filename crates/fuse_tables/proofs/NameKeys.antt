-- What the order of names as keys tells apart: the same names as the order of their bytes.
use Rattle.std.proofs.Common.{◌≡◌, ℕ, suc, zero, ◌+◌, ◌*◌, ◌%◌, ◌^◌, ◌<◌, ◌≤◌, Bool, List, [], ◌∷◌, length, take, refl, sym, ap, subst, ◌∙◌, arith, Equal}
use Rattle.std.specs.List.{slice_index}
use Rattle.std.specs.Map.{lookup, KeepsOthers}
use Rattle.std.specs.Ordering.{nat_cmp, eq_by_cmp}
use Rattle.std.specs.Cmp.Lexicographic.{slice_cmp}
use Rattle.std.proofs.lemmas.List.{take_all}
use Rattle.fuse_spec.proofs.Tables.{cmp_same}
use Rattle.fuse_tables.specs.NameFronts.{front_of, number_behind}
use Rattle.fuse_tables.specs.NameKeys.{is_named, name_cmp}
use Rattle.fuse_tables.proofs.NameFronts.{by_front}

-- ---- in a map

abbrev pub key_test : List ℕ → List ℕ → Bool
key_test = eq_by_cmp name_cmp

both_tests : key_test ≡ is_named
both_tests = λ i name key. by_front name key i

module _ {V : Type 0} where
  -- What is found by the key of a name is found by the name.
  pub found_by_key : (rows : List (List ℕ × V)) (name key : List ℕ) → key ≡ name
      → lookup (key_test key) rows ≡ lookup (is_named name) rows
  found_by_key rows name key same =
      ap (λ (k : List ℕ). lookup (key_test k) rows) same
      ∙ ap (λ (tests : List ℕ → List ℕ → Bool). lookup (tests name) rows) both_tests

  -- What keeps the others by their keys keeps them by their names.
  pub kept_by_key : (name key : List ℕ) → key ≡ name → (old new : List (List ℕ × V))
      → KeepsOthers key_test (key_test key) old new → KeepsOthers is_named (is_named name) old new
  kept_by_key name key same old new keeps =
      subst (λ (tests : List ℕ → List ℕ → Bool). KeepsOthers tests (tests name) old new) both_tests
      (subst (λ (k : List ℕ). KeepsOthers key_test (key_test k) old new) same keeps)

-- ---- short names

-- Numbers below `most` do not overflow, this many bytes ahead.
abbrev Fits : ℕ → ℕ → Type 0
Fits most zero = Unit
Fits most (suc k) = (most * 256 ≤ 2 ^ 64) × Fits (most * 256) k

eight_fit : Fits 1 8
eight_fit =
    (omega arith, (omega arith, (omega arith, (omega arith, (omega arith, (omega arith, (omega arith, (omega arith, tt))))))))

abbrev AreBytes : List ℕ → Type 0
AreBytes bytes = (k : ℕ) → slice_index bytes k < 256

same_behind : (xs ys : List ℕ) (k most n m : ℕ) → Fits most k → length xs ≤ k → n < most → m < most
    → length xs ≡ length ys → AreBytes xs → AreBytes ys → number_behind n xs ≡ number_behind m ys
    → (n ≡ m) × (xs ≡ ys)
same_behind [] [] k most n m fits few below under same bx by e = (e, refl)
same_behind [] (y ∷ ys) k most n m fits few below under same bx by e = absurd (omega (arith, same))
same_behind (x ∷ xs) [] k most n m fits few below under same bx by e = absurd (omega (arith, same))
same_behind (x ∷ xs) (y ∷ ys) zero most n m fits few below under same bx by e = absurd (omega (arith, few))
same_behind (x ∷ xs) (y ∷ ys) (suc k) most n m fits few below under same bx by e =
    let x_fits : x < 256 = bx 0 in
    let y_fits : y < 256 = by 0 in
    let left : ((n * 256) % 2 ^ 64 + x) % 2 ^ 64 ≡ n * 256 + x = omega (arith, fits.0) in
    let right : ((m * 256) % 2 ^ 64 + y) % 2 ^ 64 ≡ m * 256 + y = omega (arith, fits.0) in
    let rest = same_behind xs ys k (most * 256) (n * 256 + x) (m * 256 + y) fits.1 (omega (arith, few)) (omega arith)
    (omega arith) (omega (arith, same)) (λ i. bx (suc i)) (λ i. by (suc i))
    (ap (λ (i : ℕ). number_behind i xs) (sym left) ∙ e ∙ ap (λ (i : ℕ). number_behind i ys) right) in
    let first : x ≡ y = omega (arith, rest.0) in (
      omega (arith, rest.0),
      ap (λ (i : ℕ). i ∷ xs) first ∙ ap (λ (l : List ℕ). y ∷ l) rest.1,
    )

itself : (name : List ℕ) → slice_cmp nat_cmp name name ≡ Equal
itself [] = refl
itself (x ∷ xs) = rw (cmp_same x) (itself xs)

-- Names of one front and one length of at most eight bytes are the same.
pub same_short : (a b : List ℕ) → AreBytes a → AreBytes b → front_of a ≡ front_of b → length a ≡ length b
    → length a ≤ 8 → slice_cmp nat_cmp a b ≡ Equal
unfolding front_of
same_short a b a_bytes b_bytes fronts len short =
    let a_all : take 8 a ≡ a = take_all 8 a short in
    let b_all : take 8 b ≡ b = take_all 8 b (omega (arith, len, short)) in
    let numbers = sym (ap (number_behind 0) a_all) ∙ fronts ∙ ap (number_behind 0) b_all in
    let same = same_behind a b 8 1 0 0 eight_fit short (omega arith) (omega arith) len a_bytes b_bytes numbers in
    ap (slice_cmp nat_cmp a) (sym same.1) ∙ itself a
