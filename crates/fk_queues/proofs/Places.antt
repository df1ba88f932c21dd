-- The first place of a number among entries.
use Rattle.std.proofs.Common.{◌≡◌, ℕ, zero, suc, ◌<◌, Bool, true, false, List, [], ◌∷◌, Some, None, get_or, set, remove, length, nat_eq, refl, nat_lt, ◌≤◌, arith}
use Rattle.std.specs.List.{position, position_or_len}
use Rattle.std.specs.Map.{lookup, remove_entry}
use Rattle.std.proofs.lemmas.Bool.Decides.{nat_tests}
use Rattle.std.proofs.lemmas.List.Quantifiers.{position-Some}
use Rattle.fuse_spec.specs.declared.Mark.{Mark}
use Rattle.fuse_spec.specs.declared.QueuedRequest.{QueuedRequest}
use Rattle.fuse_spec.specs.Kernel.QueueCalls.{set_mark}

module _ {X : Type 0} (u : ℕ) (d : ℕ × X) where
  -- the entry at i is the first under the number
  pub record IsFirstAt (es : List (ℕ × X)) (i : ℕ) : Type 0 where
    pub within : i < length es
    pub here : nat_eq u (get_or es i d).0 ≡ true
    pub before : (k : ℕ) → k < i → nat_eq u (get_or es k d).0 ≡ false

  pub is_first-later : (e : ℕ × X) (es : List (ℕ × X)) (i : ℕ) → IsFirstAt (e ∷ es) (suc i) → IsFirstAt es i
  is_first-later e es i f = record {
    within = omega (arith, f.within);
    here = f.here;
    before = λ k lt. f.before (suc k) (omega (arith, lt));
  }

  pub lookup-first : (es : List (ℕ × X)) (i : ℕ) → IsFirstAt es i → lookup (nat_eq u) es ≡ Some (get_or es i d).1
  lookup-first [] i f = absurd (omega (arith, f.within))
  lookup-first (e ∷ es) zero f = rw f.here refl
  lookup-first (e ∷ es) (suc i) f = rw (f.before 0 (omega arith)) (lookup-first es i (is_first-later e es i f))

  pub remove_entry-first : (es : List (ℕ × X)) (i : ℕ) → IsFirstAt es i → remove_entry (nat_eq u) es ≡ remove es i
  remove_entry-first [] i f = absurd (omega (arith, f.within))
  remove_entry-first (e ∷ es) zero f = rw f.here refl
  remove_entry-first (e ∷ es) (suc i) f = rw (
    f.before 0 (omega arith),
    remove_entry-first es i (is_first-later e es i f),
  ) refl

  pub is_first-position : (es : List (ℕ × X)) (i : ℕ) → position (λ e. nat_eq u e.0) es ≡ Some i → IsFirstAt es i
  is_first-position es i found =
      let at = position-Some (λ (e : ℕ × X). nat_eq u e.0) es i d found in
      record { within = at.0; here = at.1; before = at.2 }

module _ {X : Type 0} (u : ℕ) where
  -- a number that has no place is not found
  lookup-past : (es : List (ℕ × X)) → length es ≤ position_or_len (λ e. nat_eq u e.0) es → lookup (nat_eq u) es ≡ None
  lookup-past [] past = refl
  lookup-past (e ∷ es) past = grind (arith, past, lookup-past es)

  pub lookup-no_place : (es : List (ℕ × X)) → position (λ e. nat_eq u e.0) es ≡ None → lookup (nat_eq u) es ≡ None
  lookup-no_place es none = lookup-past es (by (nat_lt (position_or_len (λ e. nat_eq u e.0) es) (length es)) refl)
    where
      by : (b : Bool) → nat_lt (position_or_len (λ (e : ℕ × X). nat_eq u e.0) es) (length es) ≡ b
          → length es ≤ position_or_len (λ (e : ℕ × X). nat_eq u e.0) es
      by true h =
          let there : Some (position_or_len (λ (e : ℕ × X). nat_eq u e.0) es) ≡ None = rw h at none in
          cc
      by false h = grind (arith, nat_tests, h)

  pub remove_entry-absent : (es : List (ℕ × X)) → lookup (nat_eq u) es ≡ None → remove_entry (nat_eq u) es ≡ es
  remove_entry-absent [] none = refl
  remove_entry-absent (e ∷ es) none = grind (arith, none, remove_entry-absent es)

module _ {W : Type 0} (u : ℕ) (d : ℕ × QueuedRequest W) where
  pub set_mark-first : (es : List (ℕ × QueuedRequest W)) (i : ℕ) (m : Mark) → IsFirstAt u d es i
      → set_mark u es m ≡ set es i ((get_or es i d).0, record { mark = m; kept = (get_or es i d).1.kept })
  set_mark-first [] i m f = absurd (omega (arith, f.within))
  set_mark-first (e ∷ es) zero m f = rw f.here refl
  set_mark-first (e ∷ es) (suc i) m f = rw (
    f.before 0 (omega arith),
    set_mark-first es i m (is_first-later u d e es i f),
  ) refl
