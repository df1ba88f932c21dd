-- The values of a map, as one is put and one goes, and as they are found.
use Rattle.std.proofs.Common.{T, ◌≡◌, ℕ, Bool, true, false, true≢false, not, ◌&&◌, ◌||◌, cond, [], ◌∷◌, Some, None, nat_eq, refl, ap, sym, subst, ◌∙◌, inl, inr, All}
use Rattle.std.specs.declared.cmp.Ordering.{Ordering}
use Rattle.std.specs.declared.cmp.Ordering.TheVariants.{Less, Equal, Greater}
use Rattle.std.specs.List.{list_any}
use Rattle.std.specs.Ordering.{nat_cmp, eq_by_cmp, is_eq, is_lt}
use Rattle.std.specs.FinMap.{is_sorted}
use Rattle.std.specs.FinMap.Entries.{by_order, below_all}
use Rattle.std.proofs.lemmas.Bool.{cases_eq}
use Rattle.std.proofs.lemmas.List.Elements.{All-nil, All-cons, All-head, All-tail}
use Rattle.fuse_spec.specs.Values.Maps.{Map, get, put, remove, values}
use Rattle.fuse_spec.proofs.Tables.{cmp_same, tie_no}

module _ {X : Type 0} (P : X → Type 0) where
  pub All-put : (m : Map X) (k : ℕ) (x : X) → All P (values m) → P x → All P (values (put m k x))
  All-put [] k x h new = All-cons P x [] new (All-nil P)
  All-put (e ∷ m) k x h new = by (nat_cmp k e.0) (All-put m k x (All-tail P e.1 (values m) h) new)
    where
      by : (r : Ordering) → All P (values (put m k x))
          → All P (values (by_order r ((k, x) ∷ e ∷ m) ((e.0, x) ∷ m) (e ∷ put m k x)))
      by Less rest = All-cons P x (values (e ∷ m)) new h
      by Equal rest = All-cons P x (values m) new (All-tail P e.1 (values m) h)
      by Greater rest = All-cons P e.1 (values (put m k x)) (All-head P e.1 (values m) h) rest

  pub All-gone : (m : Map X) (k : ℕ) → All P (values m) → All P (values (remove m k))
  All-gone [] k h = h
  All-gone (e ∷ m) k h = by (nat_eq e.0 k) (All-gone m k (All-tail P e.1 (values m) h))
    where
      by : (b : Bool) → All P (values (remove m k)) → All P (values (cond (not b) (e ∷ remove m k) (remove m k)))
      by true rest = rest
      by false rest = All-cons P e.1 (values (remove m k)) (All-head P e.1 (values m) h) rest

  -- what is found is a value
  pub All-get : (m : Map X) (k : ℕ) (x : X) → All P (values m) → get m k ≡ Some x → P x
  All-get [] k x h at = absurd (cc)
  All-get (e ∷ m) k x h at = by (eq_by_cmp nat_cmp k e.0) at (All-get m k x (All-tail P e.1 (values m) h))
    where
      by : (b : Bool) → cond b (Some e.1) (get m k) ≡ Some x → (get m k ≡ Some x → P x) → P x
      by true f rest = let is : e.1 ≡ x = cc in subst P is (All-head P e.1 (values m) h)
      by false f rest = rest f

-- ---- keys that rise

sorted_head : (a b : Bool) → T (a && b) → T a
sorted_head true b h = tt
sorted_head false b h = absurd h

sorted_tail : (a b : Bool) → T (a && b) → T b
sorted_tail true b h = h
sorted_tail false b h = absurd h

module _ {X : Type 0} where
  -- nothing is found at a key below all
  below_none : (k : ℕ) (m : Map X) → T (below_all nat_cmp k m) → get m k ≡ None
  below_none k [] h = refl
  below_none k (e ∷ m) h = by (nat_cmp k e.0) (sorted_head _ _ h)
      (below_none k m (sorted_tail (is_lt (nat_cmp k e.0)) (below_all nat_cmp k m) h))
    where
      by : (r : Ordering) → T (is_lt r) → get m k ≡ None → cond (is_eq r) (Some e.1) (get m k) ≡ None
      by Less t rest = rest
      by Equal t rest = absurd t
      by Greater t rest = absurd t

  -- what is found behind the first entry is found still
  found_behind : (e : ℕ × X) (m : Map X) → T (is_sorted nat_cmp (e ∷ m)) → (k : ℕ) (x : X) → get m k ≡ Some x
      → get (e ∷ m) k ≡ Some x
  found_behind e m sorted k x at = elim (cases_eq k e.0) [
    | inl same ↦ absurd (cc (
      at,
      subst (λ (n : ℕ). get m n ≡ None) (sym same)
          (below_none e.0 m (sorted_head (below_all nat_cmp e.0 m) (is_sorted nat_cmp m) sorted)),
    ))
    | inr ne ↦ ap (λ (b : Bool). cond b (Some e.1) (get m k)) (tie_no k e.0 ne) ∙ at
  ]

  found_first : (e : ℕ × X) (m : Map X) → get (e ∷ m) e.0 ≡ Some e.1
  found_first e m = ap (λ (r : Ordering). cond (is_eq r) (Some e.1) (get m e.0)) (cmp_same e.0)

  -- a value that passes a test is found at its key
  pub any_found : (test : X → Bool) (m : Map X) → T (is_sorted nat_cmp m) → list_any test (values m) ≡ true
      → (k : ℕ) × (x : X) × (get m k ≡ Some x) × (test x ≡ true)
  any_found test [] sorted any = absurd (true≢false (sym any))
  any_found test (e ∷ m) sorted any = by (test e.1) refl any
      (any_found test m (sorted_tail (below_all nat_cmp e.0 m) (is_sorted nat_cmp m) sorted))
    where
      later : (k : ℕ) × (x : X) × (get m k ≡ Some x) × (test x ≡ true)
          → (k : ℕ) × (x : X) × (get (e ∷ m) k ≡ Some x) × (test x ≡ true)
      later (k, x, at, holds) = (k, x, found_behind e m sorted k x at, holds)

      by : (b : Bool) → test e.1 ≡ b → (b || list_any test (values m)) ≡ true
          → (list_any test (values m) ≡ true → (k : ℕ) × (x : X) × (get m k ≡ Some x) × (test x ≡ true))
          → (k : ℕ) × (x : X) × (get (e ∷ m) k ≡ Some x) × (test x ≡ true)
      by true holds any rest = (e.0, e.1, found_first e m, holds)
      by false fails any rest = later (rest any)

  -- what is true of each that is found is true of each value
  pub All-found_values : (P : X → Type 0) (m : Map X) → T (is_sorted nat_cmp m)
      → ((k : ℕ) (x : X) → get m k ≡ Some x → P x) → All P (values m)
  All-found_values P [] sorted each = All-nil P
  All-found_values P (e ∷ m) sorted each =
      All-cons P e.1 (values m) (each e.0 e.1 (found_first e m))
      (All-found_values P m (sorted_tail (below_all nat_cmp e.0 m) (is_sorted nat_cmp m) sorted)
      (λ k x at. each k x (found_behind e m sorted k x at)))
