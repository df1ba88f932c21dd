-- Sums over the values of a map, as one is put and one goes.
use Rattle.std.proofs.Common.{◌≡◌, ℕ, ◌+◌, ◌<◌, Bool, true, false, not, cond, [], ◌∷◌, Option, Some, None, nat_eq, refl, ap, sym, subst, ◌∙◌, arith, rules}
use Rattle.std.specs.Prelude.{T, sum_by}
use Rattle.std.specs.declared.cmp.Ordering.{Ordering}
use Rattle.std.specs.declared.cmp.Ordering.TheVariants.{Less, Equal, Greater}
use Rattle.std.specs.Ordering.{nat_cmp, is_eq, is_lt}
use Rattle.std.specs.Cmp.{nat_cmp_total}
use Rattle.std.specs.FinMap.{is_sorted}
use Rattle.std.specs.FinMap.Entries.{below_all, by_order, is_sorted-put, is_sorted-where_key}
use Rattle.std.proofs.lemmas.Bool.Decides.{nat_tests}
use Rattle.std.proofs.lemmas.List.Sums.{sum_by-cons}
use Rattle.fuse_spec.specs.Values.Maps.{Map, get, put, remove, values}
use Rattle.fuse_spec.proofs.Tables.{cmp_same, tie_no}
use Rattle.fuse_theorem.proofs.Answers.AnswersApart.{both_first, both_second}

-- The keys rise.
abbrev pub Rises : {X : Type 0} → Map X → Type 0
Rises m = T (is_sorted nat_cmp m)

pub put_rises : {X : Type 0} (m : Map X) (k : ℕ) (x : X) → Rises m → Rises (put m k x)
put_rises m k x rises = is_sorted-put nat_cmp nat_cmp_total k x m rises

pub gone_rises : {X : Type 0} (m : Map X) (k : ℕ) → Rises m → Rises (remove m k)
gone_rises m k rises = is_sorted-where_key nat_cmp (λ n. not (nat_eq n k)) m rises

pub less_is : (a b : ℕ) → T (is_lt (nat_cmp a b)) → a < b
less_is a b h = by (nat_cmp a b) refl h
  where
    by : (r : Ordering) → nat_cmp a b ≡ r → T (is_lt r) → a < b
    by Less e t = grind (arith, rules, e)
    by Equal e t = absurd t
    by Greater e t = absurd t

-- A key below all others is not among theirs.
none_from : {X : Type 0} (m : Map X) (low k : ℕ) → T (below_all nat_cmp low m) → k < low + 1 → get m k ≡ None
none_from [] low k below le = refl
none_from (e ∷ m) low k below le =
    let first = less_is low e.0 (both_first (is_lt (nat_cmp low e.0)) (below_all nat_cmp low m) below) in
    let apart = tie_no k e.0 (λ same. absurd (omega (arith, same, first, le))) in
    ap (λ (b : Bool). cond b (Some e.1) (get m k)) apart ∙ none_from m low k
    (both_second (is_lt (nat_cmp low e.0)) (below_all nat_cmp low m) below) le

module _ {X : Type 0} (e : ℕ × X) (m : Map X) (rises : Rises (e ∷ m)) where
  pub rest_rises : Rises m
  rest_rises = both_second (below_all nat_cmp e.0 m) (is_sorted nat_cmp m) rises

  rest_below : T (below_all nat_cmp e.0 m)
  rest_below = both_first (below_all nat_cmp e.0 m) (is_sorted nat_cmp m) rises

  -- the first key is not among the others
  pub first_apart : (k : ℕ) → k < e.0 + 1 → get m k ≡ None
  first_apart k le = none_from m e.0 k rest_below le

module _ {X : Type 0} (f : X → ℕ) where
  abbrev pub worth : Option X → ℕ
  worth None = 0
  worth (Some x) = f x

  abbrev pub values_sum : Map X → ℕ
  values_sum m = sum_by f (values m)

  -- A value is put in the place of the old one, if there was one.
  pub sum_put : (m : Map X) (k : ℕ) (x : X) → Rises m → values_sum (put m k x) + worth (get m k) ≡ values_sum m + f x
  sum_put [] k x rises = let one = sum_by-cons f x [] in omega (arith, one)
  sum_put (e ∷ m) k x rises = by (nat_cmp k e.0) refl (sum_put m k x (rest_rises e m rises))
    where
      whole : values_sum (e ∷ m) ≡ f e.1 + values_sum m
      whole = sum_by-cons f e.1 (values m)

      by : (r : Ordering) → nat_cmp k e.0 ≡ r → values_sum (put m k x) + worth (get m k) ≡ values_sum m + f x
          → values_sum (by_order r ((k, x) ∷ e ∷ m) ((e.0, x) ∷ m) (e ∷ put m k x)) + worth
          (cond (is_eq r) (Some e.1) (get m k)) ≡ values_sum (e ∷ m) + f x
      by Less is rest =
          let low : k < e.0 = less_is k e.0 (subst T (sym (ap is_lt is)) tt) in
          let none = ap worth (first_apart e m rises k (omega (arith, low))) in
          let more = sum_by-cons f x (values (e ∷ m)) in
          omega (arith, none, more)
      by Equal is rest = let more = sum_by-cons f x (values m) in omega (arith, whole, more)
      by Greater is rest = let more = sum_by-cons f e.1 (values (put m k x)) in omega (arith, whole, more, rest)

  -- The value at a key goes, if there was one.
  pub sum_gone : (m : Map X) (k : ℕ) → Rises m → values_sum (remove m k) + worth (get m k) ≡ values_sum m
  sum_gone [] k rises = refl
  sum_gone (e ∷ m) k rises = by (nat_eq e.0 k) refl (sum_gone m k (rest_rises e m rises))
    where
      whole : values_sum (e ∷ m) ≡ f e.1 + values_sum m
      whole = sum_by-cons f e.1 (values m)

      by : (b : Bool) → nat_eq e.0 k ≡ b → values_sum (remove m k) + worth (get m k) ≡ values_sum m
          → values_sum (cond (not b) (e ∷ remove m k) (remove m k)) + worth (get (e ∷ m) k) ≡ values_sum (e ∷ m)
      by true is rest =
          let key : k ≡ e.0 = grind (arith, nat_tests, is) in
          let none = ap worth (first_apart e m rises k (omega (arith, key))) in
          let here : worth (get (e ∷ m) k) ≡ f e.1 = ap (λ (n : ℕ). worth
          (cond (is_eq (nat_cmp n e.0)) (Some e.1) (get m n))) key ∙ ap
          (λ (r : Ordering). worth (cond (is_eq r) (Some e.1) (get m e.0))) (cmp_same e.0) in
          omega (arith, whole, none, here, rest)
      by false is rest =
          let other = tie_no k e.0 (λ same. absurd (grind (arith, nat_tests, is, same))) in
          let there : worth (get (e ∷ m) k) ≡ worth (get m k) =
          ap (λ (b : Bool). worth (cond b (Some e.1) (get m k))) other in
          let more = sum_by-cons f e.1 (values (remove m k)) in
          omega (arith, whole, there, more, rest)
