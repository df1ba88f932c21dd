-- Maps as lists of entries in rising key: two that answer alike are one, and what a test finds among their values.
use Rattle.std.proofs.Common.{◌≡◌, ℕ, ◌≤◌, Bool, true, false, true≢false, cond, not, ◌&&◌, ◌||◌, [], ◌∷◌, Some, None, refl, ap, sym, ◌∙◌, arith, rules, inl, inr, T}
use Rattle.std.specs.Prelude.{nat_eq}
use Rattle.std.specs.List.{list_any}
use Rattle.std.specs.declared.cmp.Ordering.{Ordering}
use Rattle.std.specs.declared.cmp.Ordering.TheVariants.{Less, Equal, Greater}
use Rattle.std.specs.Ordering.{nat_cmp, eq_by_cmp, is_eq, is_lt}
use Rattle.std.specs.Cmp.{nat_cmp_total, ranked, nat_cmp_is}
use Rattle.std.specs.FinMap.{is_sorted, nat_cmp-IsAntisymmetric, gets}
use Rattle.std.specs.FinMap.Entries.{below_all, is_sorted-put, is_sorted-where_key, same_entries}
use Rattle.std.proofs.lemmas.Bool.{cases_eq}
use Rattle.std.proofs.lemmas.Option.{none-some, same_Some}
use Rattle.fuse_spec.specs.Values.Maps.{Map, get, put, remove, values}
use Rattle.fuse_spec.proofs.Tables.{cmp_same, tie_no, get_put, get_gone}

first : (a b : Bool) → T (a && b) → T a
first true b h = tt
first false b h = absurd h

second : (a b : Bool) → T (a && b) → T b
second true b h = h
second false b h = absurd h

-- the order of numbers ties exactly where they are equal
pub ties : (q k : ℕ) → eq_by_cmp nat_cmp q k ≡ nat_eq k q
ties q k = elim (cases_eq q k) [
  | inl e ↦ grind (arith, gets, e, rules)
  | inr ne ↦ grind (arith, gets, ne, rules)
]

pub turned : (q k : ℕ) → nat_eq q k ≡ nat_eq k q
turned q k = elim (cases_eq q k) [
  | inl e ↦ grind (arith, e, rules)
  | inr ne ↦ grind (arith, ne, rules)
]

swapped : {A : Type 0} (b : Bool) (x y : A) → cond (not b) x y ≡ cond b y x
swapped true x y = refl
swapped false x y = refl

module _ {X : Type 0} where
  pub same_rows : (m n : Map X) → T (is_sorted nat_cmp m) → T (is_sorted nat_cmp n) → ((q : ℕ) → get m q ≡ get n q)
      → m ≡ n
  same_rows m n a b is = same_entries nat_cmp nat_cmp_total nat_cmp-IsAntisymmetric m n a b is

  pub sorted_put : (m : Map X) (k : ℕ) (x : X) → T (is_sorted nat_cmp m) → T (is_sorted nat_cmp (put m k x))
  sorted_put m k x h = is_sorted-put nat_cmp nat_cmp_total k x m h

  pub sorted_remove : (m : Map X) (k : ℕ) → T (is_sorted nat_cmp m) → T (is_sorted nat_cmp (remove m k))
  sorted_remove m k h = is_sorted-where_key nat_cmp (λ x. not (nat_eq x k)) m h

  pub get-put : (m : Map X) (k : ℕ) (x : X) (q : ℕ) → get (put m k x) q ≡ cond (nat_eq k q) (Some x) (get m q)
  get-put m k x q = get_put m k x q ∙ ap (λ b. cond b (Some x) (get m q)) (ties q k)

  pub get-remove : (m : Map X) (k q : ℕ) → get (remove m k) q ≡ cond (nat_eq k q) None (get m q)
  get-remove m k q = get_gone m k q ∙ swapped (nat_eq q k) (get m q) None ∙ ap (λ b. cond b None (get m q)) (turned q k)

  -- rows in which one key got a value are the map in which it was put
  pub is_put : (new old : Map X) (k : ℕ) (x : X) → T (is_sorted nat_cmp new) → T (is_sorted nat_cmp old)
      → ((q : ℕ) → get new q ≡ cond (nat_eq k q) (Some x) (get old q)) → new ≡ put old k x
  is_put new old k x a b is = same_rows new (put old k x) a (sorted_put old k x b) (λ q. is q ∙ sym (get-put old k x q))

  -- and those from which it was taken are the map without it
  pub is_remove : (new old : Map X) (k : ℕ) → T (is_sorted nat_cmp new) → T (is_sorted nat_cmp old)
      → ((q : ℕ) → get new q ≡ cond (nat_eq k q) None (get old q)) → new ≡ remove old k
  is_remove new old k a b is = same_rows new (remove old k) a (sorted_remove old k b)
      (λ q. is q ∙ sym (get-remove old k q))

  none_below : (k low : ℕ) (m : Map X) → k ≤ low → T (below_all nat_cmp low m) → get m k ≡ None
  none_below k low [] le h = refl
  none_below k low (e ∷ es) le h =
      let lower = ranked low e.0 Less (lower_is (nat_cmp low e.0) (first _ _ h)) in
      rw (← nat_cmp_is k e.0 Less (omega arith)) (none_below k low es le (second _ _ h))
    where
      lower_is : (r : Ordering) → T (is_lt r) → Less ≡ r
      lower_is Less p = refl
      lower_is Equal p = absurd p
      lower_is Greater p = absurd p

  -- what stands behind the first entry is found
  pub there_later : (e : ℕ × X) (es : Map X) → T (is_sorted nat_cmp (e ∷ es)) → (k : ℕ) (x : X) → get es k ≡ Some x
      → get (e ∷ es) k ≡ Some x
  there_later e es h k x found = elim (cases_eq k e.0) [
    | inl at ↦ absurd (none-some x (sym (none_below k e.0 es (omega (arith, at)) (first _ _ h)) ∙ found))
    | inr ne ↦ ap (λ b. cond b (Some e.1) (get es k)) (tie_no k e.0 ne) ∙ found
  ]

  pub sorted_later : (e : ℕ × X) (es : Map X) → T (is_sorted nat_cmp (e ∷ es)) → T (is_sorted nat_cmp es)
  sorted_later e es h = second _ _ h

  pub first_there : (e : ℕ × X) (es : Map X) → get (e ∷ es) e.0 ≡ Some e.1
  first_there e es = ap (λ r. cond (is_eq r) (Some e.1) (get es e.0)) (cmp_same e.0)

  -- some value passes the test
  pub record HasValue (m : Map X) (test : X → Bool) : Type 0 where
    pub key : ℕ
    pub value : X
    pub there : get m key ≡ Some value
    pub passes : test value ≡ true

  pub any_there : (m : Map X) (test : X → Bool) (k : ℕ) (x : X) → get m k ≡ Some x → test x ≡ true
      → list_any test (values m) ≡ true
  any_there [] test k x is passes = absurd (none-some x is)
  any_there (e ∷ es) test k x is passes = by (is_eq (nat_cmp k e.0)) (test e.1) refl is
      (λ found. any_there es test k x found passes)
    where
      by : (b t : Bool) → test e.1 ≡ t → cond b (Some e.1) (get es k) ≡ Some x
          → (get es k ≡ Some x → list_any test (values es) ≡ true) → (t || list_any test (values es)) ≡ true
      by b true same found rest = refl
      by true false same found rest = absurd (true≢false (sym passes ∙ sym (ap test (same_Some e.1 x found)) ∙ same))
      by false false same found rest = rest found

  pub there_any : (m : Map X) (test : X → Bool) → T (is_sorted nat_cmp m) → list_any test (values m) ≡ true
      → HasValue m test
  there_any [] test h any = absurd (true≢false (sym any))
  there_any (e ∷ es) test h any = by (test e.1) refl any (there_any es test (second _ _ h))
    where
      by : (t : Bool) → test e.1 ≡ t → (t || list_any test (values es)) ≡ true
          → (list_any test (values es) ≡ true → HasValue es test) → HasValue (e ∷ es) test
      by true same any more = record {
        key = e.0;
        value = e.1;
        there = ap (λ r. cond (is_eq r) (Some e.1) (get es e.0)) (cmp_same e.0);
        passes = same;
      }
      by false same any more =
          let rest = more any in
          record {
            key = rest.key;
            value = rest.value;
            there = later rest.key rest.value rest.there;
            passes = rest.passes;
          }
        where
          later : (k : ℕ) (x : X) → get es k ≡ Some x → get (e ∷ es) k ≡ Some x
          later k x found =
              elim (cases_eq k e.0) [
                | inl at ↦ absurd (none-some x (sym (none_below k e.0 es (omega arith) (first _ _ h)) ∙ found))
                | inr ne ↦ ap (λ b. cond b (Some e.1) (get es k)) (tie_no k e.0 ne) ∙ found
              ]

  -- an answer that is yes exactly where some value passes the test
  pub any_is : (answer : Bool) (m : Map X) (test : X → Bool) → T (is_sorted nat_cmp m)
      → (answer ≡ true → HasValue m test) → (HasValue m test → answer ≡ true)
      → answer ≡ list_any test (values m)
  any_is true m test h there back = let has = there refl in
      sym (any_there m test has.key has.value has.there has.passes)
  any_is false m test h there back = by (list_any test (values m)) refl
    where
      by : (b : Bool) → list_any test (values m) ≡ b → false ≡ b
      by true any = absurd (true≢false (sym (back (there_any m test h any))))
      by false any = refl
