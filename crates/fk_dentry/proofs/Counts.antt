-- Counts of nodes through a write and a removal.
use Rattle.std.proofs.Common.{◌≡◌, ◌≢◌, ℕ, zero, suc, ◌+◌, ◌-◌, ◌<◌, ◌≤◌, Bool, true, false, cond, not, [], ◌∷◌, length, filter, Option, Some, None, is_some, refl, sym, ap, subst, ◌∙◌, arith, rules, T, Less, Equal, Greater, inl, inr}
use Rattle.std.specs.Prelude.{nat_eq, nat_lt}
use Rattle.std.specs.Option.{unwrap_or}
use Rattle.std.specs.Ordering.{nat_cmp, is_eq, eq_by_cmp}
use Rattle.std.specs.Cmp.{nat_cmp_total}
use Rattle.std.specs.FinMap.{is_sorted, nat_cmp-IsAntisymmetric, gets}
use Rattle.std.specs.FinMap.Entries.{by_order, is_sorted-put, same_entries, length-put, length_without}
use Rattle.std.proofs.lemmas.Bool.{cases_eq, lt-ltb}
use Rattle.std.proofs.lemmas.Bool.Decides.{eqb_tells}
use Rattle.std.proofs.lemmas.Option.{none-some}
use Rattle.fuse_spec.specs.Values.Maps.{Map, get, put, remove}
use Rattle.fuse_spec.proofs.Tables.{cmp_same, tie_no, get_put_here, get_put_there, get_gone_here, get_gone_there}
use Rattle.fk_dentry.specs.Counts.{mentions_of, total_in}
use Rattle.fk_dentry.proofs.SortedEntries.{both_first, both_second, less_all, tied_all, none_below}

-- no count is 0
abbrev pub AreUsed : Map ℕ → Type 0
AreUsed es = (id : ℕ) → get es id ≢ Some 0

-- ---- the count of a node

pub mentions-put : (es : Map ℕ) (id n : ℕ) (q : ℕ)
    → mentions_of (put es id n) q ≡ cond (nat_eq q id) n (mentions_of es q)
mentions-put es id n q = elim (eqb_tells q id) [
  | inl h ↦ ap (λ x. mentions_of (put es id n) x) h.1 ∙ ap (λ o. unwrap_or o 0) (get_put_here es id n) ∙ ap
      (λ b. cond b n (mentions_of es q)) (sym h.0)
  | inr h ↦ ap (λ o. unwrap_or o 0) (get_put_there es id n q h.1) ∙ ap (λ b. cond b n (mentions_of es q)) (sym h.0)
]

pub mentions-remove : (es : Map ℕ) (id q : ℕ) → mentions_of (remove es id) q ≡ cond (nat_eq q id) 0 (mentions_of es q)
mentions-remove es id q = elim (eqb_tells q id) [
  | inl h ↦ ap (λ x. mentions_of (remove es id) x) h.1 ∙ ap (λ o. unwrap_or o 0) (get_gone_here es id) ∙ ap
      (λ b. cond b 0 (mentions_of es q)) (sym h.0)
  | inr h ↦ ap (λ o. unwrap_or o 0) (get_gone_there es id q h.1) ∙ ap (λ b. cond b 0 (mentions_of es q)) (sym h.0)
]

pub used-put : (es : Map ℕ) (id n : ℕ) → 0 < n → AreUsed es → AreUsed (put es id n)
used-put es id n some used q is = elim (cases_eq q id) [
  | inl e ↦ (let zero : n ≡ 0 = ap (λ o. unwrap_or o 0)
      (sym (get_put_here es id n) ∙ ap (get (put es id n)) (sym e) ∙ is) in absurd (omega arith))
  | inr ne ↦ used q (sym (get_put_there es id n q ne) ∙ is)
]

pub used-remove : (es : Map ℕ) (id : ℕ) → ((q : ℕ) → q ≢ id → get es q ≢ Some 0) → AreUsed (remove es id)
used-remove es id used q is = elim (cases_eq q id) [
  | inl e ↦ none-some 0 (sym (get_gone_here es id) ∙ ap (get (remove es id)) (sym e) ∙ is)
  | inr ne ↦ used q ne (sym (get_gone_there es id q ne) ∙ is)
]

-- a node that has a count is named
pub counted_is : (es : Map ℕ) (id : ℕ) → AreUsed es → is_some (get es id) ≡ nat_lt 0 (mentions_of es id)
counted_is es id used = by (get es id) refl
  where
    by : (o : Option ℕ) → get es id ≡ o → is_some o ≡ nat_lt 0 (unwrap_or o 0)
    by None e = refl
    by (Some zero) e = absurd (used id e)
    by (Some (suc n)) e = sym (lt-ltb 0 (suc n) (omega arith))

pub one_more : (es : Map ℕ) (id n : ℕ) → mentions_of es id ≡ n → (q : ℕ)
    → mentions_of (put es id (n + 1)) q ≡ mentions_of es q + cond (nat_eq q id) 1 0
one_more es id n is q = mentions-put es id (n + 1) q ∙ elim (eqb_tells q id) [
  | inl h ↦ (let same = ap (mentions_of es) h.1 in rw h.0 (omega arith))
  | inr h ↦ rw h.0 (omega arith)
]

pub one_less : (es : Map ℕ) (id n : ℕ) → mentions_of es id ≡ n → 0 < n → (q : ℕ)
    → mentions_of (put es id (n - 1)) q + cond (nat_eq q id) 1 0 ≡ mentions_of es q
one_less es id n is some q = ap (λ m. m + cond (nat_eq q id) 1 0) (mentions-put es id (n - 1) q)
    ∙ elim (eqb_tells q id) [
      | inl h ↦ (let same = ap (mentions_of es) h.1 in rw h.0 (omega arith))
      | inr h ↦ rw h.0 (omega arith)
    ]

pub none_left : (es : Map ℕ) (id : ℕ) → mentions_of es id ≡ 1 → (q : ℕ)
    → mentions_of (remove es id) q + cond (nat_eq q id) 1 0 ≡ mentions_of es q
none_left es id is q = ap (λ m. m + cond (nat_eq q id) 1 0) (mentions-remove es id q)
    ∙ elim (eqb_tells q id) [
      | inl h ↦ (let same = ap (mentions_of es) h.1 in rw h.0 (omega arith))
      | inr h ↦ rw h.0 (omega arith)
    ]

-- the same value, written again
pub put_same : (es : Map ℕ) (id n : ℕ) → T (is_sorted nat_cmp es) → get es id ≡ Some n → put es id n ≡ es
put_same es id n h is = same_entries nat_cmp nat_cmp_total nat_cmp-IsAntisymmetric (put es id n) es
    (is_sorted-put nat_cmp nat_cmp_total id n es h) h (λ q. elim (cases_eq q id) [
      | inl e ↦ ap (get (put es id n)) e ∙ get_put_here es id n ∙ sym is ∙ ap (get es) (sym e)
      | inr ne ↦ get_put_there es id n q ne
    ])

-- ---- how many there are

pub length-rewritten : (es : Map ℕ) (id n v : ℕ) → T (is_sorted nat_cmp es) → get es id ≡ Some n
    → length (put es id v) ≡ length es
length-rewritten es id n v h is = length-put nat_cmp nat_cmp_total id v es h ∙ ap
    (λ (o : Option ℕ). cond (is_some o) (length es) (length es + 1)) is

pub length-added : (es : Map ℕ) (id v : ℕ) → T (is_sorted nat_cmp es) → get es id ≡ None
    → length (put es id v) ≡ length es + 1
length-added es id v h none = length-put nat_cmp nat_cmp_total id v es h ∙ ap
    (λ (o : Option ℕ). cond (is_some o) (length es) (length es + 1)) none

ties : (q k : ℕ) → eq_by_cmp nat_cmp q k ≡ nat_eq k q
ties q k = elim (cases_eq q k) [
  | inl e ↦ grind (arith, gets, e, rules)
  | inr ne ↦ grind (arith, gets, ne, rules)
]

pub length-removed : (es : Map ℕ) (id : ℕ) → T (is_sorted nat_cmp es) → length es ≤ length (remove es id) + 1
length-removed es id h = by (is_some (get es id))
    (length_without nat_cmp nat_cmp_total id es h)
    (λ i. length (filter (λ (e : ℕ × ℕ). not (ties id e.0 i)) es))
  where
    by : (b : Bool) {n : ℕ} → cond b 1 0 + n ≡ length es → n ≡ length (remove es id)
        → length es ≤ length (remove es id) + 1
    by true is same = omega arith
    by false is same = omega arith

-- ---- the sum of all

pub total-put : (es : Map ℕ) (id n : ℕ) → T (is_sorted nat_cmp es)
    → total_in (put es id n) + mentions_of es id ≡ total_in es + n
total-put [] id n h = omega arith
total-put (e ∷ es) id n h =
    elim (nat_cmp id e.0) as (λ r. nat_cmp id e.0 ≡ r
    → total_in (by_order r ((id, n) ∷ e ∷ es) ((e.0, n) ∷ es) (e ∷ put es id n))
    + unwrap_or (cond (is_eq r) (Some e.1) (get es id)) 0 ≡ e.1 + total_in es + n) [
      | Less ↦ λ p.
          let none = ap (λ (o : Option ℕ). unwrap_or o 0)
          (none_below nat_cmp nat_cmp_total id es (less_all nat_cmp nat_cmp_total id e.0 es p (both_first _ _ h))) in
          omega arith
      | Equal ↦ λ p. omega arith
      | Greater ↦ λ p. (let rest = total-put es id n (both_second _ _ h) in omega arith)
    ] refl

pub total-remove : (es : Map ℕ) (id : ℕ) → T (is_sorted nat_cmp es)
    → total_in (remove es id) + mentions_of es id ≡ total_in es
total-remove [] id h = refl
total-remove (e ∷ es) id h =
    let rest = total-remove es id (both_second _ _ h) in
    elim (eqb_tells e.0 id) [
      | inl is ↦
          let tie = subst (λ x. nat_cmp x e.0 ≡ Equal) is.1 (cmp_same e.0) in
          let gone = ap (λ b. total_in (cond (not b) (e ∷ remove es id) (remove es id))) is.0 in
          let here = ap (λ r. unwrap_or (cond (is_eq r) (Some e.1) (get es id)) 0) tie in
          let later = ap (λ (o : Option ℕ). unwrap_or o 0) (none_below nat_cmp nat_cmp_total id es
          (tied_all nat_cmp nat_cmp_total id e.0 es tie (both_first _ _ h))) in
          omega arith
      | inr is ↦
          let kept = ap (λ b. total_in (cond (not b) (e ∷ remove es id) (remove es id))) is.0 in
          let later = ap (λ b. unwrap_or (cond b (Some e.1) (get es id)) 0) (tie_no id e.0 (λ same. is.1 (sym same))) in
          omega arith
    ]

-- there are no more counts than the sum of all
pub few_counts : (es : Map ℕ) → T (is_sorted nat_cmp es) → AreUsed es → length es ≤ total_in es
few_counts [] h used = omega arith
few_counts (e ∷ es) h used =
    let rest = few_counts es (both_second _ _ h) later in
    let first = here e.1 refl in
    omega arith
  where
    here : (n : ℕ) → e.1 ≡ n → 0 < n
    here zero is = absurd (used e.0 (ap (λ r. cond (is_eq r) (Some e.1) (get es e.0)) (cmp_same e.0) ∙ ap Some is))
    here (suc n) is = omega arith

    later : AreUsed es
    later id is = elim (cases_eq id e.0) [
      | inl same ↦ none-some 0 (sym (none_below nat_cmp nat_cmp_total id es (tied_all nat_cmp nat_cmp_total id e.0 es
          (subst (λ x. nat_cmp x e.0 ≡ Equal) (sym same) (cmp_same e.0)) (both_first _ _ h))) ∙ is)
      | inr ne ↦ used id (ap (λ b. cond b (Some e.1) (get es id)) (tie_no id e.0 ne) ∙ is)
    ]
