-- Rows and late values, listed in rising key: what one late value more puts last into the list.
use Rattle.std.proofs.Common.{◌≡◌, ℕ, zero, suc, ◌<◌, ◌≤◌, Bool, true, false, cond, List, [], ◌∷◌, ◌++◌, take, drop, Option, Some, None, is_some, refl, sym, ap, subst, ◌∙◌, arith, T, Less, Equal, Greater, true≢false, inl, inr, ◌==◌}
use Rattle.std.specs.Prelude.{nat_lt}
use Rattle.std.specs.BTreeMap.{is_at}
use Rattle.std.specs.Cmp.{nat_cmp_is}
use Rattle.std.specs.List.{AllByRecursion}
use Rattle.std.specs.List.Sorted.{IsStrictlySortedBy}
use Rattle.std.specs.Map.{keys_of}
use Rattle.std.specs.Ordering.{nat_cmp, is_eq, is_lt}
use Rattle.std.specs.declared.cmp.Ordering.{Ordering}
use Rattle.std.specs.FinMap.{is_sorted}
use Rattle.std.specs.FinMap.Entries.{below_all, by_order}
use Rattle.std.proofs.lemmas.Bool.{ltb-true, ltb-false, lt-ltb}
use Rattle.std.proofs.lemmas.Bool.Decides.{eqb_tells}
use Rattle.fuse_spec.specs.Values.Maps.{get, put}
use Rattle.fuse_tables.specs.LateValues.{AreKept, late_at, with_late, entries_of}
use Rattle.fuse_tables.specs.LiveRows.{entry_before, live}
use Rattle.fuse_tables.specs.TableState.{place_of}
use Rattle.fuse_tables.proofs.Rows.{both_first, both_second, less_lower, tied}
use Rattle.fuse_tables.proofs.Live.{below_live, both, ties}
use Rattle.fuse_tables.proofs.LateEntries.{row_none}

lower_less : (x y : ℕ) → x < y → T (is_lt (nat_cmp x y))
lower_less x y h = rw (lt-ltb x y h) tt

less_is : (o : Ordering) → T (is_lt o) → o ≡ Less
less_is Less h = refl
less_is Equal h = absurd h
less_is Greater h = absurd h

strict : (x y : ℕ) → x ≤ y → (x == y) ≡ false → x < y
strict x y le ne = elim (eqb_tells x y) [
  | inl h ↦ absurd (true≢false (sym h.0 ∙ ne))
  | inr h ↦ let differs = h.1 in omega (arith, le, differs)
]

below_keys : {V : Type 0} (x : ℕ) (os : List (ℕ × V)) → AllByRecursion (λ y. nat_cmp x y ≡ Less) (keys_of os)
    → T (below_all nat_cmp x os)
below_keys x [] h = tt
below_keys x (o ∷ os) h = both _ _ (subst (λ r. T (is_lt r)) (sym h.0) tt) (below_keys x os h.1)

sorted_by_keys : {V : Type 0} (os : List (ℕ × V)) → IsStrictlySortedBy nat_cmp (keys_of os) → T (is_sorted nat_cmp os)
unfolding IsStrictlySortedBy
sorted_by_keys [] h = tt
sorted_by_keys (o ∷ os) h = both _ _ (below_keys o.0 os h.0) (sorted_by_keys os h.1)

-- ---- entries on either side of a key

module _ {V : Type 0} where
  -- all keys are below this one
  abbrev pub AreBelow : ℕ → List (ℕ × V) → Type 0
  AreBelow key [] = Unit {0}
  AreBelow key (e ∷ es) = (e.0 < key) × AreBelow key es

  below_higher : (x y : ℕ) (es : List (ℕ × V)) → x ≤ y → AreBelow x es → AreBelow y es
  below_higher x y [] le h = tt
  below_higher x y (e ∷ es) le h = (omega (arith, le, h.0), below_higher x y es le h.1)

  above_lower : (x y : ℕ) (es : List (ℕ × V)) → x ≤ y → T (below_all nat_cmp y es) → T (below_all nat_cmp x es)
  above_lower x y [] le h = tt
  above_lower x y (e ∷ es) le h =
      let low = less_lower y e.0 (both_first _ _ h) in
      both _ _ (lower_less x e.0 (omega (arith, le, low))) (above_lower x y es le (both_second _ _ h))

  -- a key above some entries is put behind them
  put_behind : (es fs : List (ℕ × V)) (k : ℕ) (v : V) → AreBelow k es → put (es ++ fs) k v ≡ es ++ put fs k v
  put_behind [] fs k v h = refl
  put_behind (e ∷ es) fs k v h =
      rw (← nat_cmp_is k e.0 Greater (omega (arith, h.0))) (ap (λ (m : List (ℕ × V)). e ∷ m) (put_behind es fs k v h.1))

  -- a key below all is put in front
  put_front : (es : List (ℕ × V)) (k : ℕ) (v : V) → T (below_all nat_cmp k es) → put es k v ≡ (k, v) ∷ es
  put_front [] k v h = refl
  put_front (e ∷ es) k v h = rw (less_is (nat_cmp k e.0) (both_first _ _ h)) refl

  above_put : (x : ℕ) (es : List (ℕ × V)) (k : ℕ) (v : V) → x < k → T (below_all nat_cmp x es)
      → T (below_all nat_cmp x (put es k v))
  above_put x [] k v lt h = both _ _ (lower_less x k lt) tt
  above_put x (e ∷ es) k v lt h =
      elim (nat_cmp k e.0) as (λ o. T (below_all nat_cmp x (by_order o ((k, v) ∷ e ∷ es) ((e.0, v) ∷ es)
      (e ∷ put es k v)))) [
        | Less ↦ both _ _ (lower_less x k lt) h
        | Equal ↦ h
        | Greater ↦ both _ _ (both_first _ _ h) (above_put x es k v lt (both_second _ _ h))
      ]

  above_late : (x : ℕ) (es os : List (ℕ × V)) → T (below_all nat_cmp x es) → T (below_all nat_cmp x os)
      → T (below_all nat_cmp x (with_late es os))
  above_late x es [] h g = h
  above_late x es (o ∷ os) h g =
      above_put x (with_late es os) o.0 o.1 (less_lower x o.0 (both_first _ _ g))
      (above_late x es os h (both_second _ _ g))

  -- late values above some entries stand behind them
  late_behind : (key : ℕ) (es fs os : List (ℕ × V)) → AreBelow key es → T (below_all nat_cmp key os)
      → with_late (es ++ fs) os ≡ es ++ with_late fs os
  late_behind key es fs [] h g = refl
  late_behind key es fs (o ∷ os) h g =
      let low = less_lower key o.0 (both_first _ _ g) in
      ap (λ m. put m o.0 o.1) (late_behind key es fs os h (both_second _ _ g))
      ∙ put_behind es (with_late fs os) o.0 o.1 (below_higher key o.0 es (omega (arith, low)) h)

  -- ---- rows on either side of a key

  pub live_split : (rows : List (ℕ × Option V)) (from to : ℕ) → from ≤ to
      → live (drop from rows) ≡ live (drop from (take to rows)) ++ live (drop to rows)
  live_split [] zero zero le = refl
  live_split [] zero (suc to) le = refl
  live_split [] (suc from) zero le = absurd (omega (arith, le))
  live_split [] (suc from) (suc to) le = refl
  live_split (row ∷ rows) zero zero le = refl
  live_split (row ∷ rows) zero (suc to) le =
      let rest = live_split rows zero to (omega arith) in
      elim (row.1) as (λ o. entry_before row.0 o (live rows) ≡ entry_before row.0 o (live (take to rows)) ++ live (drop to rows)) [
        | None ↦ rest
        | Some v ↦ ap (λ (m : List (ℕ × V)). (row.0, v) ∷ m) rest
      ]
  live_split (row ∷ rows) (suc from) zero le = absurd (omega (arith, le))
  live_split (row ∷ rows) (suc from) (suc to) le = live_split rows from to (omega (arith, le))

  rows_below : (key : ℕ) (rows : List (ℕ × Option V)) (from : ℕ)
      → AreBelow key (live (drop from (take (place_of key rows) rows)))
  rows_below key [] zero = tt
  rows_below key [] (suc from) = tt
  rows_below key (row ∷ rows) from = by (λ n. rows_below key rows n) (nat_lt row.0 key) refl from
    where
      by : ((n : ℕ) → AreBelow key (live (drop n (take (place_of key rows) rows)))) → (b : Bool) → nat_lt row.0 key ≡ b
          → (n : ℕ) → AreBelow key (live (drop n (take (cond b (suc (place_of key rows)) 0) (row ∷ rows))))
      by rest true e zero =
          let low = ltb-true row.0 key e in
          elim (row.1) as (λ o. AreBelow key (entry_before row.0 o (live (take (place_of key rows) rows)))) [
            | None ↦ rest zero
            | Some v ↦ (low, rest zero)
          ]
      by rest true e (suc n) = rest n
      by rest false e zero = tt
      by rest false e (suc n) = tt

  behind_none : (key : ℕ) (row : ℕ × Option V) (rows : List (ℕ × Option V)) → get (live (row ∷ rows)) key ≡ None
      → get (live rows) key ≡ None
  behind_none key row rows none = by row.1 none
    where
      by : (o : Option V) → get (entry_before row.0 o (live rows)) key ≡ None → get (live rows) key ≡ None
      by None h = h
      by (Some v) h = at (is_eq (nat_cmp key row.0)) h
        where
          at : (b : Bool) → cond b (Some v) (get (live rows) key) ≡ None → get (live rows) key ≡ None
          at true h = absurd (true≢false (ap is_some h))
          at false h = h

  not_there : (key : ℕ) (row : ℕ × V) (es : List (ℕ × V)) → get (row ∷ es) key ≡ None → (key == row.0) ≡ false
  not_there key row es none = by (key == row.0) refl
    where
      by : (b : Bool) → (key == row.0) ≡ b → (key == row.0) ≡ false
      by false e = e
      by true e = absurd (true≢false (ap is_some (sym (ap (λ t. cond t (Some row.1) (get es key)) (ties key row.0 ∙ e)) ∙ none)))

  rows_above : (key : ℕ) (rows : List (ℕ × Option V)) → T (is_sorted nat_cmp rows) → get (live rows) key ≡ None
      → T (below_all nat_cmp key (live (drop (place_of key rows) rows)))
  rows_above key [] h none = tt
  rows_above key (row ∷ rows) h none =
      by (rows_above key rows (both_second _ _ h) (behind_none key row rows none)) (nat_lt row.0 key) refl
    where
      by : T (below_all nat_cmp key (live (drop (place_of key rows) rows))) → (b : Bool) → nat_lt row.0 key ≡ b
          → T (below_all nat_cmp key (live (drop (cond b (suc (place_of key rows)) 0) (row ∷ rows))))
      by rest true e = rest
      by rest false e =
          let high = ltb-false row.0 key e in
          at high row.1 none
        where
          at : key ≤ row.0 → (o : Option V) → get (entry_before row.0 o (live rows)) key ≡ None
              → T (below_all nat_cmp key (entry_before row.0 o (live rows)))
          at high None gone = above_lower key row.0 (live rows) high (below_live row.0 rows (both_first _ _ h))
          at high (Some v) gone =
              let differs = not_there key (row.0, v) (live rows) gone in
              both _ _ (lower_less key row.0 (strict key row.0 high differs))
              (above_lower key row.0 (live rows) high (below_live row.0 rows (both_first _ _ h)))

  -- ---- the rest of a list

  -- What is left to list, from a row on: no late value stands before that row or has a row of its key, and their keys rise.
  abbrev pub AreLeft : List (ℕ × Option V) → ℕ → List (ℕ × V) → Type 0
  AreLeft rows from [] = Unit {0}
  AreLeft rows from (o ∷ os) = (from ≤ place_of o.0 rows) × (get (live rows) o.0 ≡ None)
      × T (below_all nat_cmp o.0 os) × AreLeft rows from os

  place_higher : (x y : ℕ) (rows : List (ℕ × Option V)) → x ≤ y → place_of x rows ≤ place_of y rows
  place_higher x y [] le = omega arith
  place_higher x y (row ∷ rows) le = by (place_higher x y rows le) (nat_lt row.0 x) refl (nat_lt row.0 y) refl
    where
      by : place_of x rows ≤ place_of y rows → (b : Bool) → nat_lt row.0 x ≡ b → (c : Bool) → nat_lt row.0 y ≡ c
          → cond b (suc (place_of x rows)) 0 ≤ cond c (suc (place_of y rows)) 0
      by rest true e true f = omega (arith, rest)
      by rest true e false f =
          (let low = ltb-true row.0 x e in let high = ltb-false row.0 y f in absurd (omega (arith, low, high, le)))
      by rest false e c f = omega arith

  pub left_after : (rows : List (ℕ × Option V)) (from key : ℕ) (os : List (ℕ × V)) → T (below_all nat_cmp key os)
      → AreLeft rows from os → AreLeft rows (place_of key rows) os
  left_after rows from key [] h left = tt
  left_after rows from key (o ∷ os) h left =
      let low = less_lower key o.0 (both_first _ _ h) in (
        place_higher key o.0 rows (omega (arith, low)),
        left.1,
        left.2,
        left_after rows from key os (both_second _ _ h) left.3,
      )

  pub left_all : (rows : List (ℕ × Option V)) (os : List (ℕ × V)) → T (is_sorted nat_cmp os)
      → ((key : ℕ) → is_some (late_at os key) ≡ true → get (live rows) key ≡ None) → AreLeft rows 0 os
  left_all rows [] h none = tt
  left_all rows (o ∷ os) h none = (
    omega arith,
    none o.0 (here o.0),
    both_first _ _ h,
    left_all rows os (both_second _ _ h) (λ key some. none key (there key some)),
  )
    where
      here : (key : ℕ) → is_some (cond (is_at (nat_cmp o.0) o.0) (Some o.1) (late_at os o.0)) ≡ true
      here key = ap (λ b. is_some (cond b (Some o.1) (late_at os o.0))) (ties o.0 o.0 ∙ tied o.0 o.0 refl)

      there : (key : ℕ) → is_some (late_at os key) ≡ true
          → is_some (cond (is_at (nat_cmp key) o.0) (Some o.1) (late_at os key)) ≡ true
      there key some = by (is_at (nat_cmp key) o.0)
        where
          by : (b : Bool) → is_some (cond b (Some o.1) (late_at os key)) ≡ true
          by true = refl
          by false = some

  pub left_first : {rows : List (ℕ × Option V)} {os : List (ℕ × V)} → AreKept rows os
      → IsStrictlySortedBy nat_cmp (keys_of os) → AreLeft rows 0 os
  left_first {rows} {os} kept ordered =
      left_all rows os (sorted_by_keys os ordered) (λ key some. by key (late_at os key) refl some)
    where
      by : (key : ℕ) (o : Option V) → late_at os key ≡ o → is_some o ≡ true → get (live rows) key ≡ None
      by key None e some = absurd (true≢false (sym some))
      by key (Some v) e some = row_none kept key v e

  -- One late value more is listed, behind the rows before it.
  pub listed_next : (rows : List (ℕ × Option V)) (from : ℕ) (o : ℕ × V) (os : List (ℕ × V)) → T (is_sorted nat_cmp rows)
      → AreLeft rows from (o ∷ os)
      → entries_of (drop from rows) (o ∷ os) ≡ live (drop from (take (place_of o.0 rows) rows))
      ++ (o.0, o.1) ∷ entries_of (drop (place_of o.0 rows) rows) os
  listed_next rows from o os sorted left =
      let to = place_of o.0 rows in
      let before = live (drop from (take to rows)) in
      let after = live (drop to rows) in
      let low = rows_below o.0 rows from in
      let high = rows_above o.0 rows sorted left.1 in
      ap (λ m. put (with_late m os) o.0 o.1) (live_split rows from to left.0)
      ∙ ap (λ m. put m o.0 o.1) (late_behind o.0 before after os low left.2)
      ∙ put_behind before (with_late after os) o.0 o.1 low
      ∙ ap (λ (m : List (ℕ × V)). before ++ m) (put_front (with_late after os) o.0 o.1 (above_late o.0 after os high left.2))
