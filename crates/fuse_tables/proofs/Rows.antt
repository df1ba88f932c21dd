-- Rows in rising key: where a key stands, and what putting and removing there makes of them.
use Rattle.std.proofs.Common.{◌≡◌, ◌≢◌, ℕ, suc, zero, ◌≤◌, ◌<◌, ◌+◌, Bool, true, false, not, cond, ◌&&◌, if◌then◌else◌, List, [], ◌∷◌, ◌++◌, length, take, drop, set, slice_set, Option, Some, None, refl, sym, ap, subst, ◌∙◌, arith, T, inl, inr, ◌==◌, Less, Equal, Greater}
use Rattle.std.specs.Prelude.{nat_lt, nat_eq, slice_get, slice_index_or}
use Rattle.std.specs.List.Sorted.{IsPartitionedBy, IsPartitionPoint}
use Rattle.std.specs.Ordering.{nat_cmp, is_lt, is_eq}
use Rattle.std.specs.FinMap.{is_sorted}
use Rattle.std.specs.FinMap.Entries.{below_all}
use Rattle.std.proofs.lemmas.Bool.Decides.{eqb_tells}
use Rattle.std.proofs.lemmas.Option.{same_Some, slice_get_read, slice_get_past, slice_get_within, get_or_from_slice_get}
use Rattle.std.specs.FinMap.Entries.{is_sorted-put, is_sorted-where_key}
use Rattle.std.proofs.lemmas.Cmp.{nat_cmp_total}
use Rattle.std.specs.List.{remove as removed}
use Rattle.std.proofs.lemmas.List.{append-nil}
use Rattle.std.proofs.lemmas.Bool.{ltb-true, lt-ltb}
use Rattle.std.specs.Cmp.{ranked, nat_cmp_is}
use Rattle.fuse_spec.specs.Values.Maps.{get, put as with_value, remove}
use Rattle.fuse_tables.specs.TableState.{place_of, IsRowOf}

pub both_first : (a b : Bool) → T (a && b) → T a
both_first true b h = tt
both_first false b h = absurd h

pub both_second : (a b : Bool) → T (a && b) → T b
both_second true b h = h
both_second false b h = absurd h

pub less_lower : (x y : ℕ) → T (is_lt (nat_cmp x y)) → x < y
less_lower x y h = ltb-true x y (by (nat_lt x y) (x == y) h)
  where
    by : (lower same : Bool) → T (is_lt (cond lower Less (cond same Equal Greater))) → lower ≡ true
    by true same h = refl
    by false true h = absurd h
    by false false h = absurd h

ge_not_less : (x y : ℕ) → y ≤ x → nat_lt x y ≡ false
ge_not_less x y h = by (nat_lt x y) refl
  where
    by : (l : Bool) → nat_lt x y ≡ l → nat_lt x y ≡ false
    by true e = let low = ltb-true x y e in absurd (omega arith)
    by false e = e

pub apart : (x y : ℕ) → x ≢ y → (x == y) ≡ false
apart x y ne = elim (eqb_tells x y) [ inl h ↦ absurd (ne h.1) | inr h ↦ h.0 ]

pub tied : (x y : ℕ) → x ≡ y → (x == y) ≡ true
tied x y e = elim (eqb_tells x y) [ inl h ↦ h.0 | inr h ↦ absurd (h.1 e) ]

abbrev is_found : {A : Type 0} → Option A → Type 0
is_found None = ⊥
is_found (Some x) = Unit {0}

module _ {V : Type 0} where
  below_at : (x : ℕ) (es : List (ℕ × V)) → T (below_all nat_cmp x es) → (j : ℕ) (d : ℕ × V) → j < length es
      → x < (slice_index_or es j d).0
  below_at x [] h j d b = absurd (omega arith)
  below_at x (e ∷ es) h zero d b = less_lower x e.0 (both_first _ _ h)
  below_at x (e ∷ es) h (suc j) d b = below_at x es (both_second _ _ h) j d (omega arith)

  pub is_partitioned : (es : List (ℕ × V)) (key : ℕ) → T (is_sorted nat_cmp es)
      → IsPartitionedBy (λ e. nat_lt e.0 key) es
  is_partitioned [] key h i j d le b t = absurd (omega arith)
  is_partitioned (e ∷ es) key h zero zero d le b t = t
  is_partitioned (e ∷ es) key h zero (suc j) d le b t =
      let low = below_at e.0 es (both_first _ _ h) j d (omega arith) in
      let high = ltb-true (slice_index_or es j d).0 key t in
      lt-ltb e.0 key (omega arith)
  is_partitioned (e ∷ es) key h (suc i) zero d le b t = absurd (omega arith)
  is_partitioned (e ∷ es) key h (suc i) (suc j) d le b t =
      is_partitioned es key (both_second _ _ h) i j d (omega arith) (omega arith) t

  pub place_is : (es : List (ℕ × V)) (key i : ℕ) → i ≤ length es
      → IsPartitionPoint (λ e. nat_lt e.0 key ≡ true) (λ e. nat_lt e.0 key ≡ false) es i → i ≡ place_of key es
  place_is [] key i b h = omega arith
  place_is (e ∷ es) key zero b h = rw (h.1 0 e (omega arith) (omega arith)) refl
  place_is (e ∷ es) key (suc i) b h =
      let rest = place_is es key i (omega arith) (
        λ k d low high. h.0 (suc k) d (omega arith) (omega arith),
        λ k d low high. h.1 (suc k) d (omega arith) (omega arith),
      ) in
      rw (h.0 0 e (omega arith) (omega arith)) (omega arith)

  -- a key above the last row's stands behind all rows
  pub place_last : (e : ℕ × V) (es : List (ℕ × V)) (key : ℕ) (d : ℕ × V) → T (is_sorted nat_cmp (e ∷ es))
      → (slice_index_or (e ∷ es) (length es) d).0 < key → place_of key (e ∷ es) ≡ suc (length es)
  place_last e [] key d h low = rw (lt-ltb e.0 key low) refl
  place_last e (f ∷ es) key d h low =
      let first = below_at e.0 (f ∷ es) (both_first _ _ h) (length es) d (omega arith) in
      rw (lt-ltb e.0 key (omega arith)) (ap suc (place_last f es key d (both_second _ _ h) low))

  pub above_last : (es : List (ℕ × V)) (key last : ℕ) (row : ℕ × V) → T (is_sorted nat_cmp es) → last + 1 ≡ length es
      → row ≡ slice_index_or es last row → nat_lt row.0 key ≡ true → place_of key es ≡ length es
  above_last [] key last row h long is low = absurd (omega arith)
  above_last (e ∷ es) key last row h long is low =
      let end : last ≡ length es = omega arith in
      let at : row ≡ slice_index_or (e ∷ es) (length es) row = is ∙ ap (λ i. slice_index_or (e ∷ es) i row) end in
      let lower = ltb-true row.0 key low in
      place_last e es key row h (subst (λ (x : ℕ × V). x.0 < key) at lower)

  -- ---- at a place, by how the key stands to the first row's

  abbrev pub Put : ℕ → V → List (ℕ × V) → Type 0
  Put key v es = take (place_of key es) es ++ (key, v) ∷ drop (place_of key es) es ≡ with_value es key v

  put_first : (key : ℕ) (v : V) (e : ℕ × V) (es : List (ℕ × V)) → nat_cmp key e.0 ≡ Less → Put key v (e ∷ es)
  put_first key v e es q = let lower = ranked key e.0 Less (sym q) in rw (q, ge_not_less e.0 key (omega arith)) refl

  put_later : (key : ℕ) (v : V) (e : ℕ × V) (es : List (ℕ × V)) → nat_cmp key e.0 ≡ Greater → Put key v es
      → Put key v (e ∷ es)
  put_later key v e es q h = let higher = ranked key e.0 Greater (sym q) in
      rw (q, lt-ltb e.0 key higher) (ap (λ xs. e ∷ xs) h)

  pub put_is : (es : List (ℕ × V)) (key : ℕ) (v : V) → get es key ≡ None → Put key v es
  put_is [] key v none = refl
  put_is (e ∷ es) key v none =
      elim (nat_cmp key e.0) as (λ r. nat_cmp key e.0 ≡ r → cond (is_eq r) (Some e.1) (get es key) ≡ None
      → Put key v (e ∷ es)) [
        | Less ↦ λ q n. put_first key v e es q
        | Equal ↦ λ q n. absurd (subst is_found n tt)
        | Greater ↦ λ q n. put_later key v e es q (put_is es key v n)
      ] refl none

  -- ---- another value at a place

  abbrev Written : ℕ → V → List (ℕ × V) → Type 0
  Written key v es = set es (place_of key es) (key, v) ≡ with_value es key v

  first_is : (e f : ℕ × V) (key : ℕ) → Some e ≡ Some f → f.0 ≡ key → key < e.0 → ⊥
  first_is e f key at same low = let equal : e.0 ≡ key =
      ap (λ (x : ℕ × V). x.0) (same_Some e f at) ∙ same in absurd (omega arith)

  written_is : (es : List (ℕ × V)) (key : ℕ) (v : V) (f : ℕ × V) → slice_get es (place_of key es) ≡ Some f
      → f.0 ≡ key → Written key v es
  written_is [] key v f at same = absurd (subst is_found (sym at) tt)
  written_is (e ∷ es) key v f at same =
      elim (nat_cmp key e.0) as (λ r. nat_cmp key e.0 ≡ r → Written key v (e ∷ es)) [
        | Less ↦ λ q. let low = ranked key e.0 Less (sym q) in
            absurd (first_is e f key (subst (λ (b : Bool). slice_get (e ∷ es) (if b then suc (place_of key es) else 0)
            ≡ Some f) (ge_not_less e.0 key (omega arith)) at) same low)
        | Equal ↦ λ q. let equal = ranked key e.0 Equal (sym q) in
            rw (q, ge_not_less e.0 key (omega arith)) (ap (λ (k : ℕ). (k, v) ∷ es) equal)
        | Greater ↦ λ q.
            let high = ranked key e.0 Greater (sym q) in
            let rest = written_is es key v f (subst (λ (b : Bool). slice_get (e ∷ es)
            (if b then suc (place_of key es) else 0) ≡ Some f) (lt-ltb e.0 key high) at) same in
            rw (q, lt-ltb e.0 key high) (ap (λ xs. e ∷ xs) rest)
      ] refl

  pub written_there : (rows : List (ℕ × V)) (key place : ℕ) (v : V) → IsRowOf rows key place
      → slice_set rows place (key, v) ≡ with_value rows key v
  written_there rows key place v r = rw r.at (written_is rows key v r.row (rw (← r.at) r.there) r.same)

  -- ---- what stands at a place

  abbrev pub found : ℕ → Option (ℕ × V) → Option V
  found key None = None
  found key (Some e) = cond (e.0 == key) (Some e.1) None

  pub none_below : (key : ℕ) (es : List (ℕ × V)) (low : ℕ) → key ≤ low → T (below_all nat_cmp low es) → get es key ≡ None
  none_below key [] low le h = refl
  none_below key (e ∷ es) low le h =
      let lower = less_lower low e.0 (both_first _ _ h) in
      rw (← nat_cmp_is key e.0 Less (omega arith)) (none_below key es low le (both_second _ _ h))

  pub found_is : (es : List (ℕ × V)) (key : ℕ) → T (is_sorted nat_cmp es)
      → get es key ≡ found key (slice_get es (place_of key es))
  found_is [] key h = refl
  found_is (e ∷ es) key h =
      elim (nat_cmp key e.0) as (λ r. nat_cmp key e.0 ≡ r
      → cond (is_eq r) (Some e.1) (get es key) ≡ found key (slice_get (e ∷ es) (place_of key (e ∷ es)))) [
        | Less ↦ λ q. let low = ranked key e.0 Less (sym q) in
            rw (ge_not_less e.0 key (omega arith), apart e.0 key (omega arith))
            (none_below key es e.0 (omega arith) (both_first _ _ h))
        | Equal ↦ λ q. let same = ranked key e.0 Equal (sym q) in
            rw (ge_not_less e.0 key (omega arith), tied e.0 key (sym same)) refl
        | Greater ↦ λ q. let high = ranked key e.0 Greater (sym q) in
            rw (lt-ltb e.0 key high) (found_is es key (both_second _ _ h))
      ] refl

  take_all : (es : List (ℕ × V)) → take (length es) es ≡ es
  take_all [] = refl
  take_all (e ∷ es) = ap (λ xs. e ∷ xs) (take_all es)

  drop_all : (es : List (ℕ × V)) → drop (length es) es ≡ []
  drop_all [] = refl
  drop_all (e ∷ es) = drop_all es

  -- a key that stands behind all rows is put last
  pub put_behind : (es : List (ℕ × V)) (key : ℕ) (v : V) → T (is_sorted nat_cmp es) → place_of key es ≡ length es
      → es ++ (key, v) ∷ [] ≡ with_value es key v
  put_behind es key v h end =
      let all : take (place_of key es) es ≡ es = ap (λ i. take i es) end ∙ take_all es in
      let none : drop (place_of key es) es ≡ [] = ap (λ i. drop i es) end ∙ drop_all es in
      let there : slice_get es (place_of key es) ≡ None = rw end (slice_get_past es (length es) (omega arith)) in
      let absent : get es key ≡ None = found_is es key h ∙ ap (found key) there in
      ap (λ xs. xs ++ (key, v) ∷ []) (sym all) ∙ ap (λ xs. take (place_of key es) es ++ (key, v) ∷ xs) (sym none)
      ∙ put_is es key v absent

  -- what stands behind the first row has another key
  pub none_past_first : (e : ℕ × V) (es : List (ℕ × V)) (key : ℕ) → T (is_sorted nat_cmp (e ∷ es)) → e.0 ≡ key
      → get es key ≡ None
  none_past_first e es key h same = none_below key es e.0 (omega arith) (both_first _ _ h)

  -- ---- removing

  pub kept_above : (key : ℕ) (es : List (ℕ × V)) (low : ℕ) → key ≤ low → T (below_all nat_cmp low es) → remove es key ≡ es
  kept_above key [] low le h = refl
  kept_above key (e ∷ es) low le h =
      let lower = less_lower low e.0 (both_first _ _ h) in
      rw (apart e.0 key (omega arith)) (ap (λ xs. e ∷ xs) (kept_above key es low le (both_second _ _ h)))

  pub removed_is : (es : List (ℕ × V)) (key : ℕ) (e : ℕ × V) → T (is_sorted nat_cmp es)
      → slice_get es (place_of key es) ≡ Some e → e.0 ≡ key
      → take (place_of key es) es ++ drop (suc (place_of key es)) es ≡ remove es key
  removed_is [] key f h at same = absurd (subst is_found (sym at) tt)
  removed_is (e ∷ es) key f h at same =
      elim (nat_cmp key e.0) as (λ r. nat_cmp key e.0 ≡ r
      → take (place_of key (e ∷ es)) (e ∷ es) ++ drop (suc (place_of key (e ∷ es))) (e ∷ es) ≡ remove (e ∷ es) key) [
        | Less ↦ λ q. let low = ranked key e.0 Less (sym q) in
            absurd (first_is e f key (subst (λ (b : Bool). slice_get (e ∷ es) (if b then suc (place_of key es) else 0)
            ≡ Some f) (ge_not_less e.0 key (omega arith)) at) same low)
        | Equal ↦ λ q. let equal = ranked key e.0 Equal (sym q) in
            rw (ge_not_less e.0 key (omega arith), tied e.0 key (sym equal))
            (sym (kept_above key es e.0 (omega arith) (both_first _ _ h)))
        | Greater ↦ λ q.
            let high = ranked key e.0 Greater (sym q) in
            let rest = removed_is es key f (both_second _ _ h)
            (subst (λ (b : Bool). slice_get (e ∷ es) (if b then suc (place_of key es) else 0) ≡ Some f)
            (lt-ltb e.0 key high) at) same in
            rw (lt-ltb e.0 key high, apart e.0 key (omega arith)) (ap (λ xs. e ∷ xs) rest)
      ] refl

  pub absent_is : (es : List (ℕ × V)) (key : ℕ) → get es key ≡ None → remove es key ≡ es
  absent_is [] key none = refl
  absent_is (e ∷ es) key none =
      elim (nat_cmp key e.0) as (λ r. nat_cmp key e.0 ≡ r → cond (is_eq r) (Some e.1) (get es key) ≡ None
      → remove (e ∷ es) key ≡ e ∷ es) [
        | Less ↦ λ q n. let low = ranked key e.0 Less (sym q) in
            rw (apart e.0 key (omega arith)) (ap (λ xs. e ∷ xs) (absent_is es key n))
        | Equal ↦ λ q n. absurd (subst is_found n tt)
        | Greater ↦ λ q n. let high = ranked key e.0 Greater (sym q) in
            rw (apart e.0 key (omega arith)) (ap (λ xs. e ∷ xs) (absent_is es key n))
      ] refl none

  -- ---- what the code reads at a place

  place_at : (es : List (ℕ × V)) (i : ℕ) (row : ℕ × V) → T (is_sorted nat_cmp es) → slice_get es i ≡ Some row
      → i ≡ place_of row.0 es
  place_at [] i row h at = absurd (subst is_found (sym at) tt)
  place_at (e ∷ es) zero row h at =
      let same = same_Some e row at in rw (← same, ge_not_less e.0 e.0 (omega arith)) refl
  place_at (e ∷ es) (suc i) row h at =
      let within = slice_get_within es i row at in
      let low = below_at e.0 es (both_first _ _ h) i row within in
      let lower = subst (λ (x : ℕ × V). e.0 < x.0) (get_or_from_slice_get es i row row at) low in
      rw (lt-ltb e.0 row.0 lower) (ap suc (place_at es i row (both_second _ _ h) at))

  -- a row that has the key stands at the key's place
  pub row_at : (rows : List (ℕ × V)) (key place : ℕ) (row : ℕ × V) → T (is_sorted nat_cmp rows) → place < length rows
      → row ≡ slice_index_or rows place row → row.0 ≡ key → IsRowOf rows key place
  row_at rows key place row h within is same =
      let there = slice_get_read rows (length rows) place row refl within is in
      record {
        at = place_at rows place row h there ∙ ap (λ k. place_of k rows) same;
        bound = within;
        row = row;
        there = there;
        same = same;
      }

  pub row_there : (rows : List (ℕ × V)) (key place : ℕ) (row : ℕ × V) → place ≡ place_of key rows → place ≤ length rows
      → place ≢ length rows → row ≡ slice_index_or rows place row → row.0 ≡ key → IsRowOf rows key place
  row_there rows key place row at le ne is same = record {
    at = at;
    bound = omega arith;
    row = row;
    there = slice_get_read rows (length rows) place row refl (omega arith) is;
    same = same;
  }

  pub none_past : (rows : List (ℕ × V)) (key place : ℕ) → T (is_sorted nat_cmp rows) → place ≡ place_of key rows
      → place ≡ length rows → get rows key ≡ None
  none_past rows key place h at end = let there : slice_get rows (place_of key rows) ≡ None =
      rw (← at) (slice_get_past rows place (omega arith)) in found_is rows key h ∙ ap (found key) there

  -- a key above the last row's has no value
  pub none_above : (rows : List (ℕ × V)) (key last : ℕ) (row : ℕ × V) → T (is_sorted nat_cmp rows)
      → last + 1 ≡ length rows → row ≡ slice_index_or rows last row → row.0 < key → get rows key ≡ None
  none_above rows key last row h long is low =
      none_past rows key (length rows) h (sym (above_last rows key last row h long is (lt-ltb row.0 key low))) refl

  pub none_other : (rows : List (ℕ × V)) (key place : ℕ) (row : ℕ × V) → T (is_sorted nat_cmp rows)
      → place ≡ place_of key rows → place ≤ length rows → place ≢ length rows → row ≡ slice_index_or rows place row
      → row.0 ≢ key → get rows key ≡ None
  none_other rows key place row h at le ne is other =
      let there : slice_get rows (place_of key rows) ≡ Some row =
      rw (← at) (slice_get_read rows (length rows) place row refl (omega arith) is) in
      found_is rows key h ∙ ap (found key) there ∙ ap (λ (b : Bool). cond b (Some row.1) None) (apart row.0 key other)

  pub value_there : (rows : List (ℕ × V)) (key place : ℕ) → T (is_sorted nat_cmp rows) → (r : IsRowOf rows key place)
      → get rows key ≡ Some r.row.1
  value_there rows key place h r =
      let there : slice_get rows (place_of key rows) ≡ Some r.row = rw (← r.at) r.there in
      found_is rows key h ∙ ap (found key) there ∙ ap (λ (b : Bool). cond b (Some r.row.1) None)
      (tied r.row.0 key r.same)

  pub without_there : (rows : List (ℕ × V)) (key place : ℕ) → T (is_sorted nat_cmp rows) → IsRowOf rows key place
      → removed rows place ≡ remove rows key
  without_there rows key place h r = rw r.at (removed_is rows key r.row h (rw (← r.at) r.there) r.same)

  -- without the last row
  pub without_last : (rows : List (ℕ × V)) (place : ℕ) → place + 1 ≡ length rows → take place rows ≡ removed rows place
  without_last rows place end =
      let all : suc place ≡ length rows = omega arith in
      let none : drop (suc place) rows ≡ [] = ap (λ i. drop i rows) all ∙ drop_all rows in
      sym (append-nil (take place rows)) ∙ ap (λ xs. take place rows ++ xs) (sym none)

  pub sorted_without : (rows : List (ℕ × V)) (key : ℕ) → T (is_sorted nat_cmp rows)
      → T (is_sorted nat_cmp (remove rows key))
  sorted_without rows key h = is_sorted-where_key nat_cmp (λ k. not (nat_eq k key)) rows h

  pub sorted_with : (rows : List (ℕ × V)) (key : ℕ) (v : V) → T (is_sorted nat_cmp rows)
      → T (is_sorted nat_cmp (with_value rows key v))
  sorted_with rows key v h = is_sorted-put nat_cmp nat_cmp_total key v rows h

  -- what is read at the place of a key's row is its value
  pub read_there : (rows seen : List (ℕ × V)) (key place : ℕ) (row : ℕ × V) → T (is_sorted nat_cmp rows) → seen ≡ rows
      → IsRowOf seen key place → row ≡ slice_index_or rows place row → Some row.1 ≡ get rows key
  read_there rows seen key place row h same r is =
      let there = subst (λ es. IsRowOf es key place) same r in
      sym (value_there rows key place h there ∙ ap (λ (x : ℕ × V). Some x.1)
      (sym (is ∙ get_or_from_slice_get rows place there.row row there.there)))

  pub row_is : (rows : List (ℕ × V)) (key place : ℕ) (row : ℕ × V) → (r : IsRowOf rows key place)
      → row ≡ slice_index_or rows place row → row ≡ r.row
  row_is rows key place row r is = is ∙ get_or_from_slice_get rows place r.row row r.there

  -- another value in the row of a key
  pub replaced_there : (rows : List (ℕ × V)) (key place : ℕ) (row : ℕ × V) (v w : V) → IsRowOf rows key place
      → row ≡ slice_index_or rows place row → v ≡ w → slice_set rows place (row.0, v) ≡ with_value rows key w
  replaced_there rows key place row v w r is same =
      let at : row.0 ≡ key = ap (λ (x : ℕ × V). x.0) (row_is rows key place row r is) ∙ r.same in
      ap (λ (k : ℕ). slice_set rows place (k, v)) at ∙ ap (λ (x : V). slice_set rows place (key, x)) same
      ∙ written_there rows key place w r
