-- Rows of which some are empty: what putting, taking and squeezing make of their entries.
use Rattle.std.proofs.Common.{◌≡◌, ℕ, suc, nat_lt, ◌≤◌, ◌+◌, Bool, true, false, not, cond, ◌&&◌, List, [], ◌∷◌, ◌++◌, length, filter, is_some, IsSome, Option, Some, None, refl, sym, ap, subst, ◌∙◌, arith, T, nat_eq, Less, Equal, Greater}
use Rattle.std.specs.Ordering.{nat_cmp, is_eq, eq_by_cmp}
use Rattle.std.specs.FinMap.{is_sorted, nat_cmp-IsAntisymmetric}
use Rattle.std.specs.FinMap.Entries.{below_all, find-put, find-where_key, same_entries, length-put}
use Rattle.std.specs.Cmp.{ranked}
use Rattle.std.proofs.lemmas.Cmp.{nat_cmp_total}
use Rattle.fuse_spec.specs.Values.Maps.{get, put, remove}
use Rattle.std.specs.Prelude.{slice_index_or}
use Rattle.std.specs.List.{remove as removed}
use Rattle.fuse_tables.specs.LiveRows.{live, entry_before}
use Rattle.fuse_tables.specs.TableState.{IsRowOf, place_of}
use Rattle.fuse_tables.proofs.Rows.{both_first, both_second, apart, tied, none_below, kept_above, read_there, without_there, sorted_with, sorted_without}

pub both : (a b : Bool) → T a → T b → T (a && b)
both true b p q = q
both false b p q = absurd p

-- the order of numbers ties exactly where they are equal
pub ties : (q k : ℕ) → eq_by_cmp nat_cmp q k ≡ nat_eq q k
ties q k = elim (nat_cmp q k) as (λ r. nat_cmp q k ≡ r → is_eq r ≡ nat_eq q k) [
  | Less ↦ λ e. let low = ranked q k Less (sym e) in sym (apart q k (omega arith))
  | Equal ↦ λ e. sym (tied q k (ranked q k Equal (sym e)))
  | Greater ↦ λ e. let high = ranked q k Greater (sym e) in sym (apart q k (omega arith))
] refl

not_cond : {A : Type 0} (b : Bool) (x : Option A) → cond (not b) x None ≡ cond b None x
not_cond true x = refl
not_cond false x = refl

-- the entries that pass a test
module _ {X : Type 0} (test : ℕ × X → Bool) where
  below_filtered : (x : ℕ) (rows : List (ℕ × X)) → T (below_all nat_cmp x rows) → T (below_all nat_cmp x (filter test rows))
  below_filtered x [] h = tt
  below_filtered x (row ∷ rows) h =
      let rest = below_filtered x rows (both_second _ _ h) in
      elim (test row) as (λ b. T (below_all nat_cmp x (cond b (row ∷ filter test rows) (filter test rows)))) [
        | true ↦ both _ _ (both_first _ _ h) rest
        | false ↦ rest
      ]

  pub sorted_filtered : (rows : List (ℕ × X)) → T (is_sorted nat_cmp rows) → T (is_sorted nat_cmp (filter test rows))
  sorted_filtered [] h = tt
  sorted_filtered (row ∷ rows) h =
      let rest = sorted_filtered rows (both_second _ _ h) in
      elim (test row) as (λ b. T (is_sorted nat_cmp (cond b (row ∷ filter test rows) (filter test rows)))) [
        | true ↦ both _ _ (below_filtered row.0 rows (both_first _ _ h)) rest
        | false ↦ rest
      ]

  -- a key above all of them is above those that pass
  pub above_filtered : (key : ℕ) (rows : List (ℕ × X)) → place_of key rows ≡ length rows
      → place_of key (filter test rows) ≡ length (filter test rows)
  above_filtered key [] h = refl
  above_filtered key (row ∷ rows) h = by (nat_lt row.0 key) refl h (above_filtered key rows)
    where
      by : (b : Bool) → nat_lt row.0 key ≡ b → cond b (suc (place_of key rows)) 0 ≡ suc (length rows)
          → (place_of key rows ≡ length rows → place_of key (filter test rows) ≡ length (filter test rows))
          → place_of key (filter test (row ∷ rows)) ≡ length (filter test (row ∷ rows))
      by false low e others = absurd (omega (arith, e))
      by true low e others =
          let rest = others (omega (arith, e)) in
          elim (test row) as (λ b. place_of key (cond b (row ∷ filter test rows) (filter test rows))
          ≡ length (cond b (row ∷ filter test rows) (filter test rows))) [
            | true ↦ rw low (ap (λ (n : ℕ). suc n) rest)
            | false ↦ rest
          ]

  pub length_filtered : (rows : List (ℕ × X)) → length (filter test rows) ≤ length rows
  length_filtered [] = omega arith
  length_filtered (row ∷ rows) =
      let rest = length_filtered rows in
      elim (test row) as (λ b. length (cond b (row ∷ filter test rows) (filter test rows)) ≤ length (row ∷ rows)) [
        | true ↦ omega (arith, rest)
        | false ↦ omega (arith, rest)
      ]

module _ {V : Type 0} where
  -- the value of a row that was found, if it has one
  abbrev pub held : Option (Option V) → Option V
  held None = None
  held (Some o) = o

  pub below_live : (x : ℕ) (rows : List (ℕ × Option V)) → T (below_all nat_cmp x rows) → T (below_all nat_cmp x (live rows))
  below_live x [] h = tt
  below_live x (row ∷ rows) h =
      let rest = below_live x rows (both_second _ _ h) in
      elim (row.1) as (λ o. T (below_all nat_cmp x (entry_before row.0 o (live rows)))) [
        | None ↦ rest
        | Some v ↦ both _ _ (both_first _ _ h) rest
      ]

  pub sorted_live : (rows : List (ℕ × Option V)) → T (is_sorted nat_cmp rows) → T (is_sorted nat_cmp (live rows))
  sorted_live [] h = tt
  sorted_live (row ∷ rows) h =
      let rest = sorted_live rows (both_second _ _ h) in
      elim (row.1) as (λ o. T (is_sorted nat_cmp (entry_before row.0 o (live rows)))) [
        | None ↦ rest
        | Some v ↦ both _ _ (below_live row.0 rows (both_first _ _ h)) rest
      ]

  -- ---- looking up

  get_first : (k x : ℕ) (o : Option V) (rest : Option (Option V)) (es : List (ℕ × V)) → (k ≡ x → get es k ≡ None)
      → get es k ≡ held rest → get (entry_before x o es) k ≡ held (cond (is_eq (nat_cmp k x)) (Some o) rest)
  get_first k x (Some v) rest es none same =
      elim (is_eq (nat_cmp k x)) as (λ b. cond b (Some v) (get es k) ≡ held (cond b (Some (Some v)) rest)) [
        | true ↦ refl
        | false ↦ same
      ]
  get_first k x None rest es none same =
      elim (nat_cmp k x) as (λ r. nat_cmp k x ≡ r → get es k ≡ held (cond (is_eq r) (Some None) rest)) [
        | Less ↦ λ e. same
        | Equal ↦ λ e. none (ranked k x Equal (sym e))
        | Greater ↦ λ e. same
      ] refl

  pub get_live : (rows : List (ℕ × Option V)) (k : ℕ) → T (is_sorted nat_cmp rows)
      → get (live rows) k ≡ held (get rows k)
  get_live [] k h = refl
  get_live (row ∷ rows) k h =
      get_first k row.0 row.1 (get rows k) (live rows)
      (λ e. none_below k (live rows) row.0 (omega arith) (below_live row.0 rows (both_first _ _ h)))
      (get_live rows k (both_second _ _ h))

  -- a row that has the key has its value
  pub value_at_row : (rows : List (ℕ × Option V)) (key place : ℕ) (row : ℕ × Option V) → T (is_sorted nat_cmp rows)
      → IsRowOf rows key place → row ≡ slice_index_or rows place row → row.1 ≡ get (live rows) key
  value_at_row rows key place row h r is =
      ap held (read_there rows rows key place row h refl r is) ∙ sym (get_live rows key h)

  -- ---- putting and taking

  pub same_maps : (es fs : List (ℕ × V)) → T (is_sorted nat_cmp es) → T (is_sorted nat_cmp fs)
      → ((q : ℕ) → get es q ≡ get fs q) → es ≡ fs
  same_maps es fs g h same = same_entries nat_cmp nat_cmp_total nat_cmp-IsAntisymmetric es fs g h same

  held_put : (b : Bool) (v : V) (o : Option (Option V)) → held (cond b (Some (Some v)) o) ≡ cond b (Some v) (held o)
  held_put true v o = refl
  held_put false v o = refl

  held_none : (b : Bool) (o : Option (Option V)) → held (cond b (Some None) o) ≡ cond b None (held o)
  held_none true o = refl
  held_none false o = refl

  pub live_put : (rows : List (ℕ × Option V)) (k : ℕ) (v : V) → T (is_sorted nat_cmp rows)
      → live (put rows k (Some v)) ≡ put (live rows) k v
  live_put rows k v h =
      let put_sorted = sorted_with rows k (Some v) h in
      same_maps (live (put rows k (Some v))) (put (live rows) k v) (sorted_live (put rows k (Some v)) put_sorted)
      (sorted_with (live rows) k v (sorted_live rows h))
      (λ q. get_live (put rows k (Some v)) q put_sorted
      ∙ ap held (find-put nat_cmp nat_cmp_total q k (Some v) rows)
      ∙ held_put (eq_by_cmp nat_cmp q k) v (get rows q)
      ∙ ap (cond (eq_by_cmp nat_cmp q k) (Some v)) (sym (get_live rows q h))
      ∙ sym (find-put nat_cmp nat_cmp_total q k v (live rows)))

  get_without : (es : List (ℕ × V)) (k q : ℕ) → get (remove es k) q ≡ cond (eq_by_cmp nat_cmp q k) None (get es q)
  get_without es k q =
      find-where_key nat_cmp (λ x. not (nat_eq x k)) q
      (λ x e. ap (λ n. not (nat_eq n k)) (sym (ranked q x Equal (sym e)))) es
      ∙ not_cond (nat_eq q k) (get es q) ∙ ap (λ b. cond b None (get es q)) (sym (ties q k))

  pub live_emptied : (rows : List (ℕ × Option V)) (k : ℕ) → T (is_sorted nat_cmp rows)
      → live (put rows k None) ≡ remove (live rows) k
  live_emptied rows k h =
      let put_sorted = sorted_with rows k None h in
      same_maps (live (put rows k None)) (remove (live rows) k) (sorted_live (put rows k None) put_sorted)
      (sorted_without (live rows) k (sorted_live rows h))
      (λ q. get_live (put rows k None) q put_sorted
      ∙ ap held (find-put nat_cmp nat_cmp_total q k None rows)
      ∙ held_none (eq_by_cmp nat_cmp q k) (get rows q)
      ∙ ap (cond (eq_by_cmp nat_cmp q k) None) (sym (get_live rows q h))
      ∙ sym (get_without (live rows) k q))

  live_step : (row : ℕ × Option V) (rows : List (ℕ × Option V)) (k : ℕ) → live (remove rows k) ≡ remove (live rows) k
      → live (remove (row ∷ rows) k) ≡ remove (entry_before row.0 row.1 (live rows)) k
  live_step (x, None) rows k rest =
      elim (not (nat_eq x k)) as (λ b. live (cond b ((x, None) ∷ remove rows k) (remove rows k)) ≡ remove (live rows) k) [
        | true ↦ rest
        | false ↦ rest
      ]
  live_step (x, Some v) rows k rest =
      elim (not (nat_eq x k)) as (λ b. live (cond b ((x, Some v) ∷ remove rows k) (remove rows k))
      ≡ cond b ((x, v) ∷ remove (live rows) k) (remove (live rows) k)) [
        | true ↦ ap (λ (es : List (ℕ × V)). (x, v) ∷ es) rest
        | false ↦ rest
      ]

  pub live_removed : (rows : List (ℕ × Option V)) (k : ℕ) → live (remove rows k) ≡ remove (live rows) k
  live_removed [] k = refl
  live_removed (row ∷ rows) k = live_step row rows k (live_removed rows k)

  -- the rows without that of a key
  pub live_gone : (rows new : List (ℕ × Option V)) (key place : ℕ) → T (is_sorted nat_cmp rows) → IsRowOf rows key place
      → new ≡ removed rows place → (live new ≡ remove (live rows) key) × T (is_sorted nat_cmp new)
  live_gone rows new key place h r is =
      let gone = is ∙ without_there rows key place h r in
      (ap live gone ∙ live_removed rows key, subst (λ es. T (is_sorted nat_cmp es)) (sym gone) (sorted_without rows key h))

  -- ---- squeezing

  abbrev pub has_value : ℕ × Option V → Bool
  has_value row = is_some row.1

  -- an empty row behind others
  pub live_behind : (rows : List (ℕ × Option V)) (key : ℕ) → live (rows ++ (key, None) ∷ []) ≡ live rows
  live_behind [] key = refl
  live_behind (row ∷ rows) key = ap (entry_before row.0 row.1) (live_behind rows key)

  pub live_squeezed : (rows : List (ℕ × Option V)) → live (filter has_value rows) ≡ live rows
  live_squeezed [] = refl
  live_squeezed ((x, None) ∷ rows) = live_squeezed rows
  live_squeezed ((x, Some v) ∷ rows) = ap (λ (es : List (ℕ × V)). (x, v) ∷ es) (live_squeezed rows)

  pub length_squeezed : (rows : List (ℕ × Option V)) → length (filter has_value rows) ≡ length (live rows)
  length_squeezed [] = refl
  length_squeezed ((x, None) ∷ rows) = length_squeezed rows
  length_squeezed ((x, Some v) ∷ rows) = let rest = length_squeezed rows in omega arith

  -- ---- counting

  pub length_live : (rows : List (ℕ × Option V)) → length (live rows) ≤ length rows
  length_live [] = omega arith
  length_live ((x, None) ∷ rows) = let rest = length_live rows in omega arith
  length_live ((x, Some v) ∷ rows) = let rest = length_live rows in omega arith

  pub length_more : (es : List (ℕ × V)) (k : ℕ) (v : V) → T (is_sorted nat_cmp es) → get es k ≡ None
      → length (put es k v) ≡ length es + 1
  length_more es k v h none = length-put nat_cmp nat_cmp_total k v es h
      ∙ ap (λ o. cond (is_some o) (length es) (length es + 1)) none

  -- another value at a key that has one, or none where it has none
  pub length_replaced : (es new : List (ℕ × V)) (k : ℕ) (v : V) (before : Option V) → T (is_sorted nat_cmp es)
      → before ≡ get es k → (IsSome before → new ≡ put es k v) → (before ≡ None → new ≡ es) → length new ≡ length es
  length_replaced es new k v None h is there absent = ap length (absent refl)
  length_replaced es new k v (Some w) h is there absent = ap length (there refl) ∙ length-put nat_cmp nat_cmp_total k v es h
      ∙ ap (λ o. cond (is_some o) (length es) (length es + 1)) (sym is)

  pub length_less : (es : List (ℕ × V)) (k : ℕ) (v : V) → T (is_sorted nat_cmp es) → get es k ≡ Some v
      → length (remove es k) + 1 ≡ length es
  length_less [] k v h there = absurd (cc)
  length_less (e ∷ es) k v h there =
      elim (nat_cmp k e.0) as (λ r. nat_cmp k e.0 ≡ r → cond (is_eq r) (Some e.1) (get es k) ≡ Some v
      → length (remove (e ∷ es) k) + 1 ≡ length (e ∷ es)) [
        | Less ↦ λ q t. let low = ranked k e.0 Less (sym q) in
            let rest = length_less es k v (both_second _ _ h) t in
            rw (apart e.0 k (omega arith)) (omega arith)
        | Equal ↦ λ q t. let same = ranked k e.0 Equal (sym q) in
            rw (tied e.0 k (sym same), kept_above k es e.0 (omega arith) (both_first _ _ h)) (omega arith)
        | Greater ↦ λ q t. let high = ranked k e.0 Greater (sym q) in
            let rest : length (remove es k) + 1 ≡ length es = length_less es k v (both_second _ _ h) t in
            rw (apart e.0 k (omega arith)) (omega arith)
      ] refl there
