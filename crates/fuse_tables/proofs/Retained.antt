-- The entries at the keys that pass a test, where some values came late.
use Rattle.std.proofs.Common.{◌≡◌, ◌≢◌, ◌⊎◌, ℕ, ◌≤◌, ◌+◌, Bool, true, false, cond, ◌&&◌, List, [], ◌∷◌, length, filter, Option, Some, None, is_some, refl, sym, ap, subst, ◌∙◌, arith, T, inl, inr, Less, Equal, true≢false}
use Rattle.std.specs.Map.{keys_of}
use Rattle.std.specs.Map.Calls.{RetainsPairs}
use Rattle.std.specs.List.{AllByRecursion}
use Rattle.std.specs.List.Sorted.{IsStrictlySortedBy}
use Rattle.std.specs.Cmp.{ranked}
use Rattle.std.specs.BTreeMap.{is_at}
use Rattle.std.specs.Ordering.{nat_cmp}
use Rattle.std.specs.FinMap.{is_sorted}
use Rattle.std.specs.FinMap.Entries.{find-where_key}
use Rattle.std.proofs.lemmas.Bool.{cases_eq}
use Rattle.std.proofs.lemmas.Map.Entries.{lookup-filter-keys, filter_from_retain_pairs}
use Rattle.std.proofs.lemmas.Map.Keys.{sorted_head, sorted_tail}
use Rattle.fuse_spec.specs.Values.Maps.{get}
use Rattle.fuse_tables.specs.KeyTests.{kept_by}
use Rattle.fuse_tables.specs.LateValues.{late_at, with_late, entries_of, AreKept}
use Rattle.fuse_tables.specs.LiveRows.{live}
use Rattle.fuse_tables.proofs.Rows.{apart, tied}
use Rattle.fuse_tables.proofs.Live.{ties, same_maps, sorted_live, sorted_filtered, length_filtered, length_more}
use Rattle.fuse_tables.proofs.LateEntries.{over, get_late, sorted_late}

none_kept : {V : Type 0} (b : Bool) (o : Option V) → o ≡ None → cond b o None ≡ None
none_kept true o none = none
none_kept false o none = refl

over_kept : {V : Type 0} (b : Bool) (late row : Option V) → over (cond b late None) (cond b row None) ≡ cond b (over late row) None
over_kept true late row = refl
over_kept false late row = refl

-- what a map's `retain` leaves, where the closure keeps no state and leaves each value as it was
pub retained : {K X F : Type 0} (T : F → K → X → Bool → X → F → Type 0) (test : K × X → Bool) (f : F)
    → ((k : K) (v : X) (b : Bool) (w : X) (g : F) → T f k v b w g → (b ≡ test (k, v)) × (w ≡ v) × (g ≡ f))
    → (es kept : List (K × X)) → RetainsPairs T f es kept → kept ≡ filter test es
retained T test f says es kept =
    filter_from_retain_pairs T (λ g. g ≡ f) test
    (λ g k v b w g' same call. says k v b w g' (subst (λ h. T h k v b w g') same call)) f es kept refl

tied_key : (q k : ℕ) → is_at (nat_cmp q) k ≡ true → q ≡ k
tied_key q k tie = by (cases_eq q k)
  where
    by : (q ≡ k) ⊎ (q ≢ k) → q ≡ k
    by (inl e) = e
    by (inr ne) = absurd (true≢false (sym tie ∙ ties q k ∙ apart q k ne))

module _ {V : Type 0} (test : ℕ → Bool) where
  -- the row has a value, and its key passes
  abbrev pub stays : ℕ × Option V → Bool
  stays row = is_some row.1 && test row.0

  live_kept : (rows : List (ℕ × Option V)) → live (filter stays rows) ≡ kept_by test (live rows)
  live_kept [] = refl
  live_kept ((x, None) ∷ rows) = live_kept rows
  live_kept ((x, Some v) ∷ rows) =
      let rest = live_kept rows in
      elim (test x) as (λ b. live (cond b ((x, Some v) ∷ filter stays rows) (filter stays rows))
      ≡ cond b ((x, v) ∷ kept_by test (live rows)) (kept_by test (live rows))) [
        | true ↦ ap (λ (es : List (ℕ × V)). (x, v) ∷ es) rest
        | false ↦ rest
      ]

  -- no row that stays is empty
  length_kept : (rows : List (ℕ × Option V)) → length (live (filter stays rows)) ≡ length (filter stays rows)
  length_kept [] = refl
  length_kept ((x, None) ∷ rows) = length_kept rows
  length_kept ((x, Some v) ∷ rows) =
      let rest = length_kept rows in
      elim (test x) as (λ b. length (live (cond b ((x, Some v) ∷ filter stays rows) (filter stays rows)))
      ≡ length (cond b ((x, Some v) ∷ filter stays rows) (filter stays rows))) [
        | true ↦ omega (arith, rest)
        | false ↦ rest
      ]

  get_kept : (es : List (ℕ × V)) (q : ℕ) → get (kept_by test es) q ≡ cond (test q) (get es q) None
  get_kept es q = find-where_key nat_cmp test q (λ x e. ap test (sym (ranked q x Equal (sym e)))) es

  late_kept : (os : List (ℕ × V)) (q : ℕ) → late_at (kept_by test os) q ≡ cond (test q) (late_at os q) None
  late_kept os q = lookup-filter-keys (is_at (nat_cmp q)) test (test q) (λ k e. ap test (sym (tied_key q k e))) os

  entries_kept : (es os : List (ℕ × V)) → T (is_sorted nat_cmp es)
      → with_late (kept_by test es) (kept_by test os) ≡ kept_by test (with_late es os)
  entries_kept es os h =
      same_maps (with_late (kept_by test es) (kept_by test os)) (kept_by test (with_late es os))
      (sorted_late (kept_by test es) (kept_by test os) (sorted_filtered (λ e. test e.0) es h))
      (sorted_filtered (λ e. test e.0) (with_late es os) (sorted_late es os h))
      (λ q. get_late (kept_by test es) (kept_by test os) q ∙ ap (over (late_at (kept_by test os) q)) (get_kept es q)
      ∙ ap (λ o. over o (cond (test q) (get es q) None)) (late_kept os q)
      ∙ over_kept (test q) (late_at os q) (get es q) ∙ ap (λ o. cond (test q) o None) (sym (get_late es os q))
      ∙ sym (get_kept (with_late es os) q))

  some_kept : (b : Bool) (o : Option V) → is_some (cond b o None) ≡ true → is_some o ≡ true
  some_kept true o there = there
  some_kept false o there = absurd (true≢false (sym there))

  kept_kept : {rows : List (ℕ × Option V)} {os : List (ℕ × V)} → AreKept rows os
      → AreKept (filter stays rows) (kept_by test os)
  kept_kept {rows} {os} h = record {
    sorted = sorted_filtered stays rows h.sorted;
    apart = λ q there. late_kept os q
        ∙ none_kept (test q) (late_at os q) (h.apart q (some_kept (test q) (get (live rows) q)
        (ap is_some (sym (ap (λ m. get m q) (live_kept rows) ∙ get_kept (live rows) q)) ∙ there)));
  }

module _ {V : Type 0} where
  first_alone : (o : ℕ × V) (os : List (ℕ × V)) → AllByRecursion (λ y. nat_cmp o.0 y ≡ Less) (keys_of os)
      → late_at os o.0 ≡ None
  first_alone o [] h = refl
  first_alone o (p ∷ os) h = rw (h.0) (first_alone o os h.1)

  -- late values in rising key, at keys that have none among the rows
  length_apart : (es os : List (ℕ × V)) → T (is_sorted nat_cmp es) → IsStrictlySortedBy nat_cmp (keys_of os)
      → ((q : ℕ) → is_some (get es q) ≡ true → late_at os q ≡ None)
      → length (with_late es os) ≡ length es + length os
  length_apart es [] h rising free = omega arith
  length_apart es (o ∷ os) h rising free =
      let rest = length_apart es os h (sorted_tail nat_cmp o.0 (keys_of os) rising)
      (λ q there. later (is_at (nat_cmp q) o.0) o.1 (late_at os q) (free q there)) in
      let alone = first_alone o os (sorted_head nat_cmp o.0 (keys_of os) rising) in
      let absent = get_late es os o.0 ∙ ap (λ l. over l (get es o.0)) alone ∙ none (get es o.0) refl in
      let more = length_more (with_late es os) o.0 o.1 (sorted_late es os h) absent in
      omega (arith, rest, more)
    where
      later : (b : Bool) (v : V) (l : Option V) → cond b (Some v) l ≡ None → l ≡ None
      later true v l is = absurd (true≢false (ap is_some is))
      later false v l is = is

      none : (there : Option V) → get es o.0 ≡ there → there ≡ None
      none None is = refl
      none (Some v) is = absurd (true≢false (sym (ap (λ b. is_some (cond b (Some o.1) (late_at os o.0)))
          (ties o.0 o.0 ∙ tied o.0 o.0 refl)) ∙ ap is_some (free o.0 (ap is_some is))))

  pub none_left : (test : ℕ → Bool) (os : List (ℕ × V)) → length os ≡ 0 → os ≡ kept_by test os
  none_left test [] none = refl
  none_left test (o ∷ os) none = absurd (omega (arith, none))

-- rows and late values of which those stay that pass
module _ {V : Type 0} {rows new : List (ℕ × Option V)} {os left : List (ℕ × V)} (test : ℕ → Bool) (h : AreKept rows os)
    (in_rows : new ≡ filter (stays test) rows) (late : left ≡ kept_by test os) where
  pub kept_entries : entries_of new left ≡ kept_by test (entries_of rows os)
  kept_entries = rw (in_rows, late) (ap (λ es. with_late es (kept_by test os)) (live_kept test rows)
      ∙ entries_kept test (live rows) os (sorted_live rows h.sorted))

  pub kept_both : AreKept new left
  kept_both = rw (in_rows, late) (kept_kept test h)

  pub kept_fewer : length (entries_of new left) ≤ length (entries_of rows os)
  kept_fewer =
      let same = ap length kept_entries in
      let fewer = length_filtered (λ e. test e.0) (entries_of rows os) in
      omega (arith, same, fewer)

  pub kept_counted : IsStrictlySortedBy nat_cmp (keys_of left) → length new + length left ≡ length (entries_of new left)
  kept_counted rising =
      let both = kept_both in
      let sum = length_apart (live new) left (sorted_live new both.sorted) rising both.apart in
      let all : length (live new) ≡ length new = rw in_rows (length_kept test rows) in
      omega (arith, sum, all)

  pub kept_alone : length left ≡ 0 → length new ≡ length (entries_of new left)
  kept_alone none = by left none
    where
      by : (ls : List (ℕ × V)) → length ls ≡ 0 → length new ≡ length (entries_of new ls)
      by [] none = rw in_rows (sym (length_kept test rows))
      by (l ∷ ls) none = absurd (omega (arith, none))
