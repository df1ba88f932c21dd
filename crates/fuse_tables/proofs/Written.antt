-- Another value at a key that has one: what becomes of a table's rows and late values.
use Rattle.std.proofs.Common.{◌≡◌, ℕ, ◌+◌, Bool, true, false, true≢false, cond, List, [], ◌∷◌, length, Option, Some, None, is_some, refl, sym, ap, subst, ◌∙◌, T}
use Rattle.std.specs.Prelude.{slice_set, slice_index_or}
use Rattle.std.specs.Map.{set_value}
use Rattle.std.specs.BTreeMap.{is_at}
use Rattle.std.specs.Ordering.{nat_cmp}
use Rattle.std.specs.FinMap.{is_sorted}
use Rattle.std.specs.FinMap.Entries.{length-put}
use Rattle.std.proofs.lemmas.Cmp.{nat_cmp_total}
use Rattle.std.proofs.lemmas.List.{set-get_or}
use Rattle.fuse_spec.specs.Values.Maps.{get, put}
use Rattle.fuse_tables.specs.LateValues.{late_at, with_late, entries_of, IsRisingTable}
use Rattle.fuse_tables.specs.LiveRows.{live}
use Rattle.fuse_tables.specs.TableState.{TableState, IsRowOf}
use Rattle.fuse_tables.proofs.Rows.{replaced_there, sorted_with}
use Rattle.fuse_tables.proofs.Live.{live_put, sorted_live, held, get_live, value_at_row}
use Rattle.fuse_tables.proofs.LateEntries.{Updated, over, get_late, late_put, row_put, value_row, kept_late, kept_row_put, sorted_entries}

module _ {V : Type 0} where
  abbrev pub table_of : ℕ → List (ℕ × V) → TableState V
  table_of room es = record { entries = es; room = room }

  pub not_some : (o : Option V) → is_some o ≡ false → o ≡ None
  not_some None e = refl
  not_some (Some v) e = absurd (true≢false e)

  over_row : (late : Option V) → over late None ≡ late
  over_row None = refl
  over_row (Some v) = refl

  -- nothing is written at a key that has no late value
  late_absent : (os : List (ℕ × V)) (k : ℕ) (w : V) → late_at os k ≡ None → set_value (is_at (nat_cmp k)) os w ≡ os
  late_absent [] k w none = refl
  late_absent (o ∷ os) k w none =
      elim (is_at (nat_cmp k) o.0) as (λ b. cond b (Some o.1) (late_at os k) ≡ None
      → cond b ((o.0, w) ∷ os) (o ∷ set_value (is_at (nat_cmp k)) os w) ≡ o ∷ os) [
        | true ↦ λ e. absurd (true≢false (ap is_some e))
        | false ↦ λ e. ap (λ l. o ∷ l) (late_absent os k w e)
      ] none

  length_written : (es : List (ℕ × V)) (k : ℕ) (v : V) → T (is_sorted nat_cmp es) → is_some (get es k) ≡ true
      → length (put es k v) ≡ length es
  length_written es k v h some = length-put nat_cmp nat_cmp_total k v es h
      ∙ ap (λ b. cond b (length es) (length es + 1)) some

  -- what was read, written back
  pub same_row : (rows : List (ℕ × Option V)) (place : ℕ) (row : ℕ × Option V) → row ≡ slice_index_or rows place row
      → slice_set rows place row ≡ rows
  same_row rows place row is = ap (λ x. slice_set rows place x) is ∙ set-get_or rows place row

  module _ {rows : List (ℕ × Option V)} {os : List (ℕ × V)} {count capacity : ℕ} (t : IsRisingTable rows os count capacity) where
    -- ---- a late value

    pub late_is : (k : ℕ) → get (live rows) k ≡ None → get (entries_of rows os) k ≡ late_at os k
    late_is k absent = get_late (live rows) os k ∙ ap (over (late_at os k)) absent ∙ over_row (late_at os k)

    pub late_entries : (new : List (ℕ × V)) (k : ℕ) (w : V) → Updated os k (Some w) new
        → entries_of rows new ≡ put (entries_of rows os) k w
    late_entries new k w has = late_put (live rows) os new k w (sorted_live rows t.kept.sorted) has

    pub late_written : (new : List (ℕ × V)) (k : ℕ) (w : V) → get (live rows) k ≡ None
        → new ≡ set_value (is_at (nat_cmp k)) os w → (is_some (late_at os k) ≡ true → Updated os k (Some w) new)
        → IsRisingTable rows new count capacity
    late_written new k w absent set has = by (is_some (late_at os k)) refl
      where
        by : (b : Bool) → is_some (late_at os k) ≡ b → IsRisingTable rows new count capacity
        by false none = subst (λ l. IsRisingTable rows l count capacity)
            (sym (set ∙ late_absent os k w (not_some _ none))) t
        by true some =
            let long = ap length (late_entries new k w (has some)) ∙ length_written (entries_of rows os) k w
            (sorted_entries t.kept) (ap is_some (late_is k absent) ∙ some) in
            record {
              kept = kept_late t.kept new k (Some w) absent (has some);
              counted = t.counted ∙ sym long;
              half = t.half;
            }

    -- ---- a value among the rows

    module _ (k : ℕ) (none : late_at os k ≡ None) where
      pub no_value : get rows k ≡ None → get (entries_of rows os) k ≡ None
      no_value absent = value_row t.kept k none ∙ get_live rows k t.kept.sorted ∙ ap held absent

      module _ (place : ℕ) (row : ℕ × Option V) (r : IsRowOf rows k place) (is : row ≡ slice_index_or rows place row) where
        pub row_is_value : row.1 ≡ get (entries_of rows os) k
        row_is_value = value_at_row rows k place row t.kept.sorted r is ∙ sym (value_row t.kept k none)

        live_written : (w : V) → live (slice_set rows place (row.0, Some w)) ≡ put (live rows) k w
        live_written w = ap live (replaced_there rows k place row (Some w) (Some w) r is refl)
            ∙ live_put rows k w t.kept.sorted

        pub row_entries : (w : V) → entries_of (slice_set rows place (row.0, Some w)) os ≡ put (entries_of rows os) k w
        row_entries w = ap (λ es. with_late es os) (live_written w)
            ∙ row_put (live rows) os k w (sorted_live rows t.kept.sorted) none

        pub row_written : (w : V) → is_some row.1 ≡ true
            → IsRisingTable (slice_set rows place (row.0, Some w)) os count capacity
        row_written w some =
            let put_is = replaced_there rows k place row (Some w) (Some w) r is refl in
            let sorted = subst (λ es. T (is_sorted nat_cmp es)) (sym put_is) (sorted_with rows k (Some w) t.kept.sorted) in
            let long = ap length (row_entries w) ∙ length_written (entries_of rows os) k w (sorted_entries t.kept)
            (ap is_some (sym row_is_value) ∙ some) in
            record {
              kept = kept_row_put t.kept (slice_set rows place (row.0, Some w)) k w sorted (live_written w) none;
              counted = t.counted ∙ sym long;
              half = t.half;
            }
