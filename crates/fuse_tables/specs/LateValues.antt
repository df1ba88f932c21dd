-- Values whose keys came late: they stand beside the rows, in an ordered map.
use Rattle.std.specs.Prelude.{ℕ, List, [], ◌∷◌, Option, None, true, ◌≡◌, ◌≤◌, ◌+◌, length, T, is_some}
use Rattle.std.specs.Map.{lookup}
use Rattle.std.specs.BTreeMap.{is_at}
use Rattle.std.specs.Ordering.{nat_cmp}
use Rattle.std.specs.FinMap.{is_sorted}
use Rattle.fuse_spec.specs.Values.Maps.{Map, get, put}
use Rattle.fuse_tables.specs.LiveRows.{live}

-- the late value at a key
abbrev pub late_at : {V : Type 0} → List (ℕ × V) → ℕ → Option V
late_at late key = lookup (is_at (nat_cmp key)) late

-- a map with late values put into it
abbrev pub with_late : {V : Type 0} → Map V → List (ℕ × V) → Map V
with_late es [] = es
with_late es (o ∷ os) = put (with_late es os) o.0 o.1

-- the entries of rows and of late values
abbrev pub entries_of : {V : Type 0} → List (ℕ × Option V) → List (ℕ × V) → Map V
entries_of rows late = with_late (live rows) late

-- The keys of rows rise, and no value came late at a key of theirs that has one.
pub record AreKept {V : Type 0} (rows : List (ℕ × Option V)) (late : List (ℕ × V)) : Type 0 where
  pub sorted : T (is_sorted nat_cmp rows)
  pub apart : (key : ℕ) → is_some (get (live rows) key) ≡ true → late_at late key ≡ None

-- What is true of a table: its rows and late values are kept, the count is that of the entries, and at most half of the
-- rows that fit are entries, so that squeezing a full table frees as many rows as were taken out since the last time.
pub record IsRisingTable {V : Type 0} (rows : List (ℕ × Option V)) (late : List (ℕ × V)) (count capacity : ℕ) : Type 0 where
  pub kept : AreKept rows late
  pub counted : count ≡ length (entries_of rows late)
  pub half : count + count ≤ capacity
