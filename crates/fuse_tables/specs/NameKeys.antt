-- Names as keys of an ordered map.
use Rattle.std.specs.Prelude.{ℕ, Bool, List}
use Rattle.std.specs.declared.cmp.Ordering.{Ordering}
use Rattle.std.specs.Ordering.{eq_by_cmp, nat_cmp, ordering_then}
use Rattle.std.specs.Cmp.{IsTotalOrder, nat_cmp_total, on_total, then_total}
use Rattle.std.specs.Cmp.Lexicographic.{slice_cmp, nat_list_cmp_total}
use Rattle.fuse_tables.specs.NameFronts.{front_of}
use Rattle.fuse_tables.specs.declared.name_key.LentName.{LentName}

-- by the number of the first bytes, and then by all of them
abbrev pub name_cmp : List ℕ → List ℕ → Ordering
name_cmp x y = ordering_then (nat_cmp (front_of x) (front_of y)) (slice_cmp nat_cmp x y)

-- This order is total.
pub name_total : IsTotalOrder name_cmp
name_total = then_total (on_total front_of nat_cmp_total) nat_list_cmp_total

-- the key is that of the name
abbrev pub is_named : List ℕ → List ℕ → Bool
is_named name key = eq_by_cmp (slice_cmp nat_cmp) name key

-- the name that is sought
abbrev pub name_sought : LentName → List ℕ
name_sought lent = lent.name.now
