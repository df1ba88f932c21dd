-- Names of directories as keys of an ordered map.
use Rattle.std.specs.Prelude.{Bool}
use Rattle.std.specs.declared.cmp.Ordering.{Ordering}
use Rattle.std.specs.Ordering.{eq_by_cmp, nat_cmp, ordering_then}
use Rattle.std.specs.Cmp.{IsTotalOrder, nat_cmp_total, on_total, then_total}
use Rattle.fuse_spec.specs.Values.Maps.{Place, place_cmp}
use Rattle.fuse_tables.specs.NameKeys.{name_cmp, name_sought, name_total}
use Rattle.fk_dentry.specs.declared.key.LentKey.{LentKey}

-- by the directory, and then by the name
abbrev pub key_cmp : Place → Place → Ordering
key_cmp x y = ordering_then (nat_cmp x.0 y.0) (name_cmp x.1 y.1)

-- This order is total.
pub key_total : IsTotalOrder key_cmp
key_total = then_total (on_total (λ (p : Place). p.0) nat_cmp_total) (on_total (λ (p : Place). p.1) name_total)

-- the key is that of the place
abbrev pub is_of : Place → Place → Bool
is_of place key = eq_by_cmp place_cmp place key

-- the place that is sought
abbrev pub sought : LentKey → Place
sought key = (key.directory, name_sought key.name)
