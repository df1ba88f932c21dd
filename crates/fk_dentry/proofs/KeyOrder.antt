-- What the order of keys tells apart: the same as the order of places.
use Rattle.std.proofs.Common.{◌≡◌, Bool, refl, Less, Equal, Greater}
use Rattle.std.specs.declared.cmp.Ordering.{Ordering}
use Rattle.std.specs.Ordering.{nat_cmp, is_eq, eq_by_cmp, ordering_then}
use Rattle.std.specs.Cmp.Lexicographic.{slice_cmp}
use Rattle.fuse_spec.specs.Values.Maps.{Place}
use Rattle.fuse_tables.specs.NameKeys.{name_cmp}
use Rattle.fuse_tables.proofs.NameFronts.{by_front}
use Rattle.fk_dentry.specs.Keys.{is_of, key_cmp}

abbrev pub key_test : Place → Place → Bool
key_test x y = eq_by_cmp key_cmp x y

behind : (x r s : Ordering) → is_eq r ≡ is_eq s → is_eq (ordering_then x r) ≡ is_eq (ordering_then x s)
behind Less r s e = refl
behind Equal r s e = e
behind Greater r s e = refl

pub both_tests : key_test ≡ is_of
both_tests = λ i p k. behind (nat_cmp p.0 k.0) (name_cmp p.1 k.1) (slice_cmp nat_cmp p.1 k.1) (by_front p.1 k.1) i
