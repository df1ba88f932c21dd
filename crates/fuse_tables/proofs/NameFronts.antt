-- An order that looks at fronts first ties the same names as the order of their bytes.
use Rattle.std.proofs.Common.{◌≡◌, ℕ, List, false, refl, sym, ap, ◌∙◌, Less, Equal, Greater}
use Rattle.std.specs.declared.cmp.Ordering.{Ordering}
use Rattle.std.specs.Ordering.{nat_cmp, is_eq, ordering_then}
use Rattle.std.specs.Cmp.Lexicographic.{slice_cmp}
use Rattle.std.specs.FinMap.{nat_cmp-IsAntisymmetric, slice_cmp-IsAntisymmetric}
use Rattle.fuse_spec.proofs.Tables.{cmp_same}
use Rattle.fuse_tables.specs.NameFronts.{front_of}

never : (x r : Ordering) → is_eq r ≡ false → is_eq (ordering_then x r) ≡ false
never Less r e = refl
never Equal r e = e
never Greater r e = refl

pub by_front : (a b : List ℕ) → is_eq (ordering_then (nat_cmp (front_of a) (front_of b)) (slice_cmp nat_cmp a b))
    ≡ is_eq (slice_cmp nat_cmp a b)
by_front a b = by (slice_cmp nat_cmp a b) refl
  where
    by : (r : Ordering) → slice_cmp nat_cmp a b ≡ r
        → is_eq (ordering_then (nat_cmp (front_of a) (front_of b)) r) ≡ is_eq r
    by Less e = never (nat_cmp (front_of a) (front_of b)) Less refl
    by Greater e = never (nat_cmp (front_of a) (front_of b)) Greater refl
    by Equal e =
        let same : a ≡ b = slice_cmp-IsAntisymmetric nat_cmp-IsAntisymmetric a b e in
        ap (λ (o : Ordering). is_eq (ordering_then o Equal))
        (ap (λ (l : List ℕ). nat_cmp (front_of a) (front_of l)) (sym same) ∙ cmp_same (front_of a))
