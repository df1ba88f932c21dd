-- The order of names in directories.
use Rattle.std.proofs.Common.{◌≡◌, ◌≢◌, Bool, true, false, refl, sym, subst, T, Less, Equal, Greater}
use Rattle.std.specs.declared.cmp.Ordering.{Ordering}
use Rattle.std.specs.Ordering.{nat_cmp, is_eq, eq_by_cmp, ordering_then}
use Rattle.std.specs.Cmp.Lexicographic.{slice_cmp}
use Rattle.std.specs.FinMap.{IsAntisymmetric, nat_cmp-IsAntisymmetric, slice_cmp-IsAntisymmetric}
use Rattle.fuse_spec.specs.Values.Maps.{Place, place_cmp}

pub place_same : IsAntisymmetric place_cmp
place_same x y is =
    elim (nat_cmp x.0 y.0) as (λ r. nat_cmp x.0 y.0 ≡ r → ordering_then r (slice_cmp nat_cmp x.1 y.1) ≡ Equal → x ≡ y) [
      | Less ↦ λ p e. absurd (subst (λ r. T (is_eq r)) (sym e) tt)
      | Equal ↦ λ p e i. (
        nat_cmp-IsAntisymmetric x.0 y.0 p i,
        slice_cmp-IsAntisymmetric nat_cmp-IsAntisymmetric x.1 y.1 e i,
      )
      | Greater ↦ λ p e. absurd (subst (λ r. T (is_eq r)) (sym e) tt)
    ] refl is

pub tied : (r : Ordering) → is_eq r ≡ true → r ≡ Equal
tied Less e = absurd (subst T (sym e) tt)
tied Equal e = refl
tied Greater e = absurd (subst T (sym e) tt)

pub apart_places : (x y : Place) → x ≢ y → eq_by_cmp place_cmp x y ≡ false
apart_places x y ne = by (eq_by_cmp place_cmp x y) refl
  where
    by : (b : Bool) → eq_by_cmp place_cmp x y ≡ b → eq_by_cmp place_cmp x y ≡ false
    by true e = absurd (ne (place_same x y (tied _ e)))
    by false e = e
