-- Names and nodes that go.
use Rattle.std.proofs.Common.{◌≡◌, Bool, true, false, not, cond, [], ◌∷◌, Option, Some, None, refl, sym, ap, ◌∙◌, true≢false}
use Rattle.std.specs.Prelude.{is_some}
use Rattle.std.specs.Ordering.{eq_by_cmp}
use Rattle.fuse_spec.specs.Values.Maps.{NameMap, Place, place_cmp, get_name, remove_name}

-- where no such name is there nothing goes
pub name_absent : {X : Type 0} (m : NameMap X) (k : Place) → get_name m k ≡ None → remove_name m k ≡ m
name_absent [] k none = refl
name_absent {X} (e ∷ m) k none =
    elim (eq_by_cmp place_cmp k e.0) as (λ b. cond b (Some e.1) (get_name m k) ≡ None
    → cond (not b) (e ∷ remove_name m k) (remove_name m k) ≡ e ∷ m) [
      | true ↦ λ h.
          let no : ◌≡◌ {A = Option X} (Some e.1) None = h in
          cc
      | false ↦ λ h. ap (λ (t : NameMap X). e ∷ t) (name_absent m k h)
    ] none

pub nothing_dropped : {X : Type 0} (m : NameMap X) (k : Place) (was : Bool) → was ≡ is_some (get_name m k)
    → was ≡ false → remove_name m k ≡ m
nothing_dropped {X} m k was is not_there = name_absent m k (none_is (get_name m k) (sym is ∙ not_there))
  where
    none_is : (o : Option X) → is_some o ≡ false → o ≡ None
    none_is None e = refl
    none_is (Some x) e = absurd (true≢false e)
