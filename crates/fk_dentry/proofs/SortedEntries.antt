-- Entries in rising key: where a key stands, and what a write, a new entry and a removal there make of them.
use Rattle.std.proofs.Common.{◌≡◌, suc, Bool, true, false, not, cond, ◌&&◌, List, [], ◌∷◌, filter, set, Option, Some, None, refl, sym, ap, subst, ◌∙◌, T, Less, Equal, Greater}
use Rattle.std.specs.Prelude.{slice_get}
use Rattle.std.specs.List.{insert, remove}
use Rattle.std.specs.declared.cmp.Ordering.{Ordering}
use Rattle.std.specs.Ordering.{is_lt, is_eq, is_gt, eq_by_cmp}
use Rattle.std.specs.Cmp.{IsTotalOrder}
use Rattle.std.specs.FinMap.{find, put, is_sorted}
use Rattle.std.specs.FinMap.Entries.{below_all, by_order}
use Rattle.std.proofs.lemmas.Option.{same_Some}
use Rattle.fk_dentry.proofs.Places.{place_among}

pub both_first : (a b : Bool) → T (a && b) → T a
both_first true b h = tt
both_first false b h = absurd h

pub both_second : (a b : Bool) → T (a && b) → T b
both_second true b h = h
both_second false b h = absurd h

pub both : (a b : Bool) → T a → T b → T (a && b)
both true b g h = h
both false b g h = g

is_less : (r : Ordering) → T (is_lt r) → r ≡ Less
is_less Less h = refl
is_less Equal h = absurd h
is_less Greater h = absurd h

abbrev is_found : {A : Type 0} → Option A → Type 0
is_found None = ⊥
is_found (Some x) = Unit {0}

module _ {K X : Type 0} (R : K → K → Ordering) (o : IsTotalOrder R) where
  pub less_all : (x y : K) (es : List (K × X)) → R x y ≡ Less → T (below_all R y es) → T (below_all R x es)
  less_all x y [] p h = tt
  less_all x y (e ∷ es) p h = both _ _ (subst (λ r. T (is_lt r))
      (sym (o.trans x y e.0 p (is_less _ (both_first _ _ h)))) tt) (less_all x y es p (both_second _ _ h))

  pub tied_all : (x y : K) (es : List (K × X)) → R x y ≡ Equal → T (below_all R y es) → T (below_all R x es)
  tied_all x y [] p h = tt
  tied_all x y (e ∷ es) p h = both _ _ (subst (λ r. T (is_lt r)) (sym (o.congr x y e.0 p)) (both_first _ _ h))
      (tied_all x y es p (both_second _ _ h))

  pub none_below : (x : K) (es : List (K × X)) → T (below_all R x es) → find R x es ≡ None
  none_below x [] h = refl
  none_below x (e ∷ es) h = ap (λ r. cond (is_eq r) (Some e.1) (find R x es))
      (is_less _ (both_first _ _ h)) ∙ none_below x es (both_second _ _ h)

  -- ---- what stands there

  abbrev pub found : K → Option (K × X) → Option X
  found key None = None
  found key (Some e) = cond (is_eq (R key e.0)) (Some e.1) None

  pub found_is : (key : K) (es : List (K × X)) → T (is_sorted R es)
      → find R key es ≡ found key (slice_get es (place_among R key es))
  found_is key [] h = refl
  found_is key (e ∷ es) h =
      elim (R key e.0) as (λ r. R key e.0 ≡ r → cond (is_eq r) (Some e.1) (find R key es)
      ≡ found key (slice_get (e ∷ es) (cond (is_gt r) (suc (place_among R key es)) 0))) [
        | Less ↦ λ q. none_below key es (less_all key e.0 es q (both_first _ _ h)) ∙ sym
            (ap (λ r. cond (is_eq r) (Some e.1) None) q)
        | Equal ↦ λ q. sym (ap (λ r. cond (is_eq r) (Some e.1) None) q)
        | Greater ↦ λ q. found_is key es (both_second _ _ h)
      ] refl

  -- ---- a new entry

  pub put_is : (key : K) (v : X) (es : List (K × X)) → find R key es ≡ None
      → insert es (place_among R key es) (key, v) ≡ put R key v es
  put_is key v [] none = refl
  put_is key v (e ∷ es) none =
      elim (R key e.0) as (λ r. cond (is_eq r) (Some e.1) (find R key es) ≡ None
      → insert (e ∷ es) (cond (is_gt r) (suc (place_among R key es)) 0) (key, v)
      ≡ by_order r ((key, v) ∷ e ∷ es) ((e.0, v) ∷ es) (e ∷ put R key v es)) [
        | Less ↦ λ n. refl
        | Equal ↦ λ n. absurd (subst is_found n tt)
        | Greater ↦ λ n. ap (λ xs. e ∷ xs) (put_is key v es n)
      ] none

  -- ---- a write in place

  pub set_is : (key : K) (v : X) (es : List (K × X)) (f : K × X) → slice_get es (place_among R key es) ≡ Some f
      → R key f.0 ≡ Equal → set es (place_among R key es) (f.0, v) ≡ put R key v es
  set_is key v [] f at same = absurd (subst is_found (sym at) tt)
  set_is key v (e ∷ es) f at same =
      elim (R key e.0) as (λ r. R key e.0 ≡ r → slice_get (e ∷ es) (cond (is_gt r) (suc (place_among R key es)) 0)
      ≡ Some f → set (e ∷ es) (cond (is_gt r) (suc (place_among R key es)) 0) (f.0, v)
      ≡ by_order r ((key, v) ∷ e ∷ es) ((e.0, v) ∷ es) (e ∷ put R key v es)) [
        | Less ↦ λ q at. absurd (subst (λ r. T (is_eq r))
            (sym same ∙ ap (λ (x : K × X). R key x.0) (sym (same_Some e f at)) ∙ q) tt)
        | Equal ↦ λ q at. ap (λ (x : K × X). (x.0, v) ∷ es) (sym (same_Some e f at))
        | Greater ↦ λ q at. ap (λ xs. e ∷ xs) (set_is key v es f at same)
      ] refl at

  -- ---- a removal

  abbrev without : K → List (K × X) → List (K × X)
  without key es = filter (λ e. not (eq_by_cmp R key e.0)) es

  kept_above : (key : K) (es : List (K × X)) → T (below_all R key es) → without key es ≡ es
  kept_above key [] h = refl
  kept_above key (e ∷ es) h = ap (λ r. cond (not (is_eq r)) (e ∷ without key es) (without key es))
      (is_less _ (both_first _ _ h)) ∙ ap (λ xs. e ∷ xs) (kept_above key es (both_second _ _ h))

  pub removed_is : (key : K) (es : List (K × X)) (f : K × X) → T (is_sorted R es)
      → slice_get es (place_among R key es) ≡ Some f → R key f.0 ≡ Equal
      → remove es (place_among R key es) ≡ without key es
  removed_is key [] f h at same = absurd (subst is_found (sym at) tt)
  removed_is key (e ∷ es) f h at same =
      elim (R key e.0) as (λ r. R key e.0 ≡ r → slice_get (e ∷ es) (cond (is_gt r) (suc (place_among R key es)) 0)
      ≡ Some f → remove (e ∷ es) (cond (is_gt r) (suc (place_among R key es)) 0)
      ≡ cond (not (is_eq r)) (e ∷ without key es) (without key es)) [
        | Less ↦ λ q at. absurd (subst (λ r. T (is_eq r))
            (sym same ∙ ap (λ (x : K × X). R key x.0) (sym (same_Some e f at)) ∙ q) tt)
        | Equal ↦ λ q at. sym (kept_above key es (tied_all key e.0 es q (both_first _ _ h)))
        | Greater ↦ λ q at. ap (λ xs. e ∷ xs) (removed_is key es f (both_second _ _ h) at same)
      ] refl at

  pub absent_is : (key : K) (es : List (K × X)) → find R key es ≡ None → without key es ≡ es
  absent_is key [] none = refl
  absent_is key (e ∷ es) none =
      elim (R key e.0) as (λ r. cond (is_eq r) (Some e.1) (find R key es) ≡ None
      → cond (not (is_eq r)) (e ∷ without key es) (without key es) ≡ e ∷ es) [
        | Less ↦ λ n. ap (λ xs. e ∷ xs) (absent_is key es n)
        | Equal ↦ λ n. absurd (subst is_found n tt)
        | Greater ↦ λ n. ap (λ xs. e ∷ xs) (absent_is key es n)
      ] none
