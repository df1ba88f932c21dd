-- The rows of names that are bound, among those that have room.
use Rattle.std.proofs.Common.{◌≡◌, ℕ, suc, Bool, true, false, ◌||◌, cond, List, [], ◌∷◌, Option, Some, None, Bor, IfNone, IfSome, IsSome, MatchOption, is_some, refl, ap, ◌∙◌, subst, T, arith}
use Rattle.std.specs.List.{All, list_any}
use Rattle.std.specs.FinMap.{is_sorted}
use Rattle.std.specs.Map.{lookup}
use Rattle.fuse_spec.specs.declared.Dentry.{Dentry}
use Rattle.fuse_spec.specs.Values.Maps.{NameMap, Place, get_name, place_cmp}
use Rattle.fk_dentry.specs.Keys.{is_of}
use Rattle.fk_dentry.specs.Rows.{bound_in, bound_names, slots_of}
use Rattle.fk_dentry.proofs.BoundNames.{alike, get-names}
use Rattle.fk_dentry.proofs.KeyedRows.{Entries, get-slots, sorted_slots}

not_first : (b c : Bool) → (b || c) ≡ false → b ≡ false
not_first false c e = refl
not_first true c e = e

not_rest : (b c : Bool) → (b || c) ≡ false → c ≡ false
not_rest false c e = e
not_rest true c e = absurd (subst T e tt)

unbound : (slot : Option Dentry) → is_some slot ≡ false → bound_in (Some slot) ≡ None
unbound None e = refl
unbound (Some dentry) e = absurd (subst T e tt)

pub first_of : {E : Type 0} (P : E → Type 0) (e : E) (es : List E) → All P (e ∷ es) → P e
first_of P e es all = all 0 e (omega arith)

pub rest_of : {E : Type 0} (P : E → Type 0) (e : E) (es : List E) → All P (e ∷ es) → All P es
rest_of P e es all = λ k d below. all (suc k) d (omega arith)

-- a row without a dentry is passed over
pub passed : (row : Option Dentry) (rest : Bool) → is_some row ≡ false → (is_some row || rest) ≡ rest
passed row rest is = ap (λ b. b || rest) is

-- a bound name, if there is one
pub first_name : (slots : NameMap (Option Dentry)) → T (is_sorted place_cmp slots) → (r : Option (ℕ × Bor (List ℕ)))
    → IfSome r (λ n. IsSome (bound_in (get_name slots (n.0, n.1.now)))) → IfNone r (bound_names slots ≡ [])
    → MatchOption r (bound_names slots ≡ []) (λ n. IsSome (get_name (bound_names slots) (n.0, n.1.now)))
first_name slots h None some none = none
first_name slots h (Some n) some none = ap is_some (get-names slots h (n.0, n.1.now)) ∙ some

-- one of these rows has a dentry
abbrev pub is_any_bound : Entries → Bool
is_any_bound es = list_any (λ e. is_some e.1) es

none_at : (es : Entries) (q : Place) → is_any_bound es ≡ false → bound_in (lookup (is_of q) es) ≡ None
none_at [] q e = refl
none_at (row ∷ es) q e =
    elim (is_of q row.0) as (λ b. bound_in (cond b (Some row.1) (lookup (is_of q) es)) ≡ None) [
      | true ↦ unbound row.1 (not_first (is_some row.1) (is_any_bound es) e)
      | false ↦ none_at es q (not_rest (is_some row.1) (is_any_bound es) e)
    ]

-- no name is bound where no row has a dentry
pub none_bound : (es : Entries) → is_any_bound es ≡ false → bound_names (slots_of es) ≡ []
none_bound es e = alike (slots_of es) [] (sorted_slots es) tt (λ q. ap bound_in (get-slots es q) ∙ none_at es q e)

-- a name is bound where its row has a dentry
pub is_bound : (es : Entries) (q : Place) (slot : Option Dentry) → lookup (is_of q) es ≡ Some slot
    → is_some slot ≡ true → IsSome (bound_in (get_name (slots_of es) q))
is_bound es q slot at is = ap (λ found. is_some (bound_in found)) (get-slots es q ∙ at) ∙ is
