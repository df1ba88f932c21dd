-- The entries of the ordered map, read as slots in rising order.
use Rattle.std.proofs.Common.{◌≡◌, ℕ, ◌+◌, ◌≤◌, Bool, true, false, cond, not, List, [], ◌∷◌, length, Option, Some, None, is_some, refl, sym, ap, subst, ◌∙◌, arith, T}
use Rattle.std.specs.List.{All}
use Rattle.std.specs.Map.{lookup, KeepsOthers}
use Rattle.std.specs.Ordering.{eq_by_cmp}
use Rattle.std.specs.Cmp.{eq_by_cmp_equiv}
use Rattle.std.specs.FinMap.{is_sorted}
use Rattle.std.specs.FinMap.Entries.{is_sorted-put, is_sorted-where_key, same_entries, length-put}
use Rattle.fuse_spec.specs.declared.Dentry.{Dentry}
use Rattle.fuse_spec.specs.Values.Maps.{Place, place_cmp, get_name, put_name, remove_name}
use Rattle.fuse_spec.proofs.Tables.{place_total, name_put, name_gone}
use Rattle.fk_dentry.specs.Keys.{is_of}
use Rattle.fk_dentry.specs.Rows.{slots_of}
use Rattle.fk_dentry.proofs.KeyOrder.{both_tests, key_test}
use Rattle.fk_dentry.proofs.PlaceOrder.{place_same, tied}

abbrev pub Entries : Type 0
Entries = List (Place × Option Dentry)

one_more : (b : Bool) (n m : ℕ) → n ≤ m → cond b n (n + 1) ≤ m + 1
one_more true n m le = omega arith
one_more false n m le = omega arith

turned : (b : Bool) (x : Option (Option Dentry)) → cond b None x ≡ cond (not b) x None
turned true x = refl
turned false x = refl

-- all entries but that of one name are the same
abbrev pub KeepsNames : Place → Entries → Entries → Type 0
KeepsNames key old new = KeepsOthers (λ (x y : Place). is_of x y) (is_of key) old new

pub sorted_slots : (es : Entries) → T (is_sorted place_cmp (slots_of es))
sorted_slots [] = tt
sorted_slots (e ∷ es) = is_sorted-put place_cmp place_total e.0 e.1 (slots_of es) (sorted_slots es)

pub get-slots : (es : Entries) (q : Place) → get_name (slots_of es) q ≡ lookup (is_of q) es
get-slots [] q = refl
get-slots (e ∷ es) q = name_put (slots_of es) e.0 e.1 q ∙ ap
    (cond (is_of q e.0) (Some e.1)) (get-slots es q)

pub few_slots : (es : Entries) → length (slots_of es) ≤ length es
few_slots [] = omega arith
few_slots (e ∷ es) =
    let most = one_more (is_some (get_name (slots_of es) e.0)) _ _ (few_slots es) in
    let len = length-put place_cmp place_total e.0 e.1 (slots_of es) (sorted_slots es) in
    omega arith

-- what is found under any name, where only what stands under one changed
changed : (old new : Entries) (key : Place) (slot : Option (Option Dentry)) → lookup (is_of key) new ≡ slot
    → KeepsNames key old new
    → (q : Place) → get_name (slots_of new) q ≡ cond (eq_by_cmp place_cmp q key) slot (get_name (slots_of old) q)
unfolding KeepsOthers
changed old new key slot at others q = by (eq_by_cmp place_cmp q key) refl
  where
    by : (b : Bool) → eq_by_cmp place_cmp q key ≡ b → get_name (slots_of new) q
        ≡ cond b slot (get_name (slots_of old) q)
    by true e = get-slots new q ∙ ap (λ (p : Place). lookup (is_of p) new) (place_same q key (tied _ e)) ∙ at
    by false e =
        get-slots new q
        ∙ others (is_of q) (λ x y h. (eq_by_cmp_equiv place_total).congr q x y h)
        (λ k h. ap (λ (p : Place). eq_by_cmp place_cmp q p) (sym (place_same key k (tied _ h))) ∙ e)
        ∙ sym (get-slots old q)

-- What is found by the key of a name is found under it.
pub found_by_key : (es : Entries) (p key : Place) → key ≡ p → lookup (key_test key) es ≡ get_name (slots_of es) p
found_by_key es p key same =
    ap (λ (k : Place). lookup (key_test k) es) same
    ∙ ap (λ (tests : Place → Place → Bool). lookup (tests p) es) both_tests ∙ sym (get-slots es p)

pub under_key : (es : Entries) (p key : Place) → key ≡ p → (slot : Option (Option Dentry))
    → lookup (key_test key) es ≡ slot → lookup (is_of p) es ≡ slot
under_key es p key same slot at = sym (get-slots es p) ∙ sym (found_by_key es p key same) ∙ at

pub keeps_by_key : (p key : Place) → key ≡ p → (old new : Entries)
    → KeepsOthers key_test (key_test key) old new → KeepsNames p old new
keeps_by_key p key same old new keeps =
    subst (λ (tests : Place → Place → Bool). KeepsOthers tests (tests p) old new) both_tests
    (subst (λ (k : Place). KeepsOthers key_test (key_test k) old new) same keeps)

-- Each entry is found under its own name.
pub all_under : (es : Entries) → All (λ (e : Place × Option Dentry). lookup (key_test e.0) es ≡ Some e.1) es
    → All (λ (e : Place × Option Dentry). lookup (is_of e.0) es ≡ Some e.1) es
all_under es all =
    subst (λ (tests : Place → Place → Bool). All (λ (e : Place × Option Dentry). lookup (tests e.0) es ≡ Some e.1) es)
    both_tests all

pub slots-put : (old new : Entries) (key : Place) (slot : Option Dentry) → lookup (is_of key) new ≡ Some slot
    → KeepsNames key old new → slots_of new ≡ put_name (slots_of old) key slot
slots-put old new key slot at others =
    same_entries place_cmp place_total place_same _ _ (sorted_slots new)
    (is_sorted-put place_cmp place_total key slot (slots_of old) (sorted_slots old))
    (λ q. changed old new key (Some slot) at others q ∙ sym (name_put (slots_of old) key slot q))

pub slots-remove : (old new : Entries) (key : Place) → lookup (is_of key) new ≡ None
    → KeepsNames key old new → slots_of new ≡ remove_name (slots_of old) key
slots-remove old new key at others =
    same_entries place_cmp place_total place_same _ _ (sorted_slots new)
    (is_sorted-where_key place_cmp (λ p. not (eq_by_cmp place_cmp key p)) (slots_of old) (sorted_slots old))
    (λ q. changed old new key None at others q ∙ turned (eq_by_cmp place_cmp q key) (get_name (slots_of old) q)
    ∙ ap (λ b. cond (not b) (get_name (slots_of old) q) None) ((eq_by_cmp_equiv place_total).symm q key)
    ∙ sym (name_gone (slots_of old) key q))

pub unfound : {A : Type 0} (o : Option A) → is_some o ≡ false → o ≡ None
unfound None e = refl
unfound (Some x) e = absurd (subst T e tt)
