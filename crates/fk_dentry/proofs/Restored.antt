-- A name is bound and then restored to what it was.
use Rattle.std.proofs.Common.{◌≡◌, Bool, true, false, not, cond, Option, Some, None, refl, sym, ap, ◌∙◌, T}
use Rattle.std.specs.Ordering.{eq_by_cmp}
use Rattle.std.specs.Cmp.{eq_by_cmp_equiv}
use Rattle.std.specs.FinMap.{is_sorted}
use Rattle.std.specs.FinMap.Entries.{is_sorted-put, is_sorted-where_key, same_entries}
use Rattle.fuse_spec.specs.declared.Dentry.{Dentry}
use Rattle.fuse_spec.specs.Values.Maps.{Place, NameMap, place_cmp, get_name, put_name}
use Rattle.fuse_spec.proofs.Tables.{place_total, name_put, name_gone}
use Rattle.fk_dentry.specs.CachedNames.{restored}
use Rattle.fk_dentry.proofs.PlaceOrder.{place_same, tied}

pub restored-put : (names : NameMap Dentry) (place : Place) (dentry : Dentry) (was : Option Dentry)
    → T (is_sorted place_cmp names) → get_name names place ≡ was
    → restored (put_name names place dentry) place was ≡ names
restored-put names place dentry None h is =
    same_entries place_cmp place_total place_same _ _
    (is_sorted-where_key place_cmp (λ p. not (eq_by_cmp place_cmp place p)) (put_name names place dentry)
    (is_sorted-put place_cmp place_total place dentry names h)) h
    (λ q. name_gone (put_name names place dentry) place q
    ∙ ap (λ o. cond (not (eq_by_cmp place_cmp place q)) o None) (name_put names place dentry q)
    ∙ ap (λ b. cond (not b) (cond (eq_by_cmp place_cmp q place) (Some dentry) (get_name names q)) None)
    ((eq_by_cmp_equiv place_total).symm place q) ∙ by q (eq_by_cmp place_cmp q place) refl)
  where
    by : (q : Place) (b : Bool) → eq_by_cmp place_cmp q place ≡ b
        → cond (not b) (cond b (Some dentry) (get_name names q)) None ≡ get_name names q
    by q true e = sym (ap (get_name names) (place_same q place (tied _ e)) ∙ is)
    by q false e = refl
restored-put names place dentry (Some was) h is =
    same_entries place_cmp place_total place_same _ _
    (is_sorted-put place_cmp place_total place was (put_name names place dentry)
    (is_sorted-put place_cmp place_total place dentry names h)) h
    (λ q. name_put (put_name names place dentry) place was q
    ∙ ap (cond (eq_by_cmp place_cmp q place) (Some was)) (name_put names place dentry q)
    ∙ by q (eq_by_cmp place_cmp q place) refl)
  where
    by : (q : Place) (b : Bool) → eq_by_cmp place_cmp q place ≡ b
        → cond b (Some was) (cond b (Some dentry) (get_name names q)) ≡ get_name names q
    by q true e = sym (ap (get_name names) (place_same q place (tied _ e)) ∙ is)
    by q false e = refl
