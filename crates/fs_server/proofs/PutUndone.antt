-- A value that was put at a new key is removed again.
use Rattle.std.proofs.Common.{◌≡◌, ◌≢◌, ℕ, Bool, true, false, not, cond, [], ◌∷◌, nat_eq, Option, Some, None, refl, sym, ap, ◌∙◌, inl, inr}
use Rattle.std.proofs.lemmas.Bool.Decides.{eqb_tells}
use Rattle.std.proofs.lemmas.Option.{none-some}
use Rattle.std.specs.declared.cmp.Ordering.{Ordering}
use Rattle.std.specs.declared.cmp.Ordering.TheVariants.{Less, Equal, Greater}
use Rattle.std.specs.FinMap.Entries.{by_order}
use Rattle.std.specs.Ordering.{nat_cmp, is_eq}
use Rattle.fuse_spec.specs.Values.Maps.{Map, get, put, remove}
use Rattle.fuse_spec.proofs.Tables.{cmp_same}
use Rattle.fuse_tables.proofs.Rows.{absent_is}

pub same_number : (k : ℕ) → nat_eq k k ≡ true
same_number k = elim (eqb_tells k k) [ inl h ↦ h.0 | inr h ↦ absurd (h.1 refl) ]

pub put_undone : {V : Type 0} (m : Map V) (k : ℕ) (v : V) → get m k ≡ None → remove (put m k v) k ≡ m
put_undone [] k v none = rw (same_number k) refl
put_undone {V} (e ∷ m) k v none = by (put_undone m k v) (nat_cmp k e.0) refl none
  where
    first : remove ((k, v) ∷ e ∷ m) k ≡ e ∷ m
    first = rw (same_number k) (absent_is (e ∷ m) k none)

    behind : (get m k ≡ None → remove (put m k v) k ≡ m) → e.0 ≢ k → get m k ≡ None
        → remove (e ∷ put m k v) k ≡ e ∷ m
    behind rest apart absent = elim (eqb_tells e.0 k) [
      | inl h ↦ absurd (apart h.1)
      | inr h ↦ rw h.0 (ap (λ (t : Map V). e ∷ t) (rest absent))
    ]

    by : (get m k ≡ None → remove (put m k v) k ≡ m) → (r : Ordering) → nat_cmp k e.0 ≡ r
        → cond (is_eq r) (Some e.1) (get m k) ≡ None
        → remove (by_order r ((k, v) ∷ e ∷ m) ((e.0, v) ∷ m) (e ∷ put m k v)) k ≡ e ∷ m
    by rest Less at absent = first
    by rest Equal at absent = absurd (none-some e.1 (sym absent))
    by rest Greater at absent = behind rest (λ same.
        let no : Equal ≡ Greater = sym (cmp_same k) ∙ ap (λ (n : ℕ). nat_cmp k n) (sym same) ∙ at in
        cc) absent
