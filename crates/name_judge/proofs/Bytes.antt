-- The bytes of names in a set, as one is put or taken away.
use Rattle.std.proofs.Common.{◌≡◌, ℕ, Bool, true, false, cond, nat_eq, List, refl, sym, ◌∙◌, ap, subst, T, Less, Equal, Greater}
use Rattle.std.specs.Prelude.{Vec}
use Rattle.std.specs.declared.cmp.Ordering.{Ordering}
use Rattle.std.specs.List.{list_any}
use Rattle.std.specs.Set.{KeepsOthers}
use Rattle.std.specs.Ordering.{nat_cmp, is_eq, eq_by_cmp}
use Rattle.std.specs.Cmp.{eq_by_cmp_equiv}
use Rattle.std.specs.Cmp.Lexicographic.{slice_cmp, pointwise}
use Rattle.std.proofs.lemmas.Cmp.{nat_list_cmp_total}
use Rattle.std.proofs.lemmas.Map.Lookups.{exact_bytes}
use Rattle.std.proofs.lemmas.Map.Text.{is_eq-slice_cmp}

tied : (r : Ordering) → is_eq r ≡ true → r ≡ Equal
tied Less e = absurd (subst T (sym e) tt)
tied Equal e = refl
tied Greater e = absurd (subst T (sym e) tt)

-- bytes that tie are the same
pub same_bytes : (x y : List ℕ) → eq_by_cmp (slice_cmp nat_cmp) x y ≡ true → x ≡ y
same_bytes x y e = exact_bytes x y (tied (slice_cmp nat_cmp x y) e)

module _ {A : Type 0} where
  -- the key has these bytes
  abbrev pub is_of : List ℕ → Vec ℕ A → Bool
  is_of bytes key = eq_by_cmp (slice_cmp nat_cmp) bytes key.items

  -- what is there of any bytes, where only some changed
  pub changed : (old new : List (Vec ℕ A)) (bytes : List ℕ) (b : Bool) → list_any (is_of bytes) new ≡ b
      → KeepsOthers (λ (x y : Vec ℕ A). is_of x.items y) (is_of bytes) old new → (bs : List ℕ)
      → list_any (is_of bs) new ≡ cond (pointwise nat_eq bytes bs) b (list_any (is_of bs) old)
  unfolding KeepsOthers
  changed old new bytes b now others bs =
      by (eq_by_cmp (slice_cmp nat_cmp) bytes bs) refl
      ∙ ap (λ t. cond t b (list_any (is_of bs) old)) (is_eq-slice_cmp bytes bs)
    where
      by : (t : Bool) → eq_by_cmp (slice_cmp nat_cmp) bytes bs ≡ t
          → list_any (is_of bs) new ≡ cond (eq_by_cmp (slice_cmp nat_cmp) bytes bs) b (list_any (is_of bs) old)
      by true e =
          rw e (ap (λ (x : List ℕ). list_any (is_of x) new) (sym (same_bytes bytes bs e)) ∙ now)
      by false e =
          rw e (others (is_of bs)
          (λ x y h. (eq_by_cmp_equiv nat_list_cmp_total).congr bs x.items y.items h)
          (λ k h. (eq_by_cmp_equiv nat_list_cmp_total).symm bs k.items
          ∙ ap (λ (x : List ℕ). eq_by_cmp (slice_cmp nat_cmp) x bs) (sym (same_bytes bytes k.items h)) ∙ e))
