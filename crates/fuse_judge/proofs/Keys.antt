-- What is true of each key of a table, as one key is written.
use Rattle.std.proofs.Common.{◌≡◌, ◌≢◌, ℕ, Bool, true, false, ◌||◌, ◌&&◌, Option, Some, None, refl, sym, subst, arith, rules, nat_eq, inl, inr}
use Rattle.std.proofs.lemmas.Bool.{cases_eq}
use Rattle.fuse_spec.specs.Values.Maps.{Map, get, put, remove}
use Rattle.fuse_spec.proofs.Tables.{get_put_here, get_put_there}
use Rattle.fuse_tables.proofs.Maps.{get-remove}

pub same : (k : ℕ) → nat_eq k k ≡ true
same k = grind (arith, rules)

pub differ : (k q : ℕ) → k ≢ q → nat_eq k q ≡ false
differ k q ne = grind (arith, rules)

pub or_false : (b : Bool) → (b || false) ≡ b
or_false true = refl
or_false false = refl

pub or_true : (b : Bool) → (b || true) ≡ true
or_true true = refl
or_true false = refl

pub and_true : (b : Bool) → (b && true) ≡ b
and_true true = refl
and_true false = refl

pub and_false : (b : Bool) → (b && false) ≡ false
and_false true = refl
and_false false = refl

module _ {X : Type 0} (P : ℕ → Option X → Type 0) (rows : Map X) (key : ℕ) where
  -- what is true of a row that is put, and of each other, is true of all
  pub all_after_put : (x : X) → P key (Some x) → ((q : ℕ) → key ≢ q → P q (get rows q))
      → (q : ℕ) → P q (get (put rows key x) q)
  all_after_put x here there q = elim (cases_eq key q) [
    | inl e ↦ subst (λ k. P k (get (put rows key x) k)) e (rw (get_put_here rows key x) here)
    | inr ne ↦ rw (get_put_there rows key x q (λ e. ne (sym e))) (there q ne)
  ]

  -- the same where a row is taken out
  pub all_after_remove : P key None → ((q : ℕ) → key ≢ q → P q (get rows q)) → (q : ℕ) → P q (get (remove rows key) q)
  all_after_remove here there q = elim (cases_eq key q) [
    | inl e ↦ subst (λ k. P k (get (remove rows key) k)) e (rw (get-remove rows key key, same key) here)
    | inr ne ↦ rw (get-remove rows key q, differ key q ne) (there q ne)
  ]
