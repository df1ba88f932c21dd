-- Directories without names are as good as none.
use Rattle.std.proofs.Common.{◌≡◌, ℕ, Bool, true, false, not, cond, List, [], ◌∷◌, filter, Some, None, refl, sym, ap, ◌∙◌, nat_eq, length, arith}
use Rattle.std.specs.Option.{unwrap_or}
use Rattle.std.specs.Map.{lookup, keys_of}
use Rattle.std.specs.List.{IsDistinct, AllByRecursion}
use Rattle.std.proofs.lemmas.Map.Keys.{IsDistinct-tail, IsDistinct-head}
use Rattle.std.proofs.lemmas.Grind.{common_steps}
use Rattle.fs_tree.specs.Stored.{Entry, entries_in}

pub none_left : (es : List Entry) → nat_eq (length es) 0 ≡ true → es ≡ []
none_left [] empty = refl
none_left (e ∷ es) empty = absurd (grind (arith, common_steps, empty))

absent-key : (key k : ℕ) (rows : List (ℕ × List Entry)) → nat_eq k key ≡ true
    → AllByRecursion (λ y. nat_eq key y ≡ false) (keys_of rows) → lookup (nat_eq k) rows ≡ None
absent-key key k [] same others = refl
absent-key key k (r ∷ rows) same others = let other : nat_eq k r.0 ≡ false =
    grind (arith, common_steps, same, others.0) in rw other (absent-key key k rows same others.1)

abbrev pub has_names : ℕ × List Entry → Bool
has_names r = not (nat_eq (length r.1) 0)

pub entries_in-filter : (rows : List (ℕ × List Entry)) (k : ℕ) → IsDistinct nat_eq (keys_of rows)
    → entries_in (filter has_names rows) k ≡ entries_in rows k
entries_in-filter [] k distinct = refl
entries_in-filter (r ∷ rows) k distinct =
    by (nat_eq (length r.1) 0) (nat_eq k r.0) refl refl
    (entries_in-filter rows k (IsDistinct-tail nat_eq r.0 (keys_of rows) distinct))
    (IsDistinct-head nat_eq r.0 (keys_of rows) distinct)
  where
    by : (b c : Bool) → nat_eq (length r.1) 0 ≡ b → nat_eq k r.0 ≡ c
        → entries_in (filter has_names rows) k ≡ entries_in rows k
        → AllByRecursion (λ y. nat_eq r.0 y ≡ false) (keys_of rows)
        → entries_in (cond (not b) (r ∷ filter has_names rows) (filter has_names rows)) k
        ≡ unwrap_or (cond c (Some r.1) (lookup (nat_eq k) rows)) []
    by true true empty same rest others = rest ∙ ap (λ o. unwrap_or o []) (absent-key r.0 k rows same others) ∙ sym
        (none_left r.1 empty)
    by true false empty other rest others = rest
    by false true empty same rest others = rw same refl
    by false false empty other rest others = rw other rest

same_key : (a b : ℕ) → nat_eq a b ≡ true → a ≡ b
same_key a b e = grind (arith, common_steps, e)

-- an empty directory that goes
pub entries_in-closed : (rows after : List (ℕ × List Entry)) (dir : ℕ) (es : List Entry)
    → Some es ≡ lookup (nat_eq dir) rows → nat_eq (length es) 0 ≡ true
    → ((q : ℕ) → lookup (nat_eq q) after ≡ cond (nat_eq dir q) None (lookup (nat_eq q) rows)) → (k : ℕ)
    → entries_in after k ≡ entries_in rows k
entries_in-closed rows after dir es there empty less k = ap (λ o. unwrap_or o []) (less k) ∙ by (nat_eq dir k) refl
  where
    by : (b : Bool) → nat_eq dir k ≡ b → unwrap_or (cond b None (lookup (nat_eq k) rows)) []
        ≡ unwrap_or (lookup (nat_eq k) rows) []
    by true e = sym (none_left es empty) ∙ ap (λ o. unwrap_or o [])
        (there ∙ ap (λ n. lookup (nat_eq n) rows) (same_key dir k e))
    by false e = refl
