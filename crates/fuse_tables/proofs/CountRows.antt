-- What one more and one less make of the rows of a table from keys to their counts.
use Rattle.std.proofs.Common.{◌≡◌, ℕ, ◌+◌, ◌-◌, ◌<◌, ◌≤◌, Bool, true, false, cond, List, [], ◌∷◌, Option, Some, None, refl, ap, sym, ◌∙◌, arith, rules, nat_eq, unwrap_or}
use Rattle.std.specs.Map.{lookup}
use Rattle.fuse_spec.specs.Values.Maps.{get, put, remove}
use Rattle.fuse_tables.proofs.Live.{ties}
use Rattle.fuse_tables.proofs.Maps.{get-put, get-remove}
use Rattle.fuse_tables.specs.Tallies.{positive, one_less}

abbrev pub Rows : Type 0
Rows = List (ℕ × ℕ)

abbrev pub count_of : Rows → ℕ → Option ℕ
count_of rows key = lookup (nat_eq key) rows

pub found : (rows : Rows) (q : ℕ) → get rows q ≡ count_of rows q
found [] q = refl
found (e ∷ es) q =
    ap (λ b. cond b (Some e.1) (get es q)) (ties q e.0) ∙ ap (cond (nat_eq q e.0) (Some e.1)) (found es q)

found-put : (rows : Rows) (key n q : ℕ)
    → count_of (put rows key n) q ≡ cond (nat_eq key q) (Some n) (count_of rows q)
found-put rows key n q = sym (found (put rows key n) q) ∙ get-put rows key n q
    ∙ ap (cond (nat_eq key q) (Some n)) (found rows q)

found-remove : (rows : Rows) (key q : ℕ) → count_of (remove rows key) q ≡ cond (nat_eq key q) None (count_of rows q)
found-remove rows key q = sym (found (remove rows key) q) ∙ get-remove rows key q
    ∙ ap (cond (nat_eq key q) None) (found rows q)

-- in new rows each key has its count, but for one, which has another
abbrev pub Counts : Rows → Rows → ℕ → Option ℕ → Type 0
Counts rows new key count = (q : ℕ) → count_of new q ≡ cond (nat_eq key q) count (count_of rows q)

module _ (rows : Rows) (key : ℕ) where
  -- a key that has a count
  module _ (n : ℕ) (there : Some n ≡ get rows key) where
    counted : Some n ≡ count_of rows key
    counted = there ∙ found rows key

    pub one_more : Counts rows (put rows key (n + 1)) key (Some (unwrap_or (count_of rows key) 0 + 1))
    one_more q = found-put rows key (n + 1) q
        ∙ ap (λ o. cond (nat_eq key q) (Some (unwrap_or o 0 + 1)) (count_of rows q)) counted

    pub one_fewer : 1 < n → Counts rows (put rows key (n - 1)) key (one_less (count_of rows key))
    one_fewer more q = found-put rows key (n - 1) q
        ∙ ap (λ o. cond (nat_eq key q) o (count_of rows q)) (left ∙ ap one_less counted)
      where
        left : Some (n - 1) ≡ positive (n - 1)
        left = grind (arith, more, rules)

    -- the last count of a key, which was read
    pub none_left : n ≤ 1 → Counts rows (remove (put rows key n) key) key (one_less (count_of rows key))
    none_left last q = found-remove (put rows key n) key q
        ∙ ap (cond (nat_eq key q) None) (found-put rows key n q) ∙ shadowed (nat_eq key q)
        ∙ ap (λ o. cond (nat_eq key q) o (count_of rows q)) (gone ∙ ap one_less counted)
      where
        gone : None ≡ positive (n - 1)
        gone = grind (arith, last, rules)

        shadowed : (b : Bool) → cond b None (cond b (Some n) (count_of rows q)) ≡ cond b None (count_of rows q)
        shadowed true = refl
        shadowed false = refl

  -- a key that has none
  module _ (none : None ≡ get rows key) where
    pub first_count : Counts rows (put rows key 1) key (Some (unwrap_or (count_of rows key) 0 + 1))
    first_count q = found-put rows key 1 q
        ∙ ap (λ o. cond (nat_eq key q) (Some (unwrap_or o 0 + 1)) (count_of rows q)) (none ∙ found rows key)

    pub no_count : Counts rows rows key (one_less (count_of rows key))
    no_count q = kept (nat_eq key q) (count_of rows q) (λ t. ap (count_of rows) (there t) ∙ sym absent)
        ∙ ap (λ o. cond (nat_eq key q) (one_less o) (count_of rows q)) absent
      where
        absent : None ≡ count_of rows key
        absent = none ∙ found rows key

        there : nat_eq key q ≡ true → q ≡ key
        there t = grind (arith, t, rules)

        kept : (b : Bool) (o : Option ℕ) → (b ≡ true → o ≡ None) → o ≡ cond b None o
        kept true o same = same refl
        kept false o same = refl
