-- What opening and closing a file makes of the counts.
use Rattle.std.proofs.Common.{◌≡◌, ◌≢◌, ℕ, ◌+◌, ◌<◌, ◌≤◌, ◌^◌, Bool, true, false, cond, not, ◌&&◌, ◌||◌, List, [], ◌∷◌, Some, None, is_some, length, refl, ap, sym, ◌∙◌, arith, rules, nat_eq, nat_lt, inl, inr, unwrap_or, T, Less, Equal, Greater}
use Rattle.std.specs.List.{list_any}
use Rattle.std.specs.Map.{lookup}
use Rattle.std.specs.declared.cmp.Ordering.{Ordering}
use Rattle.std.specs.Ordering.{nat_cmp, is_eq}
use Rattle.std.specs.Cmp.{ranked}
use Rattle.std.specs.FinMap.{is_sorted}
use Rattle.std.specs.FinMap.Entries.{by_order}
use Rattle.std.proofs.lemmas.Bool.{cases_eq}
use Rattle.std.proofs.lemmas.Option.{none-some, same_Some}
use Rattle.fuse_spec.specs.declared.Opened.{Opened}
use Rattle.fuse_spec.specs.Values.Maps.{Map, get, put, remove, values}
use Rattle.fuse_tables.proofs.Rows.{absent_is, none_past_first}
use Rattle.fuse_tables.specs.Tallies.{one_less}
use Rattle.fk_opens.specs.Pins.{HavePins}
use Rattle.fk_opens.specs.Uses.{one_of, uses_of}
use Rattle.fk_opens.proofs.Pins.{few_pins, is_pinned_is, pinned, unpinned}

-- one more of a node, under a number that had none
uses-put : (node : ℕ) (es : Map Opened) (key : ℕ) (opened : Opened) → get es key ≡ None
    → uses_of (put es key opened) node ≡ uses_of es node + one_of node opened
uses-put node [] key opened none = omega arith
uses-put node (e ∷ es) key opened none = by (nat_cmp key e.0) none (uses-put node es key opened)
  where
    by : (r : Ordering) → cond (is_eq r) (Some e.1) (get es key) ≡ None
        → (get es key ≡ None → uses_of (put es key opened) node ≡ uses_of es node + one_of node opened)
        → uses_of (by_order r ((key, opened) ∷ e ∷ es) ((e.0, opened) ∷ es) (e ∷ put es key opened)) node
        ≡ one_of node e.1 + uses_of es node + one_of node opened
    by Less n rest = omega arith
    by Equal n rest = absurd (none-some e.1 (sym n))
    by Greater n rest = let more = rest n in omega arith

tail_sorted : (a b : Bool) → T (a && b) → T b
tail_sorted true b h = h
tail_sorted false b h = absurd h

-- one fewer, where the number had a file
uses-remove : (node : ℕ) (es : Map Opened) (key : ℕ) (opened : Opened) → T (is_sorted nat_cmp es)
    → get es key ≡ Some opened → uses_of (remove es key) node + one_of node opened ≡ uses_of es node
uses-remove node [] key opened sorted there = absurd (none-some opened there)
uses-remove node (e ∷ es) key opened sorted there =
    elim (cases_eq e.0 key) [
      | inl same ↦
          let one : opened ≡ e.1 = sym (here same) in
          let gone : remove es key ≡ es = absent_is es key (none_past_first e es key sorted same) in
          let out : remove (e ∷ es) key ≡ es = ap (λ (b : Bool). cond b (e ∷ remove es key) (remove es key)) (dropped same) ∙ gone in
          let kept : one_of node opened ≡ one_of node e.1 = ap (one_of node) one in
          let left : uses_of (remove (e ∷ es) key) node ≡ uses_of es node = ap (λ (m : Map Opened). uses_of m node) out in
          omega (arith, kept, left)
      | inr other ↦
          let found : get es key ≡ Some opened = later other in
          let rest = uses-remove node es key opened (tail_sorted _ _ sorted) found in
          let left : uses_of (remove (e ∷ es) key) node ≡ one_of node e.1 + uses_of (remove es key) node =
          ap (λ (b : Bool). uses_of (cond b (e ∷ remove es key) (remove es key)) node) (kept_first other) in
          omega (arith, rest, left)
    ]
  where
    here : e.0 ≡ key → e.1 ≡ opened
    here same = same_Some _ _ (sym (ap (λ (b : Bool). cond b (Some e.1) (get es key)) (tied same)) ∙ there)
      where
        tied : e.0 ≡ key → is_eq (nat_cmp key e.0) ≡ true
        tied same = grind (arith, same, rules)

    later : e.0 ≢ key → get es key ≡ Some opened
    later other = sym (ap (λ (b : Bool). cond b (Some e.1) (get es key)) (untied other)) ∙ there
      where
        untied : e.0 ≢ key → is_eq (nat_cmp key e.0) ≡ false
        untied other = by (nat_cmp key e.0) refl
          where
            by : (r : Ordering) → nat_cmp key e.0 ≡ r → is_eq r ≡ false
            by Less q = refl
            by Equal q = absurd (other (sym (ranked key e.0 Equal (sym q))))
            by Greater q = refl

    dropped : e.0 ≡ key → not (nat_eq e.0 key) ≡ false
    dropped same = grind (arith, same, rules)

    kept_first : e.0 ≢ key → not (nat_eq e.0 key) ≡ true
    kept_first other = grind (arith, other, rules)

-- a node has no more open files than there are
uses_most : (node : ℕ) (es : Map Opened) → uses_of es node ≤ length es
uses_most node [] = omega arith
uses_most node (e ∷ es) = let rest = uses_most node es in let one = one_most (nat_eq e.1.nodeid node) in omega arith
  where
    one_most : (b : Bool) → cond b 1 0 ≤ 1
    one_most true = omega arith
    one_most false = omega arith

module _ (opens : Map Opened) {counts : List (ℕ × ℕ)} (have : HavePins counts (uses_of opens)) where
  pub few_uses : (node : ℕ) → length opens < 2 ^ 63 → unwrap_or (lookup (nat_eq node) counts) 0 + 1 < 2 ^ 64
  few_uses node few = few_pins have node (omega (arith, uses_most node opens, few))

  pub opened_more : (more : List (ℕ × ℕ)) (key : ℕ) (opened : Opened) → get opens key ≡ None
      → ((q : ℕ) → lookup (nat_eq q) more
      ≡ cond (nat_eq opened.nodeid q) (Some (unwrap_or (lookup (nat_eq opened.nodeid) counts) 0 + 1))
      (lookup (nat_eq q) counts)) → HavePins more (uses_of (put opens key opened))
  opened_more more key opened none counted =
      pinned have more opened.nodeid (uses_of (put opens key opened)) counted (λ q. uses-put q opens key opened none)

  pub closed_one : (fewer : List (ℕ × ℕ)) (key : ℕ) (opened : Opened) → T (is_sorted nat_cmp opens)
      → get opens key ≡ Some opened
      → ((q : ℕ) → lookup (nat_eq q) fewer
      ≡ cond (nat_eq opened.nodeid q) (one_less (lookup (nat_eq opened.nodeid) counts)) (lookup (nat_eq q) counts))
      → HavePins fewer (uses_of (remove opens key))
  closed_one fewer key opened sorted there counted =
      unpinned have fewer opened.nodeid (uses_of (remove opens key)) counted
      (λ q. uses-remove q opens key opened sorted there)

  -- a node has a pin exactly where some open file is of it
  pub is_open_is : (answer : Bool) (node : ℕ) → answer ≡ is_some (lookup (nat_eq node) counts)
      → answer ≡ list_any (λ (opened : Opened). nat_eq opened.nodeid node) (values opens)
  is_open_is answer node is = is ∙ is_pinned_is have node ∙ any opens
    where
      any : (es : Map Opened) → nat_lt 0 (uses_of es node)
          ≡ list_any (λ (opened : Opened). nat_eq opened.nodeid node) (values es)
      any [] = refl
      any (e ∷ es) = by (nat_eq e.1.nodeid node) (any es)
        where
          by : (b : Bool)
              → nat_lt 0 (uses_of es node) ≡ list_any (λ (opened : Opened). nat_eq opened.nodeid node) (values es)
              → nat_lt 0 (cond b 1 0 + uses_of es node)
              ≡ (b || list_any (λ (opened : Opened). nat_eq opened.nodeid node) (values es))
          by true rest = some (1 + uses_of es node) (omega arith)
            where
              some : (n : ℕ) → 0 < n → nat_lt 0 n ≡ true
              some n h = grind (arith, h, rules)
          by false rest = ap (λ n. nat_lt 0 n) (omega arith) ∙ rest
