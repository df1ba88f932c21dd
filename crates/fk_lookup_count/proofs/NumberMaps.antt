-- Maps from numbers, as their entries in rising key and as finite maps.
use Rattle.std.proofs.Common.{◌≡◌, ℕ, ◌≤◌, ◌<◌, Bool, true, false, cond, not, ◌&&◌, [], ◌∷◌, filter, Option, Some, None, refl, ap, sym, ◌∙◌, arith, rules, nat_eq, inl, inr, T, ◌==◌, Less, Equal, Greater}
use Rattle.std.specs.Prelude.{nat_lt}
use Rattle.std.specs.Ordering.{nat_cmp, eq_by_cmp, is_lt}
use Rattle.std.specs.Cmp.{nat_cmp_total, nat_cmp_is}
use Rattle.std.specs.FinMap.{FinMap, get, insert, remove as without, entries, entries_sorted, find, is_sorted, from_entries, get-from_entries, get-insert, get-remove, get-entries, same_map, gets, nat_cmp-IsAntisymmetric}
use Rattle.std.specs.FinMap.Entries.{below_all, find-put, find-where_key, same_entries}
use Rattle.std.proofs.lemmas.Bool.{cases_eq, ltb-true}
use Rattle.fuse_spec.specs.Values.Maps.{Map, put, remove}

-- the order of numbers ties exactly where they are equal
pub ties : (q k : ℕ) → eq_by_cmp nat_cmp q k ≡ nat_eq q k
ties q k = elim (cases_eq q k) [
  | inl e ↦ grind (arith, gets, rules)
  | inr ne ↦ grind (arith, gets, rules)
]

not_cond : {A : Type 0} (b : Bool) (x : Option A) → cond (not b) x None ≡ cond b None x
not_cond true x = refl
not_cond false x = refl

pub both_first : (a b : Bool) → T (a && b) → T a
both_first true b h = tt
both_first false b h = absurd h

pub both_second : (a b : Bool) → T (a && b) → T b
both_second true b h = h
both_second false b h = absurd h

pub both : (a b : Bool) → T a → T b → T (a && b)
both true b g h = h
both false b g h = g

pub less_lower : (x y : ℕ) → T (is_lt (nat_cmp x y)) → x < y
less_lower x y h = ltb-true x y (by (nat_lt x y) (x == y) h)
  where
    by : (lower same : Bool) → T (is_lt (cond lower Less (cond same Equal Greater))) → lower ≡ true
    by true same h = refl
    by false true h = absurd h
    by false false h = absurd h

module _ {X : Type 0} where
  abbrev pub map_of : Map X → FinMap nat_cmp X
  map_of es = from_entries {R = nat_cmp} es

  pub get-map_of : (es : Map X) (q : ℕ) → get (map_of es) q ≡ find nat_cmp q es
  get-map_of es q = get-from_entries nat_cmp_total es q

  pub find-remove : (es : Map X) (k q : ℕ) → find nat_cmp q (remove es k) ≡ cond (nat_eq q k) None (find nat_cmp q es)
  find-remove es k q =
      find-where_key nat_cmp (λ x. not (nat_eq x k)) q
      (λ x t. ap (λ y. not (nat_eq y k)) (sym (nat_cmp-IsAntisymmetric q x t))) es
      ∙ not_cond (nat_eq q k) (find nat_cmp q es)

  pub same_as : (es : Map X) (m : FinMap nat_cmp X) → ((q : ℕ) → find nat_cmp q es ≡ get m q) → map_of es ≡ m
  same_as es m is = same_map nat_cmp_total nat_cmp-IsAntisymmetric _ _ (λ q. get-map_of es q ∙ is q)

  -- entries among which a key got a value
  pub map_of-put : (es : Map X) (k : ℕ) (v : X) → map_of (put es k v) ≡ insert (map_of es) k v
  map_of-put es k v = same_as _ _ (λ q.
      find-put nat_cmp nat_cmp_total q k v es ∙ ap (cond (eq_by_cmp nat_cmp q k) (Some v)) (sym (get-map_of es q))
      ∙ sym (get-insert nat_cmp_total (map_of es) k v q))

  -- entries without a key's
  pub map_of-remove : (es : Map X) (k : ℕ) → map_of (remove es k) ≡ without (map_of es) k
  map_of-remove es k = same_as _ _ (λ q.
      find-remove es k q ∙ ap (λ b. cond b None (find nat_cmp q es)) (sym (ties q k))
      ∙ ap (cond (eq_by_cmp nat_cmp q k) None) (sym (get-map_of es q)) ∙ sym (get-remove nat_cmp_total (map_of es) k q))

  -- a map in which a key gets the value that it has
  pub insert_same : (m : FinMap nat_cmp X) (k : ℕ) (v : X) → get m k ≡ Some v → insert m k v ≡ m
  insert_same m k v there = same_map nat_cmp_total nat_cmp-IsAntisymmetric _ _ at
    where
      at : (q : ℕ) → get (insert m k v) q ≡ get m q
      at q = elim (cases_eq q k) [
        | inl e ↦ grind (arith, gets, e, there, rules)
        | inr ne ↦ grind (arith, gets, ne, rules)
      ]

  -- a map has the entries of which it was made, where their keys rise
  pub entries-map_of : (es : Map X) → T (is_sorted nat_cmp es) → entries (map_of es) ≡ es
  entries-map_of es h =
      same_entries nat_cmp nat_cmp_total nat_cmp-IsAntisymmetric (entries (map_of es)) es (entries_sorted (map_of es)) h
      (λ q. sym (get-entries (map_of es) q) ∙ get-map_of es q)

  pub none-below : (q x : ℕ) (es : Map X) → q ≤ x → T (below_all nat_cmp x es) → find nat_cmp q es ≡ None
  none-below q x [] le h = refl
  none-below q x (e ∷ es) le h =
      let lower = less_lower x e.0 (both_first _ _ h) in
      rw (← nat_cmp_is q e.0 Less (omega arith)) (none-below q x es le (both_second _ _ h))

  module _ (p : ℕ × X → Bool) where
    below-filter : (x : ℕ) (es : Map X) → T (below_all nat_cmp x es) → T (below_all nat_cmp x (filter p es))
    below-filter x [] h = tt
    below-filter x (e ∷ es) h =
        let rest = below-filter x es (both_second _ _ h) in
        elim (p e) as (λ b. T (below_all nat_cmp x (cond b (e ∷ filter p es) (filter p es)))) [
          | true ↦ both _ _
              (both_first _ _ h) rest
          | false ↦ rest
        ]

    pub sorted-filter : (es : Map X) → T (is_sorted nat_cmp es) → T (is_sorted nat_cmp (filter p es))
    sorted-filter [] h = tt
    sorted-filter (e ∷ es) h =
        let rest = sorted-filter es (both_second _ _ h) in
        elim (p e) as (λ b. T (is_sorted nat_cmp (cond b (e ∷ filter p es) (filter p es)))) [
          | true ↦ both _ _
              (below-filter e.0 es (both_first _ _ h)) rest
          | false ↦ rest
        ]
