-- The names that are bound, among those that have room.
use Rattle.std.proofs.Common.{◌≡◌, ◌≢◌, ℕ, ◌+◌, Bool, true, false, not, cond, ◌||◌, List, [], ◌∷◌, Option, Some, None, IsSome, is_some, refl, sym, ap, subst, ◌∙◌, arith, rules, nat_eq, T, Less, Equal, Greater, inl, inr}
use Rattle.std.specs.Prelude.{nat_lt}
use Rattle.std.specs.Ordering.{is_eq, eq_by_cmp}
use Rattle.std.specs.declared.cmp.Ordering.{Ordering}
use Rattle.std.specs.FinMap.{is_sorted}
use Rattle.std.specs.FinMap.Entries.{below_all, is_sorted-put, is_sorted-where_key, find-put, find-where_key, same_entries}
use Rattle.std.specs.Cmp.{tied_itself}
use Rattle.std.proofs.lemmas.Bool.{cases_eq, ltb-true, ltb-false, lt-ltb}
use Rattle.std.proofs.lemmas.List.Sums.{sum_by-cons}
use Rattle.fuse_spec.specs.declared.Dentry.{Dentry}
use Rattle.fuse_spec.specs.Kernel.Kernel.{leads_to}
use Rattle.fuse_spec.specs.Values.Maps.{Place, NameMap, place_cmp, get_name, put_name, remove_name}
use Rattle.fk_dentry.specs.Named.{times, named, nodes_of_name, uses}
use Rattle.fk_dentry.specs.CachedNames.{names_the_node}
use Rattle.fk_dentry.specs.Rows.{bound_names, bound_in}
use Rattle.fuse_spec.proofs.Tables.{place_total}
use Rattle.fk_dentry.proofs.PlaceOrder.{place_same, apart_places}
use Rattle.fk_dentry.proofs.NamedIds.{times_cons}
use Rattle.fk_dentry.proofs.SortedEntries.{both, both_first, both_second, tied_all, none_below}

abbrev pub Slots : Type 0
Slots = NameMap (Option Dentry)

below-names : (x : Place) (slots : Slots) → T (below_all place_cmp x slots) → T (below_all place_cmp x (bound_names slots))
below-names x [] h = tt
below-names x ((place, None) ∷ slots) h = below-names x slots (both_second _ _ h)
below-names x ((place, Some dentry) ∷ slots) h = both _ _ (both_first _ _ h) (below-names x slots (both_second _ _ h))

pub sorted_names : (slots : Slots) → T (is_sorted place_cmp slots) → T (is_sorted place_cmp (bound_names slots))
sorted_names [] h = tt
sorted_names ((place, None) ∷ slots) h = sorted_names slots (both_second _ _ h)
sorted_names ((place, Some dentry) ∷ slots) h =
    both _ _ (below-names place slots (both_first _ _ h)) (sorted_names slots (both_second _ _ h))

equal : (r : Ordering) → is_eq r ≡ true → r ≡ Equal
equal Less e = absurd (subst T (sym e) tt)
equal Equal e = refl
equal Greater e = absurd (subst T (sym e) tt)

pub get-names : (slots : Slots) → T (is_sorted place_cmp slots) → (q : Place)
    → get_name (bound_names slots) q ≡ bound_in (get_name slots q)
get-names [] h q = refl
get-names ((place, None) ∷ slots) h q =
    elim (eq_by_cmp place_cmp q place) as (λ t. eq_by_cmp place_cmp q place ≡ t
    → get_name (bound_names slots) q ≡ bound_in (cond t (Some None) (get_name slots q))) [
      | true ↦ λ t. get-names slots (both_second _ _ h) q ∙ ap bound_in
          (none_below place_cmp place_total q slots (tied_all place_cmp place_total q place slots (equal _ t)
          (both_first _ _ h)))
      | false ↦ λ t. get-names slots (both_second _ _ h) q
    ] refl
get-names ((place, Some dentry) ∷ slots) h q =
    elim (eq_by_cmp place_cmp q place) as (λ t. cond t (Some dentry) (get_name (bound_names slots) q)
    ≡ bound_in (cond t (Some (Some dentry)) (get_name slots q))) [
      | true ↦ refl
      | false ↦ get-names slots (both_second _ _ h) q
    ]

pub alike : (slots : Slots) (names : NameMap Dentry) → T (is_sorted place_cmp slots) → T (is_sorted place_cmp names)
    → ((q : Place) → bound_in (get_name slots q) ≡ get_name names q) → bound_names slots ≡ names
alike slots names h g is = same_entries place_cmp place_total place_same (bound_names slots) names
    (sorted_names slots h) g (λ q. get-names slots h q ∙ is q)

pub sorted-put : (slots : Slots) (place : Place) (slot : Option Dentry) → T (is_sorted place_cmp slots)
    → T (is_sorted place_cmp (put_name slots place slot))
sorted-put slots place slot h = is_sorted-put place_cmp place_total place slot slots h

pub sorted-remove : (slots : Slots) (place : Place) → T (is_sorted place_cmp slots)
    → T (is_sorted place_cmp (remove_name slots place))
sorted-remove slots place h = is_sorted-where_key place_cmp (λ other. not (eq_by_cmp place_cmp place other)) slots h

-- a name is bound
pub names-put : (slots : Slots) (place : Place) (dentry : Dentry) → T (is_sorted place_cmp slots)
    → bound_names (put_name slots place (Some dentry)) ≡ put_name (bound_names slots) place dentry
names-put slots place dentry h = alike _ _ (sorted-put slots place (Some dentry) h)
    (is_sorted-put place_cmp place_total place dentry (bound_names slots) (sorted_names slots h)) (λ q.
    ap bound_in (find-put place_cmp place_total q place (Some dentry) slots) ∙ by (eq_by_cmp place_cmp q place) q ∙ ap
    (cond (eq_by_cmp place_cmp q place) (Some dentry)) (sym (get-names slots h q))
    ∙ sym (find-put place_cmp place_total q place dentry (bound_names slots)))
  where
    by : (b : Bool) (q : Place) → bound_in (cond b (Some (Some dentry)) (get_name slots q))
        ≡ cond b (Some dentry) (bound_in (get_name slots q))
    by true q = refl
    by false q = refl

-- a name gets room
pub names-room : (slots : Slots) (place : Place) → T (is_sorted place_cmp slots) → get_name slots place ≡ None
    → bound_names (put_name slots place None) ≡ bound_names slots
names-room slots place h none = alike _ _ (sorted-put slots place None h) (sorted_names slots h) (λ q.
    ap bound_in (find-put place_cmp place_total q place None slots) ∙ at q (eq_by_cmp place_cmp q place) refl ∙ sym
    (get-names slots h q))
  where
    at : (q : Place) (b : Bool) → eq_by_cmp place_cmp q place ≡ b
        → bound_in (cond b (Some None) (get_name slots q)) ≡ bound_in (get_name slots q)
    at q true t = sym (ap bound_in (ap (get_name slots) (place_same q place (equal _ t)) ∙ none))
    at q false t = refl

-- a name is removed
pub names-remove : (slots : Slots) (place : Place)
    → bound_names (remove_name slots place) ≡ remove_name (bound_names slots) place
names-remove [] place = refl
names-remove ((key, None) ∷ slots) place =
    elim (eq_by_cmp place_cmp place key) as (λ b. bound_names
    (cond (not b) ((key, None) ∷ remove_name slots place) (remove_name slots place))
    ≡ remove_name (bound_names slots) place) [
      | true ↦ names-remove slots place
      | false ↦ names-remove slots place
    ]
names-remove ((key, Some dentry) ∷ slots) place =
    elim (eq_by_cmp place_cmp place key) as (λ b. bound_names
    (cond (not b) ((key, Some dentry) ∷ remove_name slots place) (remove_name slots place))
    ≡ cond (not b) ((key, dentry) ∷ remove_name (bound_names slots) place) (remove_name (bound_names slots) place)) [
      | true ↦ names-remove slots place
      | false ↦ ap (λ names. (key, dentry) ∷ names) (names-remove slots place)
    ]

-- ---- room

pub room-put : (slots : Slots) (place : Place) (slot : Option Dentry) (other : Place) → IsSome (get_name slots other)
    → IsSome (get_name (put_name slots place slot) other)
room-put slots place slot other some = ap is_some (find-put place_cmp place_total other place slot slots) ∙ by
    (eq_by_cmp place_cmp other place)
  where
    by : (b : Bool) → is_some (cond b (Some slot) (get_name slots other)) ≡ true
    by true = refl
    by false = some

pub room_there : (slots : Slots) (place : Place) (slot : Option Dentry)
    → IsSome (get_name (put_name slots place slot) place)
room_there slots place slot = ap is_some (find-put place_cmp place_total place place slot slots) ∙ by
    (eq_by_cmp place_cmp place place) refl
  where
    by : (b : Bool) → eq_by_cmp place_cmp place place ≡ b → is_some (cond b (Some slot) (get_name slots place)) ≡ true
    by true t = refl
    by false t = absurd (subst T (sym (ap is_eq (tied_itself place_total place)) ∙ t) tt)

pub room-remove : (slots : Slots) (place other : Place) → other ≢ place → IsSome (get_name slots other)
    → IsSome (get_name (remove_name slots place) other)
room-remove slots place other ne some =
    ap is_some (find-where_key place_cmp (λ p. not (eq_by_cmp place_cmp place p)) other
    (λ p t. ap (λ x. not (eq_by_cmp place_cmp place x)) (sym (place_same other p t))) slots
    ∙ ap (λ b. cond (not b) (get_name slots other) None) (apart_places place other (λ e. ne (sym e)))) ∙ some

-- ---- the nodes that the names name

not_less : (n : ℕ) → n ≡ 0 → nat_lt 0 n ≡ false
not_less n e = ap (nat_lt 0) e

more_or : (a b : ℕ) → nat_lt 0 (a + b) ≡ (nat_lt 0 a || nat_lt 0 b)
more_or a b = by (nat_lt 0 a) refl (nat_lt 0 b) refl
  where
    by : (x : Bool) → nat_lt 0 a ≡ x → (y : Bool) → nat_lt 0 b ≡ y → nat_lt 0 (a + b) ≡ (x || y)
    by true e y f = (let p = ltb-true 0 a e in lt-ltb 0 (a + b) (omega arith))
    by false e true f = (let p = ltb-true 0 b f in lt-ltb 0 (a + b) (omega arith))
    by false e false f = (let p = ltb-false 0 a e in let q = ltb-false 0 b f in not_less (a + b) (omega arith))

one_is : (id x : ℕ) → nat_lt 0 (cond (nat_eq id x) 1 0) ≡ nat_eq x id
one_is id x = elim (cases_eq id x) [
  | inl s ↦ grind (arith, s, rules)
  | inr ne ↦ grind (arith, ne, rules)
]

or_false : (b : Bool) → (b || false) ≡ b
or_false true = refl
or_false false = refl

first_or : (id x : ℕ) (ids : List ℕ) → nat_lt 0 (times id (x ∷ ids)) ≡ (nat_eq x id || nat_lt 0 (times id ids))
first_or id x ids = ap (nat_lt 0) (times_cons id x ids) ∙ more_or (cond (nat_eq id x) 1 0) (times id ids) ∙ ap
    (λ b. b || nat_lt 0 (times id ids)) (one_is id x)

pub named_or : (id directory : ℕ) (target : Option ℕ)
    → nat_lt 0 (times id (named directory target)) ≡ (nat_eq directory id || leads_to id target)
named_or id directory None = first_or id directory []
named_or id directory (Some target) = first_or id directory (target ∷ []) ∙ ap (λ b. nat_eq directory id || b)
    (first_or id target [] ∙ or_false (nat_eq target id))

pub named_is : (id : ℕ) (slots : Slots) → nat_lt 0 (uses id slots) ≡ names_the_node id (bound_names slots)
named_is id [] = refl
named_is id ((place, None) ∷ slots) =
    let zero_add : 0 + uses id slots ≡ uses id slots = omega arith in
    ap (nat_lt 0) (sum_by-cons (λ slot. times id (nodes_of_name slot)) (place, None) slots ∙ zero_add) ∙ named_is id slots
named_is id ((place, Some dentry) ∷ slots) =
    ap (nat_lt 0) (sum_by-cons (λ slot. times id (nodes_of_name slot)) (place, Some dentry) slots) ∙ more_or
    (times id (named place.0 dentry.target)) (uses id slots)
    ∙ ap (λ b. b || nat_lt 0 (uses id slots)) (named_or id place.0 dentry.target) ∙ ap
    (λ b. (nat_eq place.0 id || leads_to id dentry.target) || b) (named_is id slots)
