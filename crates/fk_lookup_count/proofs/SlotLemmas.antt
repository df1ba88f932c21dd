-- The nodes in slots: a slot of count 0 is none.
use Rattle.std.proofs.Common.{◌≡◌, ◌≢◌, ℕ, ◌<◌, ◌≤◌, Bool, true, false, cond, not, [], ◌∷◌, length, Option, Some, None, IsSome, is_some, refl, ap, sym, ◌∙◌, arith, rules, nat_eq, T, inl, inr}
use Rattle.std.specs.Prelude.{nat_lt}
use Rattle.std.specs.Option.{unwrap_or}
use Rattle.std.specs.Ordering.{nat_cmp, eq_by_cmp}
use Rattle.std.specs.Cmp.{nat_cmp_total}
use Rattle.std.specs.FinMap.{FinMap, get as slot_of, insert, remove as without, empty, entries, entries_sorted, find, is_sorted, get-entries, get-insert, get-remove, get-empty, gets, nat_cmp-IsAntisymmetric}
use Rattle.std.specs.FinMap.Entries.{find-put, is_sorted-put, is_sorted-where_key, same_entries}
use Rattle.std.proofs.lemmas.Bool.{cases_eq}
use Rattle.std.proofs.lemmas.List.Sums.{length-filter, count_by-le-length}
use Rattle.fuse_spec.specs.Values.Maps.{Map, get, put, remove}
use Rattle.fuse_spec.specs.declared.Counted.{Counted}
use Rattle.fk_lookup_count.specs.Slots.{is_node, nodes_among, nodes_in, written}
use Rattle.fk_lookup_count.proofs.NumberMaps.{ties, both_first, both_second, find-remove, insert_same, none-below, sorted-filter}

abbrev pub Slots : Type 0
Slots = FinMap nat_cmp Counted

-- the node in a slot, if it is one
abbrev pub node_in : Option Counted → Option Counted
node_in None = None
node_in (Some node) = cond (nat_lt 0 node.count) (Some node) None

find-nodes : (rows : Map Counted) → T (is_sorted nat_cmp rows) → (q : ℕ)
    → find nat_cmp q (nodes_among rows) ≡ node_in (find nat_cmp q rows)
find-nodes [] h q = refl
find-nodes (e ∷ es) h q =
    let rest : find nat_cmp q (nodes_among es) ≡ node_in (find nat_cmp q es) = find-nodes es (both_second _ _ h) q in
    elim (eq_by_cmp nat_cmp q e.0) as (λ t. eq_by_cmp nat_cmp q e.0 ≡ t
    → find nat_cmp q (cond (is_node e) (e ∷ nodes_among es) (nodes_among es))
    ≡ node_in (cond t (Some e.1) (find nat_cmp q es))) [
      | true ↦ λ t.
          let same : q ≡ e.0 = tied q e.0 t in
          let none : find nat_cmp q es ≡ None = none-below q e.0 es (omega (arith, same)) (both_first _ _ h) in
          elim (is_node e) as (λ b. find nat_cmp q (cond b (e ∷ nodes_among es) (nodes_among es))
          ≡ cond b (Some e.1) None) [
            | true ↦ ap (λ r. cond r (Some e.1) (find nat_cmp q (nodes_among es))) t
            | false ↦ rest ∙ ap node_in none
          ]
      | false ↦ λ t. elim (is_node e) as (λ b. find nat_cmp q (cond b (e ∷ nodes_among es) (nodes_among es))
          ≡ node_in (find nat_cmp q es)) [
            | true ↦ ap (λ r. cond r (Some e.1) (find nat_cmp q (nodes_among es))) t ∙ rest
            | false ↦ rest
          ]
    ] refl
  where
    tied : (q k : ℕ) → eq_by_cmp nat_cmp q k ≡ true → q ≡ k
    tied q k t = (let same : nat_eq q k ≡ true = sym (ties q k) ∙ t in grind (arith, same, rules))

pub get-nodes : (s : Slots) (q : ℕ) → get (nodes_in s) q ≡ node_in (slot_of s q)
get-nodes s q = find-nodes (entries s) (entries_sorted s) q ∙ ap node_in (sym (get-entries s q))

pub sorted_nodes : (s : Slots) → T (is_sorted nat_cmp (nodes_in s))
sorted_nodes s = sorted-filter is_node (entries s) (entries_sorted s)

-- there are no more nodes than slots
pub fewer_nodes : (s : Slots) → length (nodes_in s) ≤ length (entries s)
fewer_nodes s =
    let all = length-filter is_node (entries s) in
    let some = count_by-le-length is_node (entries s) in
    omega (arith, all, some)

-- maps that answer alike are the same
alike : (s : Slots) (nodes : Map Counted) → T (is_sorted nat_cmp nodes)
    → ((q : ℕ) → node_in (slot_of s q) ≡ get nodes q) → nodes_in s ≡ nodes
alike s nodes h is = same_entries nat_cmp nat_cmp_total nat_cmp-IsAntisymmetric (nodes_in s) nodes (sorted_nodes s) h
    (λ q. get-nodes s q ∙ is q)

-- a write of a node
pub nodes-insert : (s : Slots) (id : ℕ) (node : Counted) → 0 < node.count
    → nodes_in (insert s id node) ≡ put (nodes_in s) id node
nodes-insert s id node some = alike (insert s id node) _
    (is_sorted-put nat_cmp nat_cmp_total id node _ (sorted_nodes s)) (λ q.
    ap node_in (get-insert nat_cmp_total s id node q) ∙ by (eq_by_cmp nat_cmp q id) q ∙ ap
    (cond (eq_by_cmp nat_cmp q id) (Some node)) (sym (get-nodes s q))
    ∙ sym (find-put nat_cmp nat_cmp_total q id node (nodes_in s)))
  where
    here : node_in (Some node) ≡ Some node
    here = grind (arith, some, rules)

    by : (b : Bool) (q : ℕ) → node_in (cond b (Some node) (slot_of s q)) ≡ cond b (Some node) (node_in (slot_of s q))
    by true q = here
    by false q = refl

-- a slot that holds no node changes none
pub nodes-room : (s : Slots) (id : ℕ) (node : Counted) → node.count ≡ 0 → slot_of s id ≡ None
    → nodes_in (insert s id node) ≡ nodes_in s
nodes-room s id node none there = alike (insert s id node) (nodes_in s) (sorted_nodes s)
    (λ q. ap node_in (get-insert nat_cmp_total s id node q) ∙ at q ∙ sym (get-nodes s q))
  where
    room : node_in (Some node) ≡ None
    room = grind (arith, none, rules)

    at : (q : ℕ) → node_in (cond (eq_by_cmp nat_cmp q id) (Some node) (slot_of s q)) ≡ node_in (slot_of s q)
    at q = elim (cases_eq q id) [
      | inl e ↦
          let yes : eq_by_cmp nat_cmp q id ≡ true = grind (arith, gets, e, rules) in
          ap (λ b. node_in (cond b (Some node) (slot_of s q))) yes ∙ room ∙ ap node_in (sym there) ∙ ap
          (λ k. node_in (slot_of s k)) (sym e)
      | inr ne ↦
          let no : eq_by_cmp nat_cmp q id ≡ false = grind (arith, gets, ne, rules) in
          ap (λ b. node_in (cond b (Some node) (slot_of s q))) no
    ]

pub nodes-remove : (s : Slots) (id : ℕ) → nodes_in (without s id) ≡ remove (nodes_in s) id
nodes-remove s id = alike (without s id) _ (is_sorted-where_key nat_cmp (λ x. not (nat_eq x id)) (nodes_in s)
    (sorted_nodes s)) (λ q.
    ap node_in (get-remove nat_cmp_total s id q ∙ ap (λ b. cond b None (slot_of s q)) (ties q id)) ∙ by (nat_eq q id) q
    ∙ ap (cond (nat_eq q id) None) (sym (get-nodes s q)) ∙ sym (find-remove (nodes_in s) id q))
  where
    by : (b : Bool) (q : ℕ) → node_in (cond b None (slot_of s q)) ≡ cond b None (node_in (slot_of s q))
    by true q = refl
    by false q = refl

pub nodes-empty : nodes_in empty ≡ []
nodes-empty = alike empty [] tt (λ q. ap node_in (get-empty nat_cmp q))

-- what the table has at an id, by its slot
pub no_slot : (s : Slots) (id : ℕ) → slot_of s id ≡ None → get (nodes_in s) id ≡ None
no_slot s id is = get-nodes s id ∙ ap node_in is

pub no_node : (s : Slots) (id : ℕ) (slot : Counted) → slot_of s id ≡ Some slot → slot.count ≡ 0
    → get (nodes_in s) id ≡ None
no_node s id slot is none = get-nodes s id ∙ ap node_in is ∙ room slot none
  where
    room : (slot : Counted) → slot.count ≡ 0 → node_in (Some slot) ≡ None
    room slot none = grind (arith, none, rules)

pub node_is : (s : Slots) (id : ℕ) (slot : Counted) → slot_of s id ≡ Some slot → 0 < slot.count
    → get (nodes_in s) id ≡ Some slot
node_is s id slot is some = get-nodes s id ∙ ap node_in is ∙ node slot some
  where
    node : (slot : Counted) → 0 < slot.count → node_in (Some slot) ≡ Some slot
    node slot some = grind (arith, some, rules)

-- room stays through a write, and for other ids through a removal
pub room-insert : (s : Slots) (id : ℕ) (node : Counted) (other : ℕ) → IsSome (slot_of s other)
    → IsSome (slot_of (insert s id node) other)
room-insert s id node other some = ap is_some (get-insert nat_cmp_total s id node other) ∙ by
    (eq_by_cmp nat_cmp other id)
  where
    by : (b : Bool) → is_some (cond b (Some node) (slot_of s other)) ≡ true
    by true = refl
    by false = some

pub room_there : (s : Slots) (id : ℕ) (node : Counted) → IsSome (slot_of (insert s id node) id)
room_there s id node = (let h : slot_of (insert s id node) id ≡ Some node = grind (arith, gets, rules) in ap is_some h)

pub room-remove : (s : Slots) (id other : ℕ) → other ≢ id → IsSome (slot_of s other)
    → IsSome (slot_of (without s id) other)
room-remove s id other apart some = (let h : slot_of (without s id) other
    ≡ slot_of s other = grind (arith, gets, apart, rules) in ap is_some h ∙ some)

-- a slot that is written, or left as it is
pub written_or : (s : Slots) (id : ℕ) (slot : Counted) (o : Option Counted) → slot_of s id ≡ Some slot
    → insert s id (unwrap_or o slot) ≡ written s id o
written_or s id slot None is = insert_same s id slot is
written_or s id slot (Some more) is = refl
