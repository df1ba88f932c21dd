-- Slots, read as the nodes in rising nodeid.
use Rattle.std.proofs.Common.{◌≡◌, ◌≢◌, ℕ, ◌+◌, ◌-◌, ◌<◌, ◌≤◌, ◌^◌, Bool, true, false, true≢false, is_some, cond, ◌&&◌, List, [], ◌∷◌, Option, Some, None, IsSome, refl, ap, sym, ◌∙◌, subst, arith, rules, nat_eq, nat_le, min, inl, inr, suc, T}
use Rattle.std.specs.Option.{option_map}
use Rattle.std.specs.declared.cmp.Ordering.TheVariants.{Less}
use Rattle.std.specs.List.{list_any}
use Rattle.slab.specs.Slab.{entries_from}
use Rattle.std.specs.Ordering.{nat_cmp, is_lt}
use Rattle.std.specs.Cmp.{nat_cmp_is}
use Rattle.std.specs.FinMap.{is_sorted}
use Rattle.std.specs.FinMap.Entries.{below_all}
use Rattle.std.proofs.lemmas.Bool.{cases_eq, eq-eqb, eqb-true}
use Rattle.std.proofs.lemmas.Option.{none-some, same_Some}
use Rattle.fuse_spec.specs.Values.Maps.{get, put, remove, values}
use Rattle.fuse_spec.specs.Server.Nodes.{HeldNode}
use Rattle.fuse_spec.specs.declared.NodeCount.{NodeCount}
use Rattle.fuse_spec.proofs.Tables.{cmp_same, tie_no}
use Rattle.fs_nodes.specs.declared.stored_node.StoredNode.{StoredNode}
use Rattle.fs_nodes.specs.Rows.{node_of, IsOf, IsOfNone, listed_nodes}
use Rattle.fs_nodes.specs.Slots.{rows_from, at_place, slot_file, slot_of, room_of, AreSmall}
use Rattle.fs_nodes.specs.Inverse.{AreInverse}
use Rattle.fuse_tables.proofs.Maps.{HasValue, any_is, is_put, is_remove}

both : (a b : Bool) → T a → T b → T (a && b)
both true b p q = q
both false b p q = p

above : (x k : ℕ) (slots : List (Option StoredNode)) → x < k → T (below_all nat_cmp x (rows_from k slots))
above x k [] lt = tt
above x k (None ∷ rest) lt = above x (k + 1) rest (omega arith)
above x k (Some kept ∷ rest) lt = both _ _ (subst (λ r. T (is_lt r)) (nat_cmp_is x k Less (omega arith)) tt)
    (above x (k + 1) rest (omega arith))

-- the nodeids rise
pub sorted_rows_from : (k : ℕ) (slots : List (Option StoredNode)) → T (is_sorted nat_cmp (rows_from k slots))
sorted_rows_from k [] = tt
sorted_rows_from k (None ∷ rest) = sorted_rows_from (k + 1) rest
sorted_rows_from k (Some kept ∷ rest) = both _ _ (above k (k + 1) rest (omega arith)) (sorted_rows_from (k + 1) rest)

-- below the first nodeid there is nothing
below : (k q : ℕ) (slots : List (Option StoredNode)) → q < k → get (rows_from k slots) q ≡ None
below k q [] lt = refl
below k q (None ∷ rest) lt = below (k + 1) q rest (omega arith)
below k q (Some kept ∷ rest) lt = ap (λ b. cond b (Some (node_of kept)) (get (rows_from (k + 1) rest) q))
    (tie_no q k (omega arith)) ∙ below (k + 1) q rest (omega arith)

-- from the first nodeid on, the place is the distance
from_first : (k q : ℕ) (slots : List (Option StoredNode)) → k ≤ q
    → get (rows_from k slots) q ≡ option_map node_of (at_place slots (q - k))
from_first k q [] le = refl
from_first k q (slot ∷ rest) le = elim (cases_eq q k) [
  | inl e ↦ here slot e
  | inr ne ↦ there slot (from_first (k + 1) q rest (omega (arith, ne))) (omega (arith, ne)) ne
]
  where
    here : (slot : Option StoredNode) → q ≡ k → get (rows_from k (slot ∷ rest)) q
        ≡ option_map node_of (at_place (slot ∷ rest) (q - k))
    here None e = let zero_is : q - k ≡ 0 = omega arith in rw zero_is (below (k + 1) q rest (omega arith))
    here (Some kept) e = let zero_is : q - k ≡ 0 = omega arith in
        rw zero_is (ap (λ x. get (rows_from k (Some kept ∷ rest)) x) e ∙ first_is)
      where
        first_is : get (rows_from k (Some kept ∷ rest)) k ≡ Some (node_of kept)
        first_is = rw (cmp_same k) refl

    there : (slot : Option StoredNode) → get (rows_from (k + 1) rest) q
        ≡ option_map node_of (at_place rest (q - (k + 1))) → q - k ≡ suc (q - (k + 1)) → q ≢ k
        → get (rows_from k (slot ∷ rest)) q ≡ option_map node_of (at_place (slot ∷ rest) (q - k))
    there None more next ne = rw next more
    there (Some kept) more next ne = rw next (ap (λ b. cond b (Some (node_of kept)) (get (rows_from (k + 1) rest) q))
        (tie_no q k ne) ∙ more)

pub get_low : (slots : List (Option StoredNode)) (id : ℕ) → id < 2 → get (rows_from 2 slots) id ≡ None
get_low slots id lt = below 2 id slots lt

pub get_high : (slots : List (Option StoredNode)) (id : ℕ) → 2 ≤ id
    → get (rows_from 2 slots) id ≡ option_map node_of (at_place slots (id - 2))
get_high slots id le = from_first 2 id slots le

pub get_at : (slots : List (Option StoredNode)) (place : ℕ)
    → get (rows_from 2 slots) (place + 2) ≡ option_map node_of (at_place slots place)
get_at slots place = get_high slots (place + 2) (omega arith) ∙ ap (λ p. option_map node_of (at_place slots p))
    (omega arith)

-- what a look-up finds where one place was written
get_changed : (new old : List (Option StoredNode)) (place : ℕ) (slot : Option StoredNode) → at_place new place ≡ slot
    → ((other : ℕ) → other ≢ place → at_place new other ≡ at_place old other)
    → (q : ℕ) → get (rows_from 2 new) q ≡ cond (nat_eq (place + 2) q) (option_map node_of slot)
    (get (rows_from 2 old) q)
get_changed new old place slot changed others q = elim (cases_eq (place + 2) q) [
  | inl e ↦ ap (get (rows_from 2 new)) (sym e) ∙ get_at new place ∙ ap (option_map node_of) changed ∙ here e
  | inr ne ↦ apart q ne (nat_le 2 q) refl ∙ there ne
]
  where
    here : place + 2 ≡ q → option_map node_of slot ≡ cond (nat_eq (place + 2) q) (option_map node_of slot)
        (get (rows_from 2 old) q)
    here e = ap (λ b. cond b (option_map node_of slot) (get (rows_from 2 old) q)) (sym (eq-eqb (place + 2) q e))

    there : place + 2 ≢ q → get (rows_from 2 old) q ≡ cond (nat_eq (place + 2) q) (option_map node_of slot)
        (get (rows_from 2 old) q)
    there ne = ap (λ b. cond b (option_map node_of slot) (get (rows_from 2 old) q))
        (sym (let no : nat_eq (place + 2) q ≡ false = grind (arith, ne, rules) in no))

    apart : (q : ℕ) → place + 2 ≢ q → (b : Bool) → nat_le 2 q ≡ b → get (rows_from 2 new) q ≡ get (rows_from 2 old) q
    apart q ne true is =
        let le : 2 ≤ q = grind (arith, is, rules) in
        get_high new q le ∙ ap (option_map node_of) (others (q - 2) (λ e. ne (omega arith))) ∙ sym (get_high old q le)
    apart q ne false is = (let lt : q < 2 = grind (arith, is, rules) in get_low new q lt ∙ sym (get_low old q lt))

-- one place is written
pub rows-write : (new old : List (Option StoredNode)) (place : ℕ) (kept : StoredNode) → at_place new place ≡ Some kept
    → ((other : ℕ) → other ≢ place → at_place new other ≡ at_place old other)
    → rows_from 2 new ≡ put (rows_from 2 old) (place + 2) (node_of kept)
rows-write new old place kept changed others =
    is_put (rows_from 2 new) (rows_from 2 old) (place + 2) (node_of kept) (sorted_rows_from 2 new)
    (sorted_rows_from 2 old) (get_changed new old place (Some kept) changed others)

-- one place is emptied
pub rows-take_out : (new old : List (Option StoredNode)) (place : ℕ) → at_place new place ≡ None
    → ((other : ℕ) → other ≢ place → at_place new other ≡ at_place old other)
    → rows_from 2 new ≡ remove (rows_from 2 old) (place + 2)
rows-take_out new old place changed others =
    is_remove (rows_from 2 new) (rows_from 2 old) (place + 2) (sorted_rows_from 2 new) (sorted_rows_from 2 old)
    (get_changed new old place None changed others)

-- the file of what stands at a place, where one place was written
pub file_at-changed : (new old : List (Option StoredNode)) (place : ℕ) (slot : Option StoredNode)
    → at_place new place ≡ slot → ((other : ℕ) → other ≢ place → at_place new other ≡ at_place old other)
    → (q : ℕ) → slot_file new q ≡ cond (nat_eq place q) (option_map (λ (kept : StoredNode). kept.file) slot)
    (slot_file old q)
file_at-changed new old place slot changed others q = elim (cases_eq place q) [
  | inl e ↦ ap (slot_file new) (sym e) ∙ ap (option_map (λ (kept : StoredNode). kept.file)) changed ∙ here e
  | inr ne ↦ ap (option_map (λ (kept : StoredNode). kept.file)) (others q (λ e. ne (sym e))) ∙ there ne
]
  where
    here : place ≡ q → option_map (λ (kept : StoredNode). kept.file) slot
        ≡ cond (nat_eq place q) (option_map (λ (kept : StoredNode). kept.file) slot) (slot_file old q)
    here e = ap (λ b. cond b (option_map (λ (kept : StoredNode). kept.file) slot) (slot_file old q))
        (sym (eq-eqb place q e))

    there : place ≢ q → slot_file old q ≡ cond (nat_eq place q) (option_map (λ (kept : StoredNode). kept.file) slot)
        (slot_file old q)
    there ne = ap (λ b. cond b (option_map (λ (kept : StoredNode). kept.file) slot) (slot_file old q))
        (sym (let no : nat_eq place q ≡ false = grind (arith, ne, rules) in no))

-- a node of the file stands at the place
pub kept_at : (slots : List (Option StoredNode)) (place file : ℕ) → slot_file slots place ≡ Some file
    → (kept : StoredNode) × (at_place slots place ≡ Some kept) × (kept.file ≡ file)
kept_at slots place file is = by (at_place slots place) is
  where
    by : (o : Option StoredNode) → option_map (λ (kept : StoredNode). kept.file) o ≡ Some file
        → (kept : StoredNode) × (o ≡ Some kept) × (kept.file ≡ file)
    by None e = absurd (none-some file e)
    by (Some kept) e = (kept, refl, same_Some kept.file file e)

-- what stands under a nodeid is of a file exactly where it is at its place
pub is_of : (slots : List (Option StoredNode)) (place file : ℕ) → slot_file slots place ≡ Some file
    → IsOf (get (rows_from 2 slots) (place + 2)) file
is_of slots place file is = (let l = kept_at slots place file is in
    subst (λ o. IsOf o file) (sym (get_at slots place ∙ ap (option_map node_of) l.1)) l.2)

pub of_is : (slots : List (Option StoredNode)) (place file : ℕ) → IsOf (get (rows_from 2 slots) (place + 2)) file
    → slot_file slots place ≡ Some file
of_is slots place file is = by (at_place slots place) (subst (λ o. IsOf o file) (get_at slots place) is)
  where
    by : (o : Option StoredNode) → IsOf (option_map node_of o) file
        → option_map (λ (kept : StoredNode). kept.file) o ≡ Some file
    by None of_it = absurd of_it
    by (Some kept) of_it = ap Some of_it

-- a node under a nodeid is that of some place
pub place_of_row : (slots : List (Option StoredNode)) (id : ℕ) (row : HeldNode) → get (rows_from 2 slots) id ≡ Some row
    → slot_file slots (id - 2) ≡ Some row.file
place_of_row slots id row is = by (nat_le 2 id) refl
  where
    seen : (o : Option StoredNode) → option_map node_of o ≡ Some row
        → option_map (λ (kept : StoredNode). kept.file) o ≡ Some row.file
    seen None e = absurd (none-some row e)
    seen (Some kept) e = ap (λ (r : HeldNode). Some r.file) (same_Some (node_of kept) row e)

    by : (b : Bool) → nat_le 2 id ≡ b → slot_file slots (id - 2) ≡ Some row.file
    by true le = seen (at_place slots (id - 2)) (sym (get_high slots id (grind (arith, le, rules))) ∙ is)
    by false lt = absurd (none-some row (sym (get_low slots id (grind (arith, lt, rules))) ∙ is))

module _ (slots : List (Option StoredNode)) {places : ℕ → Option ℕ} (are : AreInverse (slot_file slots) places)
    (file : ℕ) where
  pub of_none : places file ≡ None → IsOfNone (rows_from 2 slots) file
  of_none none id row is same = none-some (id - 2)
      (sym none ∙ are.named file (id - 2) (place_of_row slots id row is ∙ ap Some same))

  pub no_place : IsOfNone (rows_from 2 slots) file → places file ≡ None
  no_place unheld = by (places file) refl
    where
      by : (o : Option ℕ) → places file ≡ o → o ≡ None
      by None is = refl
      by (Some place) is = (let l = kept_at slots place file (are.leads file place is) in
          absurd (unheld (place + 2) (node_of l.0) (get_at slots place ∙ ap (option_map node_of) l.1) l.2))

  -- a file has a place exactly where some node is of it
  pub has_is : (answer : Bool) → answer ≡ is_some (places file)
      → answer ≡ list_any (λ (row : HeldNode). nat_eq row.file file) (values (rows_from 2 slots))
  has_is answer is = any_is answer (rows_from 2 slots) (λ (row : HeldNode). nat_eq row.file file)
      (sorted_rows_from 2 slots) there back
    where
      there : answer ≡ true → HasValue (rows_from 2 slots) (λ (row : HeldNode). nat_eq row.file file)
      there so = by (places file) refl
        where
          by : (o : Option ℕ) → places file ≡ o → HasValue (rows_from 2 slots)
              (λ (row : HeldNode). nat_eq row.file file)
          by None none = absurd (true≢false (sym so ∙ is ∙ ap is_some none))
          by (Some place) at =
              let l = kept_at slots place file (are.leads file place at) in
              record {
                key = place + 2;
                value = node_of l.0;
                there = get_at slots place ∙ ap (option_map node_of) l.1;
                passes = eq-eqb l.0.file file l.2;
              }

      back : HasValue (rows_from 2 slots) (λ (row : HeldNode). nat_eq row.file file) → answer ≡ true
      back has = is ∙ ap is_some (are.named file (has.key - 2)
          (place_of_row slots has.key has.value has.there ∙ ap Some (eqb-true has.value.file file has.passes)))

-- nodeids and places
pub place-low : (id : ℕ) → slot_of id ≡ None → id < 2
place-low id is = grind (arith, is, rules)

pub place-high : (id place : ℕ) → slot_of id ≡ Some place → id ≡ place + 2
place-high id place is = grind (arith, is, rules)

-- what room says
pub record HasRoom (capacity len spare more : ℕ) : Type 0 where
  pub slots : len + more ≤ capacity
  pub places : more ≤ spare
  pub few : capacity ≤ 2 ^ 62

pub has_room : (capacity len spare more : ℕ) → 0 < more → more ≤ room_of capacity len spare
    → HasRoom capacity len spare more
has_room capacity len spare more some fits = by (nat_le capacity (2 ^ 62)) refl
  where
    by : (b : Bool) → nat_le capacity (2 ^ 62) ≡ b → HasRoom capacity len spare more
    by true is =
        let room_is : room_of capacity len spare ≡ min (capacity - len) spare =
        ap (λ b. cond b (min (capacity - len) spare) 0) is in
        let le : capacity ≤ 2 ^ 62 = grind (arith, is, rules) in
        record { slots = omega (arith, room_is); places = omega (arith, room_is); few = le }
    by false past = absurd (no_room past)
      where
        no_room : nat_le capacity (2 ^ 62) ≡ false → ⊥
        no_room past = let zero_is : room_of capacity len spare ≡ 0 =
            ap (λ b. cond b (min (capacity - len) spare) 0) past in omega (arith, zero_is)

-- the places of nodes are those from which nodeids fit
pub small_entries : (k : ℕ) (slots : List (Option StoredNode))
    → ((place : ℕ) → IsSome (at_place slots place) → place + k < 2 ^ 62) → AreSmall (entries_from k slots)
small_entries k [] small = tt
small_entries k (None ∷ rest) small = small_entries (k + 1) rest
    (λ place is. let more = small (suc place) is in omega arith)
small_entries k (Some kept ∷ rest) small = (
  let here = small 0 refl in
      omega arith,
  small_entries (k + 1) rest (λ place is. let more = small (suc place) is in omega arith),
)

-- the nodes of a slab, each under its nodeid
abbrev pub listed_places : List (ℕ × StoredNode) → List NodeCount
listed_places [] = []
listed_places (e ∷ es) = record { nodeid = e.0 + 2; generation = e.1.generation; count = e.1.count } ∷ listed_places es

pub listed-rows_from : (k : ℕ) (slots : List (Option StoredNode))
    → listed_places (entries_from k slots) ≡ listed_nodes (rows_from (k + 2) slots)
listed-rows_from k [] = refl
listed-rows_from k (None ∷ rest) = listed-rows_from (k + 1) rest ∙ ap (λ j. listed_nodes (rows_from j rest)) (omega arith)
listed-rows_from k (Some kept ∷ rest) = ap (λ es. record { nodeid = k + 2; generation = kept.generation; count = kept.count } ∷ es)
    (listed-rows_from (k + 1) rest ∙ ap (λ j. listed_nodes (rows_from j rest)) (omega arith))

-- a write of a node of the same file
pub file_at-kept : (new old : List (Option StoredNode)) (place : ℕ) (kept : StoredNode)
    → slot_file old place ≡ Some kept.file → at_place new place ≡ Some kept
    → ((other : ℕ) → other ≢ place → at_place new other ≡ at_place old other) → (q : ℕ) → slot_file new q ≡ slot_file old q
file_at-kept new old place kept was changed others q = elim (cases_eq q place) [
  | inl e ↦ ap (slot_file new) e ∙ ap (option_map (λ (k : StoredNode). k.file)) changed ∙ sym was ∙ ap (slot_file old)
      (sym e)
  | inr ne ↦ ap (option_map (λ (k : StoredNode). k.file)) (others q ne)
]

pub kept_is_some : (slots : List (Option StoredNode)) (place file : ℕ) → slot_file slots place ≡ Some file
    → IsSome (at_place slots place)
kept_is_some slots place file is = (let l = kept_at slots place file is in ap is_some l.1)

pub file_there : (slots : List (Option StoredNode)) (place : ℕ) → IsSome (at_place slots place)
    → (file : ℕ) × (slot_file slots place ≡ Some file)
file_there slots place some = by (at_place slots place) some
  where
    by : (o : Option StoredNode) → IsSome o → (file : ℕ) × (option_map (λ (k : StoredNode). k.file) o ≡ Some file)
    by None none = absurd (true≢false (sym none))
    by (Some kept) some = (kept.file, refl)

pub rows_without_none : (slots : List (Option StoredNode)) (id : ℕ) → get (rows_from 2 slots) id ≡ None
    → rows_from 2 slots ≡ remove (rows_from 2 slots) id
rows_without_none slots id none = is_remove (rows_from 2 slots) (rows_from 2 slots) id (sorted_rows_from 2 slots)
    (sorted_rows_from 2 slots) at
  where
    at : (q : ℕ) → get (rows_from 2 slots) q ≡ cond (nat_eq id q) None (get (rows_from 2 slots) q)
    at q = elim (cases_eq id q) [
      | inl e ↦ ap (get (rows_from 2 slots)) (sym e) ∙ none ∙ ap (λ b. cond b None (get (rows_from 2 slots) q))
          (sym (eq-eqb id q e))
      | inr ne ↦ ap (λ b. cond b None (get (rows_from 2 slots) q))
          (sym (let no : nat_eq id q ≡ false = grind (arith, ne, rules) in no))
    ]
