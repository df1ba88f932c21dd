-- A list of slots with the list of its vacant places: what the calls keep true, and what a search from the front finds.
use Rattle.std.proofs.Common.{◌≡◌, ◌≢◌, ℕ, zero, suc, ◌+◌, ◌-◌, ◌<◌, ◌≤◌, Bool, true, false, true≢false, cond, List, [], ◌∷◌, ◌++◌, Option, Some, None, IsSome, is_some, length, length-set, position, slice_set, refl, ap, sym, ◌∙◌, subst, arith, rules, nat_eq, nat_lt, inl, inr}
use Rattle.std.specs.Prelude.{count_by}
use Rattle.std.specs.Option.{option_map}
use Rattle.std.specs.List.{list_any, position_or_len}
use Rattle.std.proofs.lemmas.Bool.{cases_eq, eq-eqb, eqb-true}
use Rattle.std.proofs.lemmas.Bool.Decides.{nat_tests}
use Rattle.std.proofs.lemmas.Option.{none-some, same_Some}
use Rattle.std.proofs.lemmas.List.{get_or-set_same, get_or-set_other}
use Rattle.std.proofs.lemmas.List.Quantifiers.{position-Some}
use Rattle.std.proofs.lemmas.List.Sums.{sum_by-set, fails_before_first}
use Rattle.std.proofs.Math.Seq.{get_or-append_seam}
use Rattle.fuse_spec.specs.Values.Maps.{get, put, remove, values}
use Rattle.fuse_spec.specs.Server.Nodes.{HeldNode}
use Rattle.fuse_spec.proofs.QueueCounts.{count_by-push}
use Rattle.fs_nodes.specs.declared.stored_node.StoredNode.{StoredNode}
use Rattle.fs_nodes.specs.Rows.{node_of, IsOf, IsOfNone}
use Rattle.fs_nodes.specs.Slots.{rows_from, at_place, slot_file}
use Rattle.fs_nodes.specs.Vacant.{AreVacant, is_kept_of}
use Rattle.fuse_tables.proofs.Maps.{HasValue, any_is}
use Rattle.fs_nodes.proofs.Slots.{sorted_rows_from, get_at, kept_at, kept_is_some, of_is, place_of_row, rows-write, rows-take_out}

-- ---- places

pub kept_within : (slots : List (Option StoredNode)) (place : ℕ) → IsSome (at_place slots place) → place < length slots
kept_within [] place some = absurd (true≢false (sym some))
kept_within (slot ∷ rest) zero some = omega arith
kept_within (slot ∷ rest) (suc place) some = (let more = kept_within rest place some in omega arith)

past : (slots : List (Option StoredNode)) (place : ℕ) → length slots ≤ place → at_place slots place ≡ None
past [] place le = refl
past (slot ∷ rest) zero le = absurd (omega arith)
past (slot ∷ rest) (suc place) le = past rest place (omega arith)

pub at_set : (slots : List (Option StoredNode)) (place : ℕ) (slot : Option StoredNode) → place < length slots
    → at_place (slice_set slots place slot) place ≡ slot
at_set slots place slot lt = get_or-set_same slots place slot None lt

pub at_set_other : (slots : List (Option StoredNode)) (place : ℕ) (slot : Option StoredNode) (other : ℕ)
    → other ≢ place → at_place (slice_set slots place slot) other ≡ at_place slots other
at_set_other slots place slot other ne = get_or-set_other slots place other slot None ne

pub at_push : (slots : List (Option StoredNode)) (slot : Option StoredNode)
    → at_place (slots ++ slot ∷ []) (length slots) ≡ slot
at_push slots slot = get_or-append_seam slots slot [] None

pub at_push_other : (slots : List (Option StoredNode)) (slot : Option StoredNode) (other : ℕ) → other ≢ length slots
    → at_place (slots ++ slot ∷ []) other ≡ at_place slots other
at_push_other [] slot zero ne = absurd (ne refl)
at_push_other [] slot (suc other) ne = refl
at_push_other (first ∷ rest) slot zero ne = refl
at_push_other (first ∷ rest) slot (suc other) ne = at_push_other rest slot other (λ e. ne (ap suc e))

pub at_end : (slots : List (Option StoredNode)) → at_place slots (length slots) ≡ None
at_end slots = past slots (length slots) (omega arith)

-- what a look at a place says of it
pub none_there : (slots seen : List (Option StoredNode)) (place : ℕ) (o : Option StoredNode) → seen ≡ slots
    → o ≡ at_place seen place → is_some o ≡ false → at_place slots place ≡ None
none_there slots seen place o same is none = ap (λ s. at_place s place) (sym same) ∙ sym is ∙ by o none
  where
    by : (o : Option StoredNode) → is_some o ≡ false → o ≡ None
    by None e = refl
    by (Some kept) e = absurd (true≢false e)

pub some_there : (slots seen : List (Option StoredNode)) (place : ℕ) (o : Option StoredNode) → seen ≡ slots
    → o ≡ at_place seen place → is_some o ≡ true → IsSome (at_place slots place)
some_there slots seen place o same is some = ap (λ s. is_some (at_place s place)) (sym same) ∙ ap is_some
    (sym is) ∙ some

-- a slot was written: the length stays, and as many nodes went as came
pub record Counts (new slots : List (Option StoredNode)) (gone come : ℕ) : Type 0 where
  pub len : length new ≡ length slots
  pub count : count_by is_some new + gone ≡ count_by is_some slots + come

counts_set : (new slots : List (Option StoredNode)) (place : ℕ) (slot : Option StoredNode) → place < length slots
    → new ≡ slice_set slots place slot
    → Counts new slots (cond (is_some (at_place slots place)) 1 0) (cond (is_some slot) 1 0)
counts_set new slots place slot lt set = record {
  len = ap length set ∙ length-set slots place slot;
  count = ap (λ s. count_by is_some s + cond (is_some (at_place slots place)) 1 0) set ∙ sum_by-set
      (λ x. cond (is_some x) 1 0) slots place slot None lt;
}

pub counts_kept : (new slots : List (Option StoredNode)) (place : ℕ) (slot : Option StoredNode)
    → IsSome (at_place slots place) → new ≡ slice_set slots place slot
    → Counts new slots 1 (cond (is_some slot) 1 0)
counts_kept new slots place slot some set = subst (λ b. Counts new slots (cond b 1 0) (cond (is_some slot) 1 0)) some
    (counts_set new slots place slot (kept_within slots place some) set)

pub counts_vacant : (new slots : List (Option StoredNode)) (place : ℕ) (slot : Option StoredNode)
    → place < length slots → at_place slots place ≡ None → new ≡ slice_set slots place slot
    → Counts new slots 0 (cond (is_some slot) 1 0)
counts_vacant new slots place slot lt none set =
    subst (λ b. Counts new slots (cond b 1 0) (cond (is_some slot) 1 0)) (ap is_some none)
    (counts_set new slots place slot lt set)

-- what rows are where a slot was written
pub rows_set : (new slots : List (Option StoredNode)) (place : ℕ) (kept : StoredNode) → place < length slots
    → new ≡ slice_set slots place (Some kept)
    → rows_from 2 new ≡ put (rows_from 2 slots) (place + 2) (node_of kept)
rows_set new slots place kept lt set =
    rows-write new slots place kept (ap (λ s. at_place s place) set ∙ at_set slots place (Some kept) lt)
    (λ other ne. ap (λ s. at_place s other) set ∙ at_set_other slots place (Some kept) other ne)

pub rows_unset : (new slots : List (Option StoredNode)) (place : ℕ) → place < length slots
    → new ≡ slice_set slots place None
    → rows_from 2 new ≡ remove (rows_from 2 slots) (place + 2)
rows_unset new slots place lt set =
    rows-take_out new slots place (ap (λ s. at_place s place) set ∙ at_set slots place None lt)
    (λ other ne. ap (λ s. at_place s other) set ∙ at_set_other slots place None other ne)

pub rows_push : (new slots : List (Option StoredNode)) (kept : StoredNode) → new ≡ slots ++ Some kept ∷ []
    → rows_from 2 new ≡ put (rows_from 2 slots) (length slots + 2) (node_of kept)
rows_push new slots kept pushed =
    rows-write new slots (length slots) kept (ap (λ s. at_place s (length slots)) pushed ∙ at_push slots (Some kept))
    (λ other ne. ap (λ s. at_place s other) pushed ∙ at_push_other slots (Some kept) other ne)

-- the place of a nodeid under which a node of the file stands
pub kept_under : (slots : List (Option StoredNode)) (id place file : ℕ) → id ≡ place + 2
    → IsOf (get (rows_from 2 slots) id) file → IsSome (at_place slots place)
kept_under slots id place file at is = kept_is_some slots place file
    (of_is slots place file (subst (λ i. IsOf (get (rows_from 2 slots) i) file) at is))

-- ---- vacant places

none_is : (slots : List (Option StoredNode)) (place : ℕ) → IsSome (at_place slots place) → at_place slots place ≡ None
    → ⊥
none_is slots place some none = true≢false (sym some ∙ ap is_some none)

one_at : (q : ℕ) → ◌≡◌ {A = ℕ} (cond (nat_eq q q) 1 0) 1
one_at q = ap (λ b. cond b 1 0) (eq-eqb q q refl)

none_at : (q place : ℕ) → q ≢ place → ◌≡◌ {A = ℕ} (cond (nat_eq q place) 1 0) 0
none_at q place ne = (let no : nat_eq q place ≡ false = grind (arith, ne, rules) in ap (λ b. cond b 1 0) no)

pub vacant_write : {slots : List (Option StoredNode)} {dropped : List ℕ} (new : List (Option StoredNode)) (place : ℕ)
    (slot : Option StoredNode) → AreVacant slots dropped
    → IsSome (at_place slots place) → new ≡ slice_set slots place slot → AreVacant new dropped
vacant_write {slots = slots} new place slot are some set = record {
  empty = λ q in_it. ap (λ s. at_place s q) set ∙ at_set_other slots place slot q
      (λ e. none_is slots place some (ap (at_place slots) (sym e) ∙ are.empty q in_it)) ∙ are.empty q in_it;
  within = λ q in_it. (let lt = are.within q in_it in let len = ap length set ∙ length-set slots place slot in
      omega (arith, len));
  once = are.once;
}

pub vacant_taken : {slots : List (Option StoredNode)} {dropped : List ℕ} (new : List (Option StoredNode))
    (fewer : List ℕ) (place : ℕ) (slot : Option StoredNode) → AreVacant slots dropped
    → dropped ≡ fewer ++ place ∷ [] → new ≡ slice_set slots place slot → AreVacant new fewer
vacant_taken {slots = slots} {dropped = dropped} new fewer place slot are popped set = record {
  empty = λ q in_it. ap (λ s. at_place s q) set ∙ at_set_other slots place slot q (apart q in_it) ∙ are.empty q
      (more q in_it);
  within = λ q in_it. (let lt = are.within q (more q in_it) in let len = ap length set ∙ length-set slots place slot in
      omega (arith, len));
  once = λ q. (let once = are.once q in let counts = counts q in omega arith);
}
  where
    counts : (q : ℕ) → count_by (nat_eq q) dropped ≡ count_by (nat_eq q) fewer + cond (nat_eq q place) 1 0
    counts q = ap (count_by (nat_eq q)) popped ∙ count_by-push (nat_eq q) fewer place

    more : (q : ℕ) → 0 < count_by (nat_eq q) fewer → 0 < count_by (nat_eq q) dropped
    more q in_it = (let both = counts q in omega arith)

    apart : (q : ℕ) → 0 < count_by (nat_eq q) fewer → q ≢ place
    apart q in_it e =
        let both = counts q in
        let one = subst (λ p. ◌≡◌ {A = ℕ} (cond (nat_eq q p) 1 0) 1) e (one_at q) in
        let once = are.once q in
        absurd (omega arith)

pub place_taken : {slots : List (Option StoredNode)} {dropped : List ℕ} (fewer : List ℕ) (place : ℕ)
    → AreVacant slots dropped → dropped ≡ fewer ++ place ∷ []
    → (place < length slots) × (at_place slots place ≡ None)
place_taken {dropped = dropped} fewer place are popped = (are.within place in_it, are.empty place in_it)
  where
    in_it : 0 < count_by (nat_eq place) dropped
    in_it = (let both = ap (count_by (nat_eq place)) popped ∙ count_by-push (nat_eq place) fewer place in
        let one = one_at place in omega arith)

pub vacant_dropped : {slots : List (Option StoredNode)} {dropped : List ℕ} (new : List (Option StoredNode))
    (more : List ℕ) (place : ℕ) → AreVacant slots dropped
    → IsSome (at_place slots place) → more ≡ dropped ++ place ∷ [] → new ≡ slice_set slots place None
    → AreVacant new more
vacant_dropped {slots = slots} {dropped = dropped} new more place are some pushed set = record {
  empty = λ q in_it. ap (λ s. at_place s q) set ∙ empty_at q in_it;
  within = λ q in_it. (let lt = within_at q in_it in let len = ap length set ∙ length-set slots place None in
      omega (arith, len));
  once = λ q. once_at q;
}
  where
    counts : (q : ℕ) → count_by (nat_eq q) more ≡ count_by (nat_eq q) dropped + cond (nat_eq q place) 1 0
    counts q = ap (count_by (nat_eq q)) pushed ∙ count_by-push (nat_eq q) dropped place

    was_in : (q : ℕ) → q ≢ place → 0 < count_by (nat_eq q) more → 0 < count_by (nat_eq q) dropped
    was_in q ne in_it = (let both = counts q in let none = none_at q place ne in omega arith)

    empty_at : (q : ℕ) → 0 < count_by (nat_eq q) more → at_place (slice_set slots place None) q ≡ None
    empty_at q in_it = elim (cases_eq q place) [
      | inl e ↦ ap (at_place (slice_set slots place None)) e ∙ at_set slots place None (kept_within slots place some)
      | inr ne ↦ at_set_other slots place None q ne ∙ are.empty q (was_in q ne in_it)
    ]

    within_at : (q : ℕ) → 0 < count_by (nat_eq q) more → q < length slots
    within_at q in_it = elim (cases_eq q place) [
      | inl e ↦ (let lt = kept_within slots place some in omega arith)
      | inr ne ↦ are.within q (was_in q ne in_it)
    ]

    not_in : count_by (nat_eq place) dropped ≡ 0
    not_in = by (nat_lt 0 (count_by (nat_eq place) dropped)) refl
      where
        by : (b : Bool) → nat_lt 0 (count_by (nat_eq place) dropped) ≡ b → count_by (nat_eq place) dropped ≡ 0
        by true is = absurd (none_is slots place some (are.empty place (grind (arith, nat_tests, is))))
        by false is = grind (arith, nat_tests, is)

    once_at : (q : ℕ) → count_by (nat_eq q) more ≤ 1
    once_at q = elim (cases_eq q place) [
      | inl e ↦ (let both = counts q in let one : cond (nat_eq q place) 1 0 ≤ 1 = grind (arith, rules) in
          let none = ap (λ p. count_by (nat_eq p) dropped) e ∙ not_in in omega arith)
      | inr ne ↦ (let both = counts q in let none = none_at q place ne in let once = are.once q in omega arith)
    ]

-- ---- a search from the front

kept_is : (file : ℕ) (o : Option StoredNode) → is_kept_of file o ≡ true
    → option_map (λ (kept : StoredNode). kept.file) o ≡ Some file
kept_is file None is = absurd (true≢false (sym is))
kept_is file (Some kept) is = ap Some (eqb-true kept.file file is)

is_kept : (file : ℕ) (o : Option StoredNode) → option_map (λ (kept : StoredNode). kept.file) o ≡ Some file
    → is_kept_of file o ≡ true
is_kept file None is = absurd (none-some file is)
is_kept file (Some kept) is = eq-eqb kept.file file (same_Some kept.file file is)

pub found_at : (slots : List (Option StoredNode)) (file place : ℕ) → position (is_kept_of file) slots ≡ Some place
    → slot_file slots place ≡ Some file
found_at slots file place is = kept_is file (at_place slots place)
    ((position-Some (is_kept_of file) slots place None is).1)

none_passes : (slots : List (Option StoredNode)) (file : ℕ) → position (is_kept_of file) slots ≡ None → (place : ℕ)
    → place < length slots → is_kept_of file (at_place slots place) ≡ false
none_passes slots file none place lt = (let past_all =
    by (nat_lt (position_or_len (is_kept_of file) slots) (length slots)) refl in
    fails_before_first (is_kept_of file) slots place None (omega arith))
  where
    by : (b : Bool) → nat_lt (position_or_len (is_kept_of file) slots) (length slots) ≡ b
        → length slots ≤ position_or_len (is_kept_of file) slots
    by true h = absurd (none-some (position_or_len (is_kept_of file) slots)
        (sym none ∙ ap (λ b. cond b (Some (position_or_len (is_kept_of file) slots)) None) h))
    by false h = grind (arith, nat_tests, h)

not_found : (slots : List (Option StoredNode)) (file : ℕ) → position (is_kept_of file) slots ≡ None → (place : ℕ)
    → slot_file slots place ≡ Some file → ⊥
not_found slots file none place is =
    let kept = kept_at slots place file is in
    true≢false (sym (is_kept file (at_place slots place) is) ∙ none_passes slots file none place
    (kept_within slots place (ap is_some kept.1)))

pub not_of : (slots : List (Option StoredNode)) (file : ℕ) → position (is_kept_of file) slots ≡ None
    → IsOfNone (rows_from 2 slots) file
not_of slots file none = λ id row is same. not_found slots file none (id - 2)
    (place_of_row slots id row is ∙ ap Some same)

pub found_is : (slots : List (Option StoredNode)) (file : ℕ) (found : Option ℕ)
    → position (is_kept_of file) slots ≡ found
    → is_some found ≡ list_any (λ (row : HeldNode). nat_eq row.file file) (values (rows_from 2 slots))
found_is slots file found is = any_is (is_some found) (rows_from 2 slots) (λ (row : HeldNode). nat_eq row.file file)
    (sorted_rows_from 2 slots) (there found is) (back found is)
  where
    there : (o : Option ℕ) → position (is_kept_of file) slots ≡ o → is_some o ≡ true
        → HasValue (rows_from 2 slots) (λ (row : HeldNode). nat_eq row.file file)
    there None at so = absurd (true≢false (sym so))
    there (Some place) at so =
        let l = kept_at slots place file (found_at slots file place at) in
        record {
          key = place + 2;
          value = node_of l.0;
          there = get_at slots place ∙ ap (option_map node_of) l.1;
          passes = eq-eqb l.0.file file l.2;
        }

    back : (o : Option ℕ) → position (is_kept_of file) slots ≡ o
        → HasValue (rows_from 2 slots) (λ (row : HeldNode). nat_eq row.file file) → is_some o ≡ true
    back None at has = absurd (not_found slots file at (has.key - 2)
        (place_of_row slots has.key has.value has.there ∙ ap Some (eqb-true has.value.file file has.passes)))
    back (Some place) at has = refl
