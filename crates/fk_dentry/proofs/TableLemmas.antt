-- Slots and the nodes that they name, through a write, a new row and a removal.
use Rattle.std.proofs.Common.{◌≡◌, ℕ, zero, suc, ◌+◌, ◌*◌, ◌≤◌, ◌<◌, List, [], ◌∷◌, length, set, get_or, Bool, Option, Some, None, true, false, cond, refl, ap, sym, subst, ◌∙◌, arith, T, inl, inr}
use Rattle.std.specs.Prelude.{slice_get, is_some, IsSome}
use Rattle.std.specs.List.{remove}
use Rattle.std.specs.Ordering.{is_eq, is_gt}
use Rattle.std.specs.FinMap.{is_sorted}
use Rattle.std.proofs.lemmas.List.{length-set}
use Rattle.std.proofs.lemmas.List.Edits.{length-insert, length-remove}
use Rattle.std.proofs.lemmas.List.Sums.{sum_by-cons, sum_by-set, sum_by-insert, sum_by-remove}
use Rattle.std.proofs.lemmas.Bool.{cases_lt}
use Rattle.std.proofs.lemmas.Option.{same_Some, slice_get_past, get_or_from_slice_get, none-some}
use Rattle.fuse_spec.specs.declared.Dentry.{Dentry}
use Rattle.fuse_spec.specs.Values.Maps.{Place, place_cmp, get_name, put_name, remove_name}
use Rattle.fk_dentry.specs.Named.{times, named, named_by, nodes_of_name, uses, mentions}
use Rattle.fk_dentry.proofs.Places.{place_among, IsEntryOf}
use Rattle.fk_dentry.specs.Rows.{bound_in, IsNameTable}
use Rattle.fuse_spec.proofs.Tables.{place_total}
use Rattle.fk_dentry.proofs.PlaceOrder.{place_same, tied}
use Rattle.fk_dentry.proofs.SortedEntries.{found, found_is, put_is, set_is, removed_is, absent_is}
use Rattle.fk_dentry.proofs.BoundNames.{Slots, sorted-put, sorted-remove}

-- ---- what stands in a slot

abbrev pub EntryOf : Slots → Place → ℕ → Type 0
EntryOf slots key place = IsEntryOf place_cmp slots key place

named_most : (directory : ℕ) (dentry : Option Dentry) → length (named_by directory dentry) ≤ 2
named_most directory None = omega arith
named_most directory (Some dentry) = by dentry.target
  where
    by : (target : Option ℕ) → length (named directory target) ≤ 2
    by None = omega arith
    by (Some id) = omega arith

mentions_cons : (slot : Place × Option Dentry) (slots : Slots)
    → mentions (slot ∷ slots) ≡ length (nodes_of_name slot) + mentions slots
mentions_cons slot slots = sum_by-cons (λ s. length (nodes_of_name s)) slot slots

mentions_most : (slots : Slots) → mentions slots ≤ length slots + length slots
mentions_most [] = omega arith
mentions_most (slot ∷ slots) =
    let first = named_most slot.0.0 slot.1 in
    let rest = mentions_most slots in
    let is = mentions_cons slot slots in
    omega arith

-- besides what a slot names there is room for two ids
mentions_room : (slots : Slots) (i : ℕ) (d : Place × Option Dentry) → i < length slots
    → mentions slots + 2 ≤ length (nodes_of_name (get_or slots i d)) + (length slots + length slots)
mentions_room [] i d lt = absurd (omega arith)
mentions_room (slot ∷ slots) zero d lt =
    let rest = mentions_most slots in
    let is = mentions_cons slot slots in
    omega arith
mentions_room (slot ∷ slots) (suc i) d lt =
    let first = named_most slot.0.0 slot.1 in
    let rest = mentions_room slots i d (omega arith) in
    let is = mentions_cons slot slots in
    omega arith

module _ {slots : Slots} {key : Place} {place : ℕ} (r : EntryOf slots key place) where
  pub key_is : key ≡ r.entry.0
  key_is = place_same key r.entry.0 r.same

  pub entry_is : get_or slots place r.entry ≡ r.entry
  entry_is = get_or_from_slice_get slots place r.entry r.entry r.there

  -- the nodes that the entry names
  abbrev pub held : List ℕ
  held = named_by key.0 r.entry.1

  pub held_is : nodes_of_name (get_or slots place r.entry) ≡ held
  held_is = ap nodes_of_name entry_is ∙ ap (λ (p : Place). named_by p.0 r.entry.1) (sym key_is)

  pub get_is : T (is_sorted place_cmp slots) → get_name slots key ≡ Some r.entry.1
  get_is h =
      found_is place_cmp place_total key slots h ∙ ap (λ i. found place_cmp place_total key (slice_get slots i))
      (sym r.at) ∙ ap (found place_cmp place_total key) r.there
      ∙ ap (λ o. cond (is_eq o) (Some r.entry.1) None) r.same

  pub put_there : (slot : Option Dentry) → set slots place (r.entry.0, slot) ≡ put_name slots key slot
  put_there slot = ap (λ i. set slots i (r.entry.0, slot)) r.at ∙ set_is place_cmp place_total key slot slots r.entry
      (ap (slice_get slots) (sym r.at) ∙ r.there) r.same

  pub remove_there : T (is_sorted place_cmp slots) → remove slots place ≡ remove_name slots key
  remove_there h = ap (remove slots) r.at ∙ removed_is place_cmp place_total key slots r.entry h
      (ap (slice_get slots) (sym r.at) ∙ r.there) r.same

  -- ---- through a write and a removal

  module _ {count : ℕ → ℕ} {total capacity : ℕ} (t : IsNameTable slots count total capacity) where
    pub held_among : (q : ℕ) → times q held ≤ count q
    held_among q =
        let less = sum_by-remove (λ s. times q (nodes_of_name s)) slots place r.entry r.bound in
        let here = ap (times q) held_is in
        let all = t.named q in
        omega arith

    pub room_held : total + 2 ≤ capacity + length held
    room_held =
        let room = mentions_room slots place r.entry r.bound in
        let here = ap length held_is in
        let many = t.many in
        let fits = t.room in
        omega arith

    pub table-put : (dentry : Dentry) (after : ℕ → ℕ) (total_after most : ℕ)
        → ((q : ℕ) → after q + times q held ≡ count q + times q (named key.0 dentry.target))
        → total_after + length held ≡ total + length (named key.0 dentry.target) → capacity ≤ most
        → IsNameTable (put_name slots key (Some dentry)) after total_after most
    table-put dentry after total_after most swapped as_many fits = record {
      sorted = sorted-put slots key (Some dentry) t.sorted;
      named = λ q.
          let new : times q (nodes_of_name (r.entry.0, Some dentry)) ≡ times q (named key.0 dentry.target) =
          ap (λ (p : Place). times q (named p.0 dentry.target)) (sym key_is) in
          let set_at = sum_by-set (λ s. times q (nodes_of_name s)) slots place (r.entry.0, Some dentry) r.entry r.bound in
          let here = ap (times q) held_is in
          let was = t.named q in
          let now = swapped q in
          let is = ap (uses q) (put_there (Some dentry)) in
          omega arith;
      many =
          let new : length (nodes_of_name (r.entry.0, Some dentry)) ≡ length (named key.0 dentry.target) =
          ap (λ (p : Place). length (named p.0 dentry.target)) (sym key_is) in
          let set_at = sum_by-set (λ s. length (nodes_of_name s)) slots place (r.entry.0, Some dentry) r.entry r.bound in
          let here = ap length held_is in
          let was = t.many in
          let is = ap mentions (put_there (Some dentry)) in
          omega arith;
      room =
          let same : length (put_name slots key (Some dentry)) ≡ length slots =
          ap length (sym (put_there (Some dentry))) ∙ length-set slots place (r.entry.0, Some dentry) in
          let room = t.room in
          omega arith;
    }

    module _ (left : ℕ → ℕ) (total_left most : ℕ) (gone : (q : ℕ) → left q + times q held ≡ count q)
        (fewer : total_left + length held ≡ total) (fits : capacity ≤ most) where
      pub table-remove : IsNameTable (remove_name slots key) left total_left most
      table-remove = record {
        sorted = sorted-remove slots key t.sorted;
        named = λ q.
            let less = sum_by-remove (λ s. times q (nodes_of_name s)) slots place r.entry r.bound in
            let here = ap (times q) held_is in
            let was = t.named q in
            let out = gone q in
            let is = ap (uses q) (remove_there t.sorted) in
            omega arith;
        many =
            let less = sum_by-remove (λ s. length (nodes_of_name s)) slots place r.entry r.bound in
            let here = ap length held_is in
            let was = t.many in
            let is = ap mentions (remove_there t.sorted) in
            omega arith;
        room =
            let less = length-remove slots place r.bound in
            let is = ap length (remove_there t.sorted) in
            let room = t.room in
            omega arith;
      }

-- a name that is found has its entry
module _ (slots : Slots) (key : Place) (slot : Option Dentry) (h : T (is_sorted place_cmp slots))
    (is : get_name slots key ≡ Some slot) where
  abbrev its_place : ℕ
  its_place = place_among place_cmp key slots

  pub entry_there : (r : EntryOf slots key its_place) × (r.entry.1 ≡ slot)
  entry_there = by (slice_get slots its_place) refl (sym (found_is place_cmp place_total key slots h) ∙ is)
    where
      within : (e : Place × Option Dentry) → slice_get slots its_place ≡ Some e → its_place < length slots
      within e at = elim (cases_lt its_place (length slots)) as (λ _. its_place < length slots) [
        | inl lt ↦ lt
        | inr le ↦ absurd (none-some e (sym (slice_get_past slots its_place le) ∙ at))
      ]

      at_entry : (e : Place × Option Dentry) → slice_get slots its_place ≡ Some e → (b : Bool)
          → is_eq (place_cmp key e.0) ≡ b → cond b (Some e.1) None ≡ Some slot
          → (r : EntryOf slots key its_place) × (r.entry.1 ≡ slot)
      at_entry e at true t f = (
        record { at = refl; bound = within e at; entry = e; there = at; same = tied _ t },
        same_Some e.1 slot f,
      )
      at_entry e at false t f = absurd (none-some slot f)

      by : (o : Option (Place × Option Dentry)) → slice_get slots its_place ≡ o
          → found place_cmp place_total key o ≡ Some slot → (r : EntryOf slots key its_place) × (r.entry.1 ≡ slot)
      by None at f = absurd (none-some slot f)
      by (Some e) at f = at_entry e at (is_eq (place_cmp key e.0)) refl f

-- ---- through a write and a removal under a name

module _ {slots : Slots} {count : ℕ → ℕ} {total capacity : ℕ} (key : Place) where
  module _ (slot : Option Dentry) (t : IsNameTable slots count total capacity) (is : get_name slots key ≡ Some slot) where
    r : EntryOf slots key (its_place slots key slot t.sorted is)
    r = (entry_there slots key slot t.sorted is).0

    slot_is : r.entry.1 ≡ slot
    unfolding r
    slot_is = (entry_there slots key slot t.sorted is).1

    pub slot_among : (q : ℕ) → times q (named_by key.0 slot) ≤ count q
    slot_among q = subst (λ (b : Option Dentry). times q (named_by key.0 b) ≤ count q) slot_is (held_among r t q)

    pub slot_room : total + 2 ≤ capacity + length (named_by key.0 slot)
    slot_room = subst (λ (b : Option Dentry). total + 2 ≤ capacity + length (named_by key.0 b)) slot_is (room_held r t)

    pub slot-with : (dentry : Dentry) (after : ℕ → ℕ) (total_after most : ℕ)
        → ((q : ℕ) → after q + times q (named_by key.0 slot) ≡ count q + times q (named key.0 dentry.target))
        → total_after + length (named_by key.0 slot) ≡ total + length (named key.0 dentry.target) → capacity ≤ most
        → IsNameTable (put_name slots key (Some dentry)) after total_after most
    slot-with dentry after total_after most swapped as_many fits =
        table-put r t dentry after total_after most
        (subst (λ (b : Option Dentry). (q : ℕ) → after q + times q (named_by key.0 b)
        ≡ count q + times q (named key.0 dentry.target)) (sym slot_is) swapped)
        (subst (λ (b : Option Dentry). total_after + length (named_by key.0 b)
        ≡ total + length (named key.0 dentry.target)) (sym slot_is) as_many)
        fits

  module _ (t : IsNameTable slots count total capacity) where
    pub bound_among : (q : ℕ) → times q (named_by key.0 (bound_in (get_name slots key))) ≤ count q
    bound_among q = by (get_name slots key) refl
      where
        by : (o : Option (Option Dentry)) → get_name slots key ≡ o → times q (named_by key.0 (bound_in o)) ≤ count q
        by None e = omega arith
        by (Some slot) e = slot_among slot t e q

    -- through a write under a name that has room
    module _ (there : IsSome (get_name slots key)) where
      pub room_bound : total + 2 ≤ capacity + length (named_by key.0 (bound_in (get_name slots key)))
      room_bound = by (get_name slots key) refl
        where
          by : (o : Option (Option Dentry)) → get_name slots key ≡ o
              → total + 2 ≤ capacity + length (named_by key.0 (bound_in o))
          by None e = absurd (subst T (sym there ∙ ap is_some e) tt)
          by (Some slot) e = slot_room slot t e

      pub table-with : (dentry : Dentry) (after : ℕ → ℕ) (total_after most : ℕ)
          → ((q : ℕ) → after q + times q (named_by key.0 (bound_in (get_name slots key)))
          ≡ count q + times q (named key.0 dentry.target))
          → total_after + length (named_by key.0 (bound_in (get_name slots key)))
          ≡ total + length (named key.0 dentry.target) → capacity ≤ most
          → IsNameTable (put_name slots key (Some dentry)) after total_after most
      table-with dentry after total_after most swapped as_many fits = by (get_name slots key) refl swapped as_many
        where
          by : (o : Option (Option Dentry)) → get_name slots key ≡ o
              → ((q : ℕ) → after q + times q (named_by key.0 (bound_in o))
              ≡ count q + times q (named key.0 dentry.target))
              → total_after + length (named_by key.0 (bound_in o)) ≡ total + length (named key.0 dentry.target)
              → IsNameTable (put_name slots key (Some dentry)) after total_after most
          by None e swapped as_many = absurd (subst T (sym there ∙ ap is_some e) tt)
          by (Some slot) e swapped as_many = slot-with slot t e dentry after total_after most swapped as_many fits

    pub table-without : (left : ℕ → ℕ) (total_left most : ℕ)
        → ((q : ℕ) → left q + times q (named_by key.0 (bound_in (get_name slots key))) ≡ count q)
        → total_left + length (named_by key.0 (bound_in (get_name slots key))) ≡ total → capacity ≤ most
        → IsNameTable (remove_name slots key) left total_left most
    table-without left total_left most gone fewer fits = by (get_name slots key) refl gone fewer
      where
        by : (o : Option (Option Dentry)) → get_name slots key ≡ o
            → ((q : ℕ) → left q + times q (named_by key.0 (bound_in o)) ≡ count q)
            → total_left + length (named_by key.0 (bound_in o)) ≡ total
            → IsNameTable (remove_name slots key) left total_left most
        by None e gone fewer = subst (λ s. IsNameTable s left total_left most)
            (sym (absent_is place_cmp place_total key slots e)) (record {
              sorted = t.sorted;
              named = λ q. (let was = t.named q in let is = gone q in omega arith);
              many = (let was = t.many in omega arith);
              room = (let room = t.room in omega arith);
            })
        by (Some slot) e gone fewer =
            table-remove (r slot t e) t left total_left most
            (subst (λ (b : Option Dentry). (q : ℕ) → left q + times q (named_by key.0 b) ≡ count q)
            (sym (slot_is slot t e)) gone)
            (subst (λ (b : Option Dentry). total_left + length (named_by key.0 b) ≡ total)
            (sym (slot_is slot t e)) fewer)
            fits

-- ---- a name that gets room

place_bound : (key : Place) (slots : Slots) → place_among place_cmp key slots ≤ length slots
place_bound key [] = omega arith
place_bound key (slot ∷ slots) =
    let rest = place_bound key slots in
    elim (is_gt (place_cmp key slot.0)) as (λ b. cond b (suc (place_among place_cmp key slots)) 0 ≤ length
    (slot ∷ slots)) [ true ↦ omega arith | false ↦ omega arith ]

pub table-new : {slots : Slots} {count : ℕ → ℕ} {total capacity : ℕ} (key : Place) (slot : Option Dentry)
    (after : ℕ → ℕ) (total_after most : ℕ)
    → IsNameTable slots count total capacity → get_name slots key ≡ None
    → ((q : ℕ) → after q ≡ count q + times q (named_by key.0 slot))
    → total_after ≡ total + length (named_by key.0 slot) → length slots + 1 + (length slots + 1) ≤ most
    → IsNameTable (put_name slots key slot) after total_after most
table-new {slots = slots} key slot after total_after most t none more as_many fits = record {
  sorted = sorted-put slots key slot t.sorted;
  named = λ q.
      let entered = sum_by-insert (λ s. times q (nodes_of_name s)) slots (place_among place_cmp key slots) (key, slot) in
      let was = t.named q in
      let now = more q in
      let is = ap (uses q) (put_is place_cmp place_total key slot slots none) in
      omega arith;
  many =
      let entered = sum_by-insert (λ s. length (nodes_of_name s)) slots (place_among place_cmp key slots) (key, slot) in
      let was = t.many in
      let is = ap mentions (put_is place_cmp place_total key slot slots none) in
      omega arith;
  room =
      let longer = length-insert slots (place_among place_cmp key slots) (key, slot) (place_bound key slots) in
      let is = ap length (put_is place_cmp place_total key slot slots none) in
      omega arith;
}

pub table-room : {slots : Slots} {count : ℕ → ℕ} {total capacity : ℕ} (key : Place) (most : ℕ)
    → IsNameTable slots count total capacity → get_name slots key ≡ None → length slots + 1 + (length slots + 1) ≤ most
    → IsNameTable (put_name slots key None) count total most
table-room {count = count} {total = total} key most t none fits =
    table-new key None count total most t none (λ q. omega arith) (omega arith) fits

-- as many are named as room was made for, but two a new name
pub new_fits : {slots : Slots} {count : ℕ → ℕ} {total capacity : ℕ} → IsNameTable slots count total capacity
    → total + 2 ≤ 2 * (length slots + 1)
new_fits {slots = slots} t = (let many = t.many in let most = mentions_most slots in omega arith)
