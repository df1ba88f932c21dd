-- How far the names of a list raise the counts of nodes.
use Rattle.std.proofs.Common.{◌≡◌, ◌≢◌, ◌⊎◌, ℕ, suc, ◌+◌, ◌≤◌, ◌<◌, Bool, true, false, true≢false, cond, List, [], ◌∷◌, length, Option, Some, None, nat_eq, refl, ap, sym, subst, ◌∙◌, inl, inr, arith, All}
use Rattle.std.specs.Prelude.{nat_lt, ◌&&◌}
use Rattle.std.proofs.lemmas.Bool.{cases_eq}
use Rattle.std.proofs.lemmas.Bool.Decides.{eqb_tells}
use Rattle.std.proofs.lemmas.List.Elements.{All-head, All-tail}
use Rattle.fuse_spec.specs.declared.Counted.{Counted}
use Rattle.fuse_spec.specs.declared.Entry.{Entry}
use Rattle.fuse_spec.specs.Values.Maps.{Map, get, put}
use Rattle.fuse_spec.specs.Values.Numbers.{counter_end}
use Rattle.fuse_spec.specs.Files.Operations.{DirentPlus, listed_by}
use Rattle.fuse_spec.specs.Kernel.Replies.{Use, usable, unusable, stale, use_counted, use_of, counted_more}
use Rattle.fuse_spec.proofs.Tables.{get_put_here, get_put_there}
use Rattle.fk_nodes.specs.LookedUp.{looked_up_by_use, looked_up_listed, looked_up_from, is_of_node, times_listed, LeavesBelow, HaveCountsInRange, SomeOut}

itself : (n : ℕ) → nat_eq n n ≡ true
itself n = elim (eqb_tells n n) [ inl h ↦ h.0 | inr h ↦ absurd (h.1 refl) ]

other : (m n : ℕ) → m ≢ n → nat_eq m n ≡ false
other m n ne = elim (eqb_tells m n) [ inl h ↦ absurd (ne h.1) | inr h ↦ h.0 ]

-- ---- one name

-- of another node
other_node : (nodes : Map Counted) (g : Entry) (u : Use) (id : ℕ) → id ≢ g.nodeid
    → get (looked_up_by_use nodes g u) id ≡ get nodes id
other_node nodes g usable id ne = get_put_there nodes g.nodeid (counted_more g (get nodes g.nodeid)) id ne
other_node nodes g unusable id ne = refl
other_node nodes g (stale node) id ne = refl

-- the count of a node that is counted
abbrev more_if : Bool → Counted → Counted
more_if told c = record c { count = cond told (c.count + 1) c.count }

module _ (nodes : Map Counted) (id : ℕ) (c : Counted) (file : nat_lt id 2 ≡ false) (at : get nodes id ≡ Some c) where
  here_by : (g : Entry) → g.nodeid ≡ id → (b : Bool) → nat_eq c.generation g.generation ≡ b
      → get (looked_up_by_use nodes g (cond b usable (stale g.nodeid))) id ≡ Some (more_if b c)
  here_by g same true is =
      let there : get nodes g.nodeid ≡ Some c = subst (λ (n : ℕ). get nodes n ≡ Some c) (sym same) at in
      let new = counted_more g (get nodes g.nodeid) in
      subst (λ (n : ℕ). get (put nodes g.nodeid new) n ≡ Some new) same (get_put_here nodes g.nodeid new) ∙ ap
      (λ (o : Option Counted). Some (counted_more g o)) there
  here_by g same false is = at

  use_here : (g : Entry) → g.nodeid ≡ id → use_of nodes g
      ≡ cond (nat_eq c.generation g.generation) usable (stale g.nodeid)
  use_here g same =
      let there : get nodes g.nodeid ≡ Some c = subst (λ (n : ℕ). get nodes n ≡ Some c) (sym same) at in
      let high : nat_lt g.nodeid 2 ≡ false = subst (λ (n : ℕ). nat_lt n 2 ≡ false) (sym same) file in
      ap (λ (b : Bool). cond b unusable (use_counted g (get nodes g.nodeid))) high ∙ ap (use_counted g) there

  swapped : (m n : ℕ) → nat_eq m n ≡ nat_eq n m
  swapped m n = elim (cases_eq m n) [
    | inl e ↦ subst (λ (k : ℕ). nat_eq m k ≡ nat_eq k m) e refl
    | inr ne ↦ other m n ne ∙ sym (other n m (λ e. ne (sym e)))
  ]

  listed_once : (g : Entry) → get (looked_up_listed nodes (Some g)) id ≡ Some (more_if (is_of_node id c.generation (Some g)) c)
  listed_once g = elim (cases_eq g.nodeid id) [
    | inl same ↦
        ap (λ (u : Use). get (looked_up_by_use nodes g u) id) (use_here g same) ∙ here_by g same
        (nat_eq c.generation g.generation) refl
        ∙ ap (λ (b : Bool). Some (more_if b c)) (swapped c.generation g.generation ∙ sym
        (ap (λ (b : Bool). b && nat_eq g.generation c.generation)
        (subst (λ (n : ℕ). nat_eq n id ≡ true) (sym same) (itself id))))
    | inr ne ↦
        other_node nodes g (use_of nodes g) id (λ e. ne (sym e)) ∙ at ∙ ap
        (λ (b : Bool). Some (more_if (b && nat_eq g.generation c.generation) c)) (sym (other g.nodeid id ne))
  ]

  pub counted_listed : (o : Option Entry) → get (looked_up_listed nodes o) id ≡ Some (more_if (is_of_node id c.generation o) c)
  counted_listed None = at
  counted_listed (Some g) = listed_once g

-- The count of a node after the names of a list: one lookup more for each that has it under its generation.
pub counted_times : (pairs : List (DirentPlus Entry)) (nodes : Map Counted) (id : ℕ) (c : Counted)
    → nat_lt id 2 ≡ false → get nodes id ≡ Some c
    → get (looked_up_from nodes pairs) id ≡ Some (record c { count = c.count + times_listed id c.generation pairs })
counted_times [] nodes id c file at = at ∙ ap (λ (n : ℕ). Some (record c { count = n })) (omega arith)
counted_times (pair ∷ pairs) nodes id c file at =
    by (is_of_node id c.generation (listed_by pair)) (counted_listed nodes id c file at (listed_by pair))
    (λ (d : Counted) here. counted_times pairs (looked_up_listed nodes (listed_by pair)) id d file here)
  where
    by : (b : Bool) → get (looked_up_listed nodes (listed_by pair)) id ≡ Some (more_if b c)
        → ((d : Counted) → get (looked_up_listed nodes (listed_by pair)) id ≡ Some d
        → get (looked_up_from (looked_up_listed nodes (listed_by pair)) pairs) id
        ≡ Some (record d { count = d.count + times_listed id d.generation pairs }))
        → get (looked_up_from (looked_up_listed nodes (listed_by pair)) pairs) id
        ≡ Some (record c {
          count = c.count + cond b (suc (times_listed id c.generation pairs))
              (times_listed id c.generation pairs);
        })
    by true here rest = rest (more_if true c) here ∙ ap (λ (n : ℕ). Some (record c { count = n })) (omega arith)
    by false here rest = rest (more_if false c) here

-- ---- the root and no node

low_by : (nodes : Map Counted) (g : Entry) (id : ℕ) → nat_lt id 2 ≡ true
    → get (looked_up_listed nodes (Some g)) id ≡ get nodes id
low_by nodes g id low = elim (cases_eq id g.nodeid) [
  | inl same ↦
      let useless_is : use_of nodes g ≡ unusable = ap (λ (b : Bool). cond b unusable
      (use_counted g (get nodes g.nodeid))) (subst (λ (n : ℕ). nat_lt n 2 ≡ true) same low) in
      ap (λ (u : Use). get (looked_up_by_use nodes g u) id) useless_is
  | inr ne ↦ other_node nodes g (use_of nodes g) id ne
]

low_listed : (nodes : Map Counted) (o : Option Entry) (id : ℕ) → nat_lt id 2 ≡ true
    → get (looked_up_listed nodes o) id ≡ get nodes id
low_listed nodes None id low = refl
low_listed nodes (Some g) id low = low_by nodes g id low

low_stays : (pairs : List (DirentPlus Entry)) (nodes : Map Counted) (id : ℕ) → nat_lt id 2 ≡ true
    → get (looked_up_from nodes pairs) id ≡ get nodes id
low_stays [] nodes id low = refl
low_stays (pair ∷ pairs) nodes id low = low_stays pairs (looked_up_listed nodes (listed_by pair)) id low ∙ low_listed nodes
    (listed_by pair) id low

-- ---- a node that is new

pub times_few : (id generation : ℕ) (pairs : List (DirentPlus Entry)) → times_listed id generation pairs ≤ length pairs
times_few id generation [] = omega arith
times_few id generation (pair ∷ pairs) =
    let rest = times_few id generation pairs in
    elim (is_of_node id generation (listed_by pair)) as (λ b. cond b (suc (times_listed id generation pairs))
    (times_listed id generation pairs) ≤ length (pair ∷ pairs)) [ true ↦ omega arith | false ↦ omega arith ]

-- it is counted once, or not at all
abbrev IsFresh : Option Counted → Type 0
IsFresh None = Unit {0}
IsFresh (Some c) = c.count ≡ 1

fresh_more : (g : Entry) (o : Option Counted) → o ≡ None → (counted_more g o).count ≡ 1
fresh_more g None none = refl
fresh_more g (Some c) none = absurd (cc)

fresh_by : (nodes : Map Counted) (g : Entry) (u : Use) (id : ℕ) → get nodes id ≡ None
    → IsFresh (get (looked_up_by_use nodes g u) id)
fresh_by nodes g usable id none = elim (cases_eq id g.nodeid) [
  | inl same ↦
      let new = counted_more g (get nodes g.nodeid) in
      let there : get nodes g.nodeid ≡ None = subst (λ (n : ℕ). get nodes n ≡ None) same none in
      let found : get (put nodes g.nodeid new) id ≡ Some new =
      subst (λ (n : ℕ). get (put nodes g.nodeid new) n ≡ Some new) (sym same) (get_put_here nodes g.nodeid new) in
      subst IsFresh (sym found) (fresh_more g (get nodes g.nodeid) there)
  | inr ne ↦ subst IsFresh (sym (get_put_there nodes g.nodeid (counted_more g (get nodes g.nodeid)) id ne ∙ none)) tt
]
fresh_by nodes g unusable id none = subst IsFresh (sym none) tt
fresh_by nodes g (stale node) id none = subst IsFresh (sym none) tt

fresh_listed : (nodes : Map Counted) (o : Option Entry) (id : ℕ) → get nodes id ≡ None
    → IsFresh (get (looked_up_listed nodes o) id)
fresh_listed nodes None id none = subst IsFresh (sym none) tt
fresh_listed nodes (Some g) id none = fresh_by nodes g (use_of nodes g) id none

new_few : (pairs : List (DirentPlus Entry)) (nodes : Map Counted) (id : ℕ) (c : Counted) → nat_lt id 2 ≡ false
    → get nodes id ≡ None → get (looked_up_from nodes pairs) id ≡ Some c → c.count ≤ length pairs
new_few [] nodes id c file none at = absurd (cc (none, at))
new_few (pair ∷ pairs) nodes id c file none at =
    by (get (looked_up_listed nodes (listed_by pair)) id) refl (fresh_listed nodes (listed_by pair) id none)
    (λ is. new_few pairs (looked_up_listed nodes (listed_by pair)) id c file is at)
  where
    by : (o : Option Counted) → get (looked_up_listed nodes (listed_by pair)) id ≡ o → IsFresh o
        → (get (looked_up_listed nodes (listed_by pair)) id ≡ None → c.count ≤ length pairs) → c.count ≤ length (pair ∷ pairs)
    by None is fresh rest =
        let few = rest is in
        omega arith
    by (Some d) is fresh rest =
        let told = counted_times pairs (looked_up_listed nodes (listed_by pair)) id d file is in
        let same : record d { count = d.count + times_listed id d.generation pairs } ≡ c = cc (told, at) in
        let count : d.count + times_listed id d.generation pairs ≡ c.count = ap (λ (x : Counted). x.count) same in
        let few = times_few id d.generation pairs in
        omega arith

-- ---- the end of counters

module _ (nodes : Map Counted) (pairs : List (DirentPlus Entry)) (id : ℕ) (c : Counted) (file : nat_lt id 2 ≡ false)
    (at : get nodes id ≡ Some c) where
  abbrev times : ℕ
  times = times_listed id c.generation pairs

  one_leaves : (o : Option Entry) → is_of_node id c.generation o ≡ true → LeavesBelow nodes pairs o
      → c.count + times < counter_end
  one_leaves None told leaves = absurd (true≢false (sym told))
  one_leaves (Some g) told leaves = elim (eqb_tells g.nodeid id) [
    | inl here ↦ elim (eqb_tells g.generation c.generation) [
      | inl same ↦
          let high : nat_lt g.nodeid 2 ≡ false = subst (λ (n : ℕ). nat_lt n 2 ≡ false) (sym here.1) file in
          let there : get nodes g.nodeid ≡ Some c = subst (λ (n : ℕ). get nodes n ≡ Some c) (sym here.1) at in
          let below = leaves c high there (sym same.1) in
          subst (λ (n : ℕ). c.count + times_listed n c.generation pairs < counter_end) here.1
          (subst (λ (n : ℕ). c.count + times_listed g.nodeid n pairs < counter_end) same.1 below)
      | inr apart ↦ absurd (true≢false (sym told ∙ ap (λ (b : Bool). nat_eq g.nodeid id && b) apart.0 ∙ never
          (nat_eq g.nodeid id)))
    ]
    | inr apart ↦ absurd (true≢false (sym told ∙ ap (λ (b : Bool). b && nat_eq g.generation c.generation) apart.0))
  ]
    where
      never : (b : Bool) → (b && false) ≡ false
      never true = refl
      never false = refl

  some_leaves : (some : List (DirentPlus Entry)) → All
      (λ (pair : DirentPlus Entry). LeavesBelow nodes pairs (listed_by pair)) some
      → (times_listed id c.generation some ≡ 0) ⊎ (c.count + times < counter_end)
  some_leaves [] leaves = inl refl
  some_leaves (pair ∷ rest) leaves = by (is_of_node id c.generation (listed_by pair)) refl
      (some_leaves rest (All-tail (λ (x : DirentPlus Entry). LeavesBelow nodes pairs (listed_by x)) pair rest leaves))
    where
      by : (b : Bool) → is_of_node id c.generation (listed_by pair) ≡ b
          → (times_listed id c.generation rest ≡ 0) ⊎ (c.count + times < counter_end)
          → (cond b (suc (times_listed id c.generation rest)) (times_listed id c.generation rest) ≡ 0)
          ⊎ (c.count + times < counter_end)
      by true is behind = inr (one_leaves (listed_by pair) is
          (All-head (λ (x : DirentPlus Entry). LeavesBelow nodes pairs (listed_by x)) pair rest leaves))
      by false is behind = behind

  counted_below : HaveCountsInRange nodes → All (λ (pair : DirentPlus Entry). LeavesBelow nodes pairs (listed_by pair)) pairs
      → c.count + times < counter_end
  counted_below old leaves = elim (some_leaves pairs leaves) [
    | inl none ↦
        let below = old.below id c at in
        subst (λ (n : ℕ). c.count + n < counter_end) (sym none)
        (subst (λ (n : ℕ). n < counter_end) (plus_none c.count) below)
    | inr below ↦ below
  ]
    where
      plus_none : (n : ℕ) → n ≡ n + 0
      plus_none n = omega arith

-- Where each does, no count reaches the end.
pub stay_below : (nodes : Map Counted) (pairs : List (DirentPlus Entry)) → HaveCountsInRange nodes → length pairs < counter_end
    → All (λ (pair : DirentPlus Entry). LeavesBelow nodes pairs (listed_by pair)) pairs
    → HaveCountsInRange (looked_up_from nodes pairs)
stay_below nodes pairs old few leaves = record { below = λ id d at. by (nat_lt id 2) id d refl at }
  where
    known : (id : ℕ) (d : Counted) → nat_lt id 2 ≡ false → get (looked_up_from nodes pairs) id ≡ Some d
        → (o : Option Counted) → get nodes id ≡ o → d.count < counter_end
    known id d file at None was =
        let less = new_few pairs nodes id d file was at in
        omega (arith, less, few)
    known id d file at (Some c) was =
        let told = counted_times pairs nodes id c file was in
        let same : record c { count = c.count + times_listed id c.generation pairs } ≡ d = cc (told, at) in
        subst (λ (x : Counted). x.count < counter_end) same (counted_below nodes pairs id c file was old leaves)

    by : (b : Bool) (id : ℕ) (d : Counted) → nat_lt id 2 ≡ b → get (looked_up_from nodes pairs) id ≡ Some d
        → d.count < counter_end
    by true id d low at = old.below id d (sym (low_stays pairs nodes id low) ∙ at)
    by false id d file at = known id d file at (get nodes id) refl

-- Where one does not, a count reaches the end.
pub one_out : (nodes : Map Counted) (pairs : List (DirentPlus Entry)) (id : ℕ) (c : Counted) → nat_lt id 2 ≡ false
    → get nodes id ≡ Some c → counter_end ≤ c.count + times_listed id c.generation pairs
    → SomeOut (looked_up_from nodes pairs)
one_out nodes pairs id c file at out = record {
  id = id;
  counted = record c { count = c.count + times_listed id c.generation pairs };
  at =
      counted_times pairs nodes id c file at;
  out = out;
}

-- Counts never fall.
pub below_before : (nodes : Map Counted) (pairs : List (DirentPlus Entry)) → HaveCountsInRange (looked_up_from nodes pairs)
    → HaveCountsInRange nodes
below_before nodes pairs after = record { below = λ id c at. by (nat_lt id 2) id c refl at }
  where
    by : (b : Bool) (id : ℕ) (c : Counted) → nat_lt id 2 ≡ b → get nodes id ≡ Some c → c.count < counter_end
    by true id c low at = after.below id c (low_stays pairs nodes id low ∙ at)
    by false id c file at =
        let later = after.below id (record c { count = c.count + times_listed id c.generation pairs })
        (counted_times pairs nodes id c file at) in
        omega (arith, later)
