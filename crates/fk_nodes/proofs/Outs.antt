-- Whether a node's count has reached the end of counters.
use Rattle.std.proofs.Common.{◌≡◌, ℕ, ◌+◌, ◌≤◌, ◌<◌, Bool, true, false, true≢false, cond, List, [], ◌∷◌, length, Option, Some, None, T, refl, ap, sym, subst, ◌∙◌, inl, inr, arith}
use Rattle.std.specs.Prelude.{nat_le, ◌||◌}
use Rattle.std.specs.Cmp.{nat_cmp_total}
use Rattle.std.specs.FinMap.{is_sorted}
use Rattle.std.specs.FinMap.Entries.{is_sorted-put}
use Rattle.std.specs.Ordering.{nat_cmp, is_eq}
use Rattle.std.proofs.lemmas.Bool.{cases_eq}
use Rattle.std.proofs.lemmas.Bool.Decides.{nat_tests}
use Rattle.fuse_spec.specs.declared.Counted.{Counted}
use Rattle.fuse_spec.specs.declared.Entry.{Entry}
use Rattle.fuse_spec.specs.Values.Maps.{Map, get, put}
use Rattle.fuse_spec.specs.Values.Numbers.{counter_end}
use Rattle.fuse_spec.specs.Files.Operations.{DirentPlus, listed_by}
use Rattle.fuse_spec.specs.Kernel.Replies.{Use, usable, unusable, stale, use_of, counted_more}
use Rattle.fuse_spec.proofs.Tables.{cmp_same, tie_no, get_put_here, get_put_there}
use Rattle.fk_dentry.proofs.SortedEntries.{both_first, both_second, none_below}
use Rattle.fk_nodes.proofs.Lengths.{length_put}
use Rattle.fuse_spec.specs.Kernel.Refusals.{is_counted_out}
use Rattle.fk_nodes.specs.LookedUp.{looked_up_by_use, looked_up_listed, looked_up_from, HaveCountsInRange}

is_le : (m n : ℕ) → m ≤ n → nat_le m n ≡ true
is_le m n le = grind (arith, nat_tests)

is_more : (m n : ℕ) → n < m → nat_le m n ≡ false
is_more m n lt = grind (arith, nat_tests)

is_less : (m n : ℕ) → nat_le m n ≡ false → n < m
is_less m n no_more = grind (arith, nat_tests)

pub or_true : (b : Bool) → (b || true) ≡ true
or_true true = refl
or_true false = refl

pub or_first : (a b : Bool) → (a || b) ≡ false → a ≡ false
or_first true b none = none
or_first false b none = refl

pub or_second : (a b : Bool) → (a || b) ≡ false → b ≡ false
or_second true b none = absurd (true≢false none)
or_second false b none = none

-- where one has, some has
pub some_out : (m : Map Counted) (id : ℕ) (c : Counted) → get m id ≡ Some c → counter_end ≤ c.count → is_counted_out m ≡ true
some_out [] id c at out = absurd (cc)
some_out (e ∷ m) id c at out = by (is_eq (nat_cmp id e.0)) at (λ there. some_out m id c there out)
  where
    by : (b : Bool) → cond b (Some e.1) (get m id) ≡ Some c → (get m id ≡ Some c → is_counted_out m ≡ true)
        → (nat_le counter_end e.1.count || is_counted_out m) ≡ true
    by true here rest =
        let same : e.1 ≡ c = cc here in
        ap (λ (b : Bool). b || is_counted_out m) (is_le counter_end e.1.count
        (subst (λ (x : Counted). counter_end ≤ x.count) (sym same) out))
    by false there rest = ap (λ (b : Bool). nat_le counter_end e.1.count || b) (rest there) ∙ or_true
        (nat_le counter_end e.1.count)

-- where none has, each is below
below_at : (m : Map Counted) → is_counted_out m ≡ false → (id : ℕ) (c : Counted) → get m id ≡ Some c → c.count < counter_end
below_at [] none id c at = absurd (cc)
below_at (e ∷ m) none id c at = by (is_eq (nat_cmp id e.0)) at
    (λ there. below_at m (or_second (nat_le counter_end e.1.count) (is_counted_out m) none) id c there)
  where
    by : (b : Bool) → cond b (Some e.1) (get m id) ≡ Some c → (get m id ≡ Some c → c.count < counter_end)
        → c.count < counter_end
    by true here rest =
        let same : e.1 ≡ c = cc here in
        subst (λ (x : Counted). x.count < counter_end) same
        (is_less counter_end e.1.count (or_first (nat_le counter_end e.1.count) (is_counted_out m) none))
    by false there rest = rest there

pub out_below : (m : Map Counted) → is_counted_out m ≡ false → HaveCountsInRange m
out_below m none = record { below = below_at m none }

-- where each is below, none has
pub none_out : (m : Map Counted) → T (is_sorted nat_cmp m) → HaveCountsInRange m → is_counted_out m ≡ false
none_out [] sorted all = refl
none_out (e ∷ m) sorted all =
    let here : get (e ∷ m) e.0 ≡ Some e.1 = ap (λ r. cond (is_eq r) (Some e.1) (get m e.0)) (cmp_same e.0) in
    ap (λ (b : Bool). b || is_counted_out m) (is_more counter_end e.1.count (all.below e.0 e.1 here))
    ∙ none_out m (both_second _ _ sorted) (record { below = λ id c at. all.below id c (there id c at) })
  where
    there : (id : ℕ) (c : Counted) → get m id ≡ Some c → get (e ∷ m) id ≡ Some c
    there id c at = elim (cases_eq id e.0) [
      | inl same ↦
          let none : get m e.0 ≡ None = none_below nat_cmp nat_cmp_total e.0 m (both_first _ _ sorted) in
          let found : get m e.0 ≡ Some c = subst (λ (n : ℕ). get m n ≡ Some c) same at in
          absurd (cc (none, found))
      | inr apart ↦ ap (λ (b : Bool). cond b (Some e.1) (get m id)) (tie_no id e.0 apart) ∙ at
    ]

-- one lookup more
pub one_below : (m : Map Counted) (g : Entry) → HaveCountsInRange m → (counted_more g (get m g.nodeid)).count < counter_end
    → HaveCountsInRange (put m g.nodeid (counted_more g (get m g.nodeid)))
one_below m g old fits = record {
  below = λ id c at. elim (cases_eq id g.nodeid) [
    | inl same ↦
        let new = counted_more g (get m g.nodeid) in
        let found : get (put m g.nodeid new) id ≡ Some new =
        subst (λ (n : ℕ). get (put m g.nodeid new) n ≡ Some new) (sym same) (get_put_here m g.nodeid new) in
        let is : new ≡ c = cc (found, at) in
        subst (λ (x : Counted). x.count < counter_end) is fits
    | inr apart ↦ old.below id c (sym (get_put_there m g.nodeid (counted_more g (get m g.nodeid)) id apart) ∙ at)
  ];
}

-- ---- the order stays

sorted_by : (m : Map Counted) (g : Entry) (u : Use) → T (is_sorted nat_cmp m)
    → T (is_sorted nat_cmp (looked_up_by_use m g u))
sorted_by m g usable sorted = is_sorted-put nat_cmp nat_cmp_total g.nodeid (counted_more g (get m g.nodeid)) m sorted
sorted_by m g unusable sorted = sorted
sorted_by m g (stale node) sorted = sorted

sorted_listed : (m : Map Counted) (o : Option Entry) → T (is_sorted nat_cmp m) → T (is_sorted nat_cmp (looked_up_listed m o))
sorted_listed m None sorted = sorted
sorted_listed m (Some g) sorted = sorted_by m g (use_of m g) sorted

pub sorted_from : (pairs : List (DirentPlus Entry)) (m : Map Counted) → T (is_sorted nat_cmp m)
    → T (is_sorted nat_cmp (looked_up_from m pairs))
sorted_from [] m sorted = sorted
sorted_from (pair ∷ pairs) m sorted = sorted_from pairs (looked_up_listed m (listed_by pair))
    (sorted_listed m (listed_by pair) sorted)

-- how many nodes there are then
long_by : (m : Map Counted) (g : Entry) (u : Use) → length (looked_up_by_use m g u) ≤ length m + 1
long_by m g usable = length_put m g.nodeid (counted_more g (get m g.nodeid))
long_by m g unusable = omega arith
long_by m g (stale node) = omega arith

long_listed : (m : Map Counted) (o : Option Entry) → length (looked_up_listed m o) ≤ length m + 1
long_listed m None = omega arith
long_listed m (Some g) = long_by m g (use_of m g)

pub long_from : (pairs : List (DirentPlus Entry)) (m : Map Counted)
    → length (looked_up_from m pairs) ≤ length m + length pairs
long_from [] m = omega arith
long_from (pair ∷ pairs) m =
    let rest = long_from pairs (looked_up_listed m (listed_by pair)) in
    let one = long_listed m (listed_by pair) in
    omega (arith, rest, one)

pub or_none : (a b : Bool) → a ≡ false → b ≡ false → (a || b) ≡ false
or_none a b first second = ap (λ (x : Bool). x || b) first ∙ second
