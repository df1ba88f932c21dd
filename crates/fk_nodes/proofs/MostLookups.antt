-- How high the counts of nodes are once more lookups are counted.
use Rattle.std.proofs.Common.{◌≡◌, ℕ, ◌+◌, ◌-◌, ◌^◌, ◌≤◌, ◌<◌, List, [], ◌∷◌, length, Option, Some, None, min, refl, sym, subst, ◌∙◌, inl, inr, arith}
use Rattle.std.specs.Option.{ForSome}
use Rattle.std.proofs.lemmas.Bool.{cases_eq}
use Rattle.fuse_spec.specs.declared.Counted.{Counted}
use Rattle.fuse_spec.specs.declared.Entry.{Entry}
use Rattle.fuse_spec.specs.Values.Maps.{Map, get, put, remove}
use Rattle.fuse_spec.specs.Values.Numbers.{counter_end}
use Rattle.fuse_spec.specs.Files.Operations.{DirentPlus, listed_by}
use Rattle.fuse_spec.specs.Kernel.Replies as replies
use Rattle.fuse_spec.specs.Kernel.Replies.{Use, usable, unusable, stale, use_of, counted_more}
use Rattle.fuse_spec.proofs.Tables.{get_put_here, get_put_there, get_gone_here, get_gone_there}
use Rattle.fk_nodes.specs.LookedUp.{looked_up_by_use, looked_up_listed, looked_up_from, HaveCountsInRange, AreAtMost}

-- an entry counted once more, while this is no lower than its count then
module _ (nodes : Map Counted) (g : Entry) (most more : ℕ) (old : AreAtMost most nodes) (rises : most ≤ more)
    (new : (counted_more g (get nodes g.nodeid)).count ≤ more) where
  pub one_more : AreAtMost more (replies.looked_up nodes (g ∷ []))
  one_more = record { within = by }
    where
      by : (id : ℕ) (c : Counted) → get (put nodes g.nodeid (counted_more g (get nodes g.nodeid))) id ≡ Some c
          → c.count ≤ more
      by id c at = elim (cases_eq id g.nodeid) [
        | inl same ↦
            let node = counted_more g (get nodes g.nodeid) in
            let here : get (put nodes g.nodeid node) id ≡ Some node =
            subst (λ (n : ℕ). get (put nodes g.nodeid node) n ≡ Some node) (sym same) (get_put_here nodes g.nodeid node) in
            let is : node ≡ c = cc (here, at) in
            subst (λ (x : Counted). x.count ≤ more) is new
        | inr apart ↦
            let there : get nodes id ≡ Some c =
            sym (get_put_there nodes g.nodeid (counted_more g (get nodes g.nodeid)) id apart) ∙ at in
            let within = old.within id c there in
            omega (arith, within, rises)
      ]

  kept : AreAtMost more nodes
  kept = record { within = λ id c at. let within = old.within id c at in omega (arith, within, rises) }

  one_more_by : (u : Use) → AreAtMost more (looked_up_by_use nodes g u)
  one_more_by usable = one_more
  one_more_by unusable = kept
  one_more_by (stale node) = kept

more_by : (g : Entry) (most : ℕ) (o : Option Counted) → ((c : Counted) → o ≡ Some c → c.count ≤ most)
    → (counted_more g o).count ≤ most + 1
more_by g most None within = omega arith
more_by g most (Some c) within =
    let low = within c refl in
    omega (arith, low)

-- a number that stops at the end of u64
fits_by : (g : Entry) (most more : ℕ) (o : Option Counted) → ((c : Counted) → o ≡ Some c → c.count ≤ most)
    → ForSome o (λ c. c.count + 1 < 2 ^ 64) → more ≡ min (most + 1) (2 ^ 64 - 1) → (counted_more g o).count ≤ more
fits_by g most more None within fits is = omega (arith, is)
fits_by g most more (Some c) within fits is =
    let low = within c refl in
    let fit = fits c refl in
    omega (arith, low, fit, is)

pub one_saturated : (nodes : Map Counted) (g : Entry) (most more : ℕ) → AreAtMost most nodes → most < 2 ^ 64
    → ForSome (get nodes g.nodeid) (λ c. c.count + 1 < 2 ^ 64) → more ≡ min (most + 1) (2 ^ 64 - 1)
    → AreAtMost more (replies.looked_up nodes (g ∷ []))
one_saturated nodes g most more old low fits is = one_more nodes g most more old (omega (arith, low, is))
    (fits_by g most more (get nodes g.nodeid) (old.within g.nodeid) fits is)

-- a name that gives a file, or none
one_listed : (nodes : Map Counted) (o : Option Entry) (most : ℕ) → AreAtMost most nodes
    → AreAtMost (most + 1) (looked_up_listed nodes o)
one_listed nodes None most old = record { within = λ id c at. let within = old.within id c at in omega (arith, within) }
one_listed nodes (Some g) most old = one_more_by nodes g most (most + 1) old (omega arith)
    (more_by g most (get nodes g.nodeid) (old.within g.nodeid)) (use_of nodes g)

-- the names of a list
pub all_listed : (pairs : List (DirentPlus Entry)) (nodes : Map Counted) (most : ℕ) → AreAtMost most nodes
    → AreAtMost (most + length pairs) (looked_up_from nodes pairs)
all_listed [] nodes most old = record { within = λ id c at. let within = old.within id c at in omega (arith, within) }
all_listed (pair ∷ pairs) nodes most old =
    let next = looked_up_listed nodes (listed_by pair) in
    let rest = all_listed pairs next (most + 1) (one_listed nodes (listed_by pair) most old) in
    record { within = λ id c at. let within = rest.within id c at in omega (arith, within) }

-- far from the end of counters
pub all_below : (pairs : List (DirentPlus Entry)) (nodes : Map Counted) (most more : ℕ) → AreAtMost most nodes
    → more ≡ min (most + length pairs) (2 ^ 64 - 1) → more < counter_end → HaveCountsInRange (looked_up_from nodes pairs)
all_below pairs nodes most more old is low =
    let all = all_listed pairs nodes most old in
    record { below = λ id c at. let within = all.within id c at in omega (arith, within, is, low) }

pub all_saturated : (pairs : List (DirentPlus Entry)) (nodes : Map Counted) (most more : ℕ) → AreAtMost most nodes
    → HaveCountsInRange (looked_up_from nodes pairs) → more ≡ min (most + length pairs) (2 ^ 64 - 1)
    → AreAtMost more (looked_up_from nodes pairs)
all_saturated pairs nodes most more old below is =
    let all = all_listed pairs nodes most old in
    record {
      within = λ id c at.
          let within = all.within id c at in
          let low = below.below id c at in
          omega (arith, within, low, is);
    }

-- one node fewer
pub one_fewer : (most : ℕ) (nodes : Map Counted) (id : ℕ) → AreAtMost most nodes → AreAtMost most (remove nodes id)
one_fewer most nodes id old = record {
  within = λ other c at. elim (cases_eq other id) [
    | inl same ↦
        let none : get (remove nodes id) other ≡ None =
        subst (λ (n : ℕ). get (remove nodes id) n ≡ None) (sym same) (get_gone_here nodes id) in
        absurd (cc (none, at))
    | inr apart ↦ old.within other c (sym (get_gone_there nodes id other apart) ∙ at)
  ];
}
