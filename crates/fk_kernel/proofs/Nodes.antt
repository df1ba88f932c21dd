-- The counted nodes stay below the end of counters and within what room there is, and the keys of calls rise.
use Rattle.std.proofs.Common.{◌≡◌, ℕ, ◌+◌, ◌≤◌, ◌<◌, Bool, true, false, cond, nat_lt, List, [], ◌∷◌, length, nat_eq, Option, Some, None, T, refl, ap, sym, ◌∙◌, subst, inl, inr, arith}
use Rattle.std.specs.Prelude.{is_some, not}
use Rattle.std.specs.Ordering.{nat_cmp}
use Rattle.std.specs.Cmp.{nat_cmp_total}
use Rattle.std.specs.FinMap.{is_sorted, nat_cmp-IsAntisymmetric}
use Rattle.std.specs.FinMap.Entries.{is_sorted-put, same_entries, length-put}
use Rattle.fuse_spec.specs.declared.Counted.{Counted}
use Rattle.fuse_spec.specs.declared.Purpose.{Purpose}
use Rattle.fuse_spec.specs.Values.Maps.{Map, get, put, remove}
use Rattle.fuse_spec.specs.Kernel.Queues.{QueueState}
use Rattle.fuse_spec.specs.Kernel.QueueCalls.{waiting, after_answer, without}
use Rattle.fuse_spec.specs.declared.Entry.{Entry as NodeEntry}
use Rattle.fuse_spec.specs.Kernel.Replies.{counted_more, looked_up, usable, unusable, stale, use_counted, use_of}
use Rattle.fuse_spec.proofs.Tables.{get_put_here, get_put_there, get_gone_there}
use Rattle.std.proofs.lemmas.Bool.{cases_eq}
use Rattle.std.proofs.lemmas.Bool.Decides.{nat_tests}
use Rattle.fk_lookup_count.proofs.NumberMaps.{sorted-filter}
use Rattle.fk_kernel.proofs.Sound.{length_put}
use Rattle.fuse_spec.specs.Values.Numbers.{counter_end}
use Rattle.fuse_spec.specs.Files.Operations.{DirentPlus}
use Rattle.fk_nodes.specs.LookedUp.{looked_up_from, HaveCountsInRange}
use Rattle.fk_nodes.proofs.Outs.{one_below, long_from}
use Rattle.fk_kernel.specs.Soundness.{CanForgetAll}

-- The counts stay within what room there is.
pub still_counted : (nodes : Map Counted) (forgets more : ℕ) → CanForgetAll nodes forgets → forgets ≤ more
    → CanForgetAll nodes more
still_counted nodes forgets more counted room = record {
  below = counted.below;
  room = omega (arith, counted.room, room);
}

-- No node is counted yet.
pub none_counted : (forgets : ℕ) → CanForgetAll [] forgets
none_counted forgets = record {
  below = record {
    below = λ id node at.
        let no : ◌≡◌ {A = Option Counted} None (Some node) = at in
        cc;
  };
  room = omega arith;
}

-- One lookup more is counted.
pub looked_up_counted : (nodes : Map Counted) (forgets more : ℕ) → CanForgetAll nodes forgets → length nodes + 1 ≤ more
    → (g : NodeEntry) → (counted_more g (get nodes g.nodeid)).count < counter_end
    → CanForgetAll (looked_up nodes (g ∷ [])) more
looked_up_counted nodes forgets more counted room g fits =
    let long = length_put nodes g.nodeid (counted_more g (get nodes g.nodeid)) in
    record { below = one_below nodes g counted.below fits; room = omega (arith, long, room) }

-- The names of a list are counted.
pub listed_counted : (nodes : Map Counted) (more : ℕ) (pairs : List (DirentPlus NodeEntry))
    → HaveCountsInRange (looked_up_from nodes pairs) → length nodes + length pairs ≤ more
    → CanForgetAll (looked_up_from nodes pairs) more
listed_counted nodes more pairs below room =
    let long = long_from pairs nodes in
    record { below = below; room = omega (arith, long, room) }

pub answered_is : (s : QueueState Purpose) (unique : ℕ) → is_some (waiting s unique) ≡ true
    → after_answer s unique ≡ without s unique
answered_is s unique waits = rw waits refl

-- The keys of calls rise.
module _ {V : Type 0} where
  pub sorted_put : (m : Map V) (k : ℕ) (v : V) → T (is_sorted nat_cmp m) → T (is_sorted nat_cmp (put m k v))
  sorted_put m k v sorted = is_sorted-put nat_cmp nat_cmp_total k v m sorted

  pub sorted_gone : (m : Map V) (k : ℕ) → T (is_sorted nat_cmp m) → T (is_sorted nat_cmp (remove m k))
  sorted_gone m k sorted = sorted-filter (λ e. not (nat_eq e.0 k)) m sorted

  -- what goes and comes again under its key is put there
  pub put_gone : (m : Map V) (k : ℕ) (v : V) → T (is_sorted nat_cmp m) → put (remove m k) k v ≡ put m k v
  put_gone m k v sorted =
      same_entries nat_cmp nat_cmp_total nat_cmp-IsAntisymmetric (put (remove m k) k v) (put m k v)
      (sorted_put (remove m k) k v (sorted_gone m k sorted)) (sorted_put m k v sorted) at
    where
      at : (q : ℕ) → get (put (remove m k) k v) q ≡ get (put m k v) q
      at q = elim (cases_eq q k) [
        | inl e ↦ subst (λ (n : ℕ). get (put (remove m k) k v) n ≡ get (put m k v) n) (sym e)
            (get_put_here (remove m k) k v ∙ sym (get_put_here m k v))
        | inr ne ↦ get_put_there (remove m k) k v q ne ∙ get_gone_there m k q ne ∙ sym (get_put_there m k v q ne)
      ]

  -- it adds no entry
  pub length_again : (m : Map V) (k : ℕ) (v : V) → T (is_sorted nat_cmp m) → is_some (get m k) ≡ true
      → length (put m k v) ≡ length m
  length_again m k v sorted there = length-put nat_cmp nat_cmp_total k v m sorted ∙ ap
      (λ (b : Bool). cond b (length m) (length m + 1)) there

same_number : (a b : ℕ) → nat_eq a b ≡ true → a ≡ b
same_number a b e = grind (arith, nat_tests, e)

-- what is said of an entry that can be used
alike_by : (below same : Bool) (node : ℕ) → cond below unusable (cond same usable (stale node)) ≡ usable → same ≡ true
alike_by true same node can = cc
alike_by false true node can = refl
alike_by false false node can = cc

-- An entry that can be used has the generation under which its node is counted.
pub alike : (nodes : Map Counted) (g : NodeEntry) → use_of nodes g ≡ usable → (x : Counted)
    → get nodes g.nodeid ≡ Some x → x.generation ≡ g.generation
alike nodes g can x at = same_number x.generation g.generation (alike_by (nat_lt g.nodeid 2)
    (nat_eq x.generation g.generation) g.nodeid (subst (λ (o : Option Counted). cond (nat_lt g.nodeid 2) unusable
    (use_counted g o) ≡ usable) at can))
