-- The nodes of either side are listed in rising id, without the root.
use Rattle.std.proofs.Common.{◌≡◌, ℕ, ◌≤◌, ◌&&◌, Bool, List, [], ◌∷◌, Option, Some, None, map, refl, ap, sym, subst, ◌∙◌, arith, All, Result, Ok, Err}
use Rattle.std.specs.Prelude.{IfOk, T, true, false}
use Rattle.std.specs.Ordering.{nat_cmp, is_lt}
use Rattle.std.specs.FinMap.{is_sorted}
use Rattle.std.specs.FinMap.Entries.{below_all}
use Rattle.std.proofs.lemmas.List.Elements.{All-nil, All-cons}
use Rattle.fuse_spec.specs.Values.Maps.{Map, get}
use Rattle.fuse_spec.specs.World.Worlds.{World}
use Rattle.fuse_spec.specs.Kernel.Kernel.{is_live}
use Rattle.fuse_spec.specs.declared.Counted.{Counted}
use Rattle.fuse_spec.specs.declared.NodeCount.{NodeCount}
use Rattle.fuse_spec.specs.Server.Nodes.{HeldNode}
use Rattle.fuse_spec.proofs.Tables.{cmp_same}
use Rattle.fuse_theorem.proofs.Answers.AnswersApart.{both_first, both_second}
use Rattle.fuse_theorem.proofs.Lists.MapSums.{less_is}
use Rattle.fuse_theorem.specs.SoundWorlds.{IsSoundWorld}
use Rattle.fk_lookup_count.specs.CountedNodes.{listed_counts}
use Rattle.fs_nodes.specs.Rows.{listed_nodes}
use Rattle.fw_world.specs.ListedNodes.{AreListed}

module _ {X : Type 0} (generation count : X → ℕ) where
  abbrev node : ℕ × X → NodeCount
  node e = record { nodeid = e.0; generation = generation e.1; count = count e.1 }

  abbrev listed : Map X → List NodeCount
  listed m = map (λ (e : ℕ × X). node e) m

  abbrev by_id : List NodeCount → Map NodeCount
  by_id nodes = map (λ (n : NodeCount). (n.nodeid, n)) nodes

  same_below : (k : ℕ) (m : Map X) → below_all nat_cmp k (by_id (listed m)) ≡ below_all nat_cmp k m
  same_below k [] = refl
  same_below k (e ∷ m) = ap (λ (b : Bool). is_lt (nat_cmp k e.0) && b) (same_below k m)

  same_order : (m : Map X) → is_sorted nat_cmp (by_id (listed m)) ≡ is_sorted nat_cmp m
  same_order [] = refl
  same_order (e ∷ m) =
      ap (λ (b : Bool). b && is_sorted nat_cmp (by_id (listed m))) (same_below e.0 m)
      ∙ ap (λ (b : Bool). below_all nat_cmp e.0 m && b) (same_order m)

  -- what is above a node that is not the root is no root
  above : (k : ℕ) (m : Map X) → 2 ≤ k → T (below_all nat_cmp k m) → All (λ (n : NodeCount). 2 ≤ n.nodeid) (listed m)
  above k [] low below = All-nil (λ (n : NodeCount). 2 ≤ n.nodeid)
  above k (e ∷ m) low below =
      let first = less_is k e.0 (both_first (is_lt (nat_cmp k e.0)) (below_all nat_cmp k m) below) in
      let rest = above k m low (both_second (is_lt (nat_cmp k e.0)) (below_all nat_cmp k m) below) in
      All-cons (λ (n : NodeCount). 2 ≤ n.nodeid) (node e) (listed m) (omega (arith, first, low)) rest

  no_root : (m : Map X) → T (is_sorted nat_cmp m) → ((id : ℕ) (x : X) → get m id ≡ Some x → 2 ≤ id)
      → All (λ (n : NodeCount). 2 ≤ n.nodeid) (listed m)
  no_root [] sorted from_two = All-nil (λ (n : NodeCount). 2 ≤ n.nodeid)
  no_root (e ∷ m) sorted from_two =
      let first = from_two e.0 e.1 (rw (cmp_same e.0) refl) in
      let rest = above e.0 m first (both_first (below_all nat_cmp e.0 m) (is_sorted nat_cmp m) sorted) in
      All-cons (λ (n : NodeCount). 2 ≤ n.nodeid) (node e) (listed m) first rest

  pub are_listed : (m : Map X) → T (is_sorted nat_cmp m) → ((id : ℕ) (x : X) → get m id ≡ Some x → 2 ≤ id)
      → AreListed (listed m)
  are_listed m sorted from_two = record {
    rising = subst (λ (b : Bool). T b) (sym (same_order m)) sorted;
    no_root = no_root m sorted from_two;
  }

-- what the kernel of a sound world counts
counted_from_two : (w : World) → IsSoundWorld w → (id : ℕ) (node : Counted) → get w.kernel.nodes id ≡ Some node → 2 ≤ id
counted_from_two w sound id node is = by (is_live w.kernel.phase) refl
  where
    by : (b : Bool) → is_live w.kernel.phase ≡ b → 2 ≤ id
    by true live = ((sound.sound.both.world.lookups.balanced live).known id node is).0
    by false dead =
        let none : ◌≡◌ {A = Option Counted} None (Some node) =
        subst (λ (m : Map Counted). get m id ≡ Some node) (sound.sound.both.world.lookups.uncounted dead) is in
        cc

pub counted_are_listed : (w : World) → IsSoundWorld w → T (is_sorted nat_cmp w.kernel.nodes)
    → AreListed (listed_counts w.kernel.nodes)
counted_are_listed w sound sorted =
    are_listed (λ (c : Counted). c.generation) (λ (c : Counted). c.count) w.kernel.nodes sorted (counted_from_two w sound)

pub held_are_listed : (w : World) → IsSoundWorld w → T (is_sorted nat_cmp w.server.nodes.rows)
    → AreListed (listed_nodes w.server.nodes.rows)
held_are_listed w sound sorted =
    are_listed (λ (row : HeldNode). row.generation) (λ (row : HeldNode). row.count) w.server.nodes.rows sorted
    sound.sound.both.world.lookups.server.nodes.ids

-- a list that is the nodes of a side
pub if_listed : {V E : Type 0} (items : V → List NodeCount) (r : Result V E) (nodes : List NodeCount)
    → IfOk r (λ v. items v ≡ nodes) → AreListed nodes → IfOk r (λ v. AreListed (items v))
if_listed items (Ok v) nodes is listed_so = subst AreListed (sym is) listed_so
if_listed items (Err _) nodes is listed_so = tt
