-- A node that nothing in the kernel uses is evicted: all stays alike.
use Rattle.std.proofs.Common.{◌≡◌, ◌≢◌, ℕ, zero, suc, Bool, true, false, true≢false, not, ◌||◌, cond, List, [], ◌∷◌, Option, Some, None, nat_eq, option_map, get_or, refl, ap, sym, subst, ◌∙◌, arith, inl, inr}
use Rattle.std.specs.Prelude.{Contains}
use Rattle.std.specs.List.{list_any}
use Rattle.std.specs.Ordering.{is_eq}
use Rattle.std.proofs.lemmas.Bool.{cases_eq}
use Rattle.fuse_spec.specs.declared.Dentry.{Dentry}
use Rattle.fuse_spec.specs.declared.Counted.{Counted}
use Rattle.fuse_spec.specs.declared.Opened.{Opened}
use Rattle.fuse_spec.specs.declared.Purpose.{Purpose}
use Rattle.fuse_spec.specs.declared.QueuedRequest.{QueuedRequest}
use Rattle.fuse_spec.specs.Values.Maps.{Map, NameMap, place_cmp, get, get_name, remove, values}
use Rattle.fuse_spec.specs.Calls.Vfs.{CallState, asked}
use Rattle.fuse_spec.specs.Kernel.QueueCalls.{after_forget}
use Rattle.fuse_spec.specs.Claim.Counts.{opens_of, opens_of_body}
use Rattle.fuse_spec.specs.Kernel.Kernel.{nodes_of_state, is_pinned, is_bound, is_released_by, leads_to}
use Rattle.fuse_spec.specs.Server.Server.{nodes_of_body}
use Rattle.fuse_spec.specs.World.Worlds.{World, after_evict}
use Rattle.fuse_spec.specs.Reference.Plain.{Plain}
use Rattle.fuse_spec.specs.Claim.Denotes.{generation_known, NodeDenotes, NodeDenotesIn}
use Rattle.fuse_spec.specs.Claim.Alike.{Alike}
use Rattle.fuse_spec.proofs.Tables.{get_gone, get_gone_there, place_tie_no}
use Rattle.fuse_theorem.specs.Conditions.{IsUnsent}
use Rattle.fuse_theorem.proofs.Calls.Finding.{same_is}
use Rattle.fuse_theorem.proofs.Refining.UnusedNodesDropped.{UsedNodesStay, Narrows, fewer_nodes_refine}
use Rattle.fuse_theorem.proofs.Refining.Queuing.{queues_alike}
use Rattle.fuse_theorem.proofs.Trees.NamelessDiscarded.{found_any}

pub or_false : (a b : Bool) → (a || b) ≡ false → (a ≡ false) × (b ≡ false)
or_false true b e = absurd (true≢false e)
or_false false b e = (refl, e)

-- what no element passes, none of them is
pub not_among : (node : ℕ) (xs : List ℕ) (id : ℕ) → list_any (nat_eq node) xs ≡ false → Contains xs id → id ≢ node
not_among node [] id none at = absurd (let lt = at.1 in omega (arith, lt))
not_among node (y ∷ xs) id none (zero, lt, is) = λ e.
    let here : nat_eq node y ≡ true = subst (λ (n : ℕ). nat_eq node n ≡ true) (sym (is ∙ e)) (same_is node) in
    true≢false (sym here ∙ (or_false (nat_eq node y) (list_any (nat_eq node) xs) none).0)
not_among node (y ∷ xs) id none (suc k, lt, is) =
    not_among node xs id (or_false (nat_eq node y) (list_any (nat_eq node) xs) none).1 (k, omega (arith, lt), is)

-- what is found fails a test that nothing passes
pub found_fails : {X : Type 0} (test : X → Bool) (m : Map X) (k : ℕ) (x : X) → list_any test (values m) ≡ false
    → get m k ≡ Some x → test x ≡ false
found_fails test m k x none at = by (test x) refl
  where
    by : (b : Bool) → test x ≡ b → test x ≡ false
    by true e = absurd (true≢false (sym (found_any test m k x at e) ∙ none))
    by false e = e

-- a cached name that is found, where none stands in the node or leads to it
abbrev Uses : ℕ → (ℕ × List ℕ) × Dentry → Bool
Uses node e = nat_eq e.0.0 node || leads_to node e.1.target

pub unbound : (node : ℕ) (names : NameMap Dentry) (id : ℕ) (name : List ℕ) (bound : Dentry)
    → list_any (Uses node) names ≡ false → get_name names (id, name) ≡ Some bound
    → (id ≢ node) × (leads_to node bound.target ≡ false)
unbound node [] id name bound none at = absurd (cc)
unbound node (e ∷ names) id name bound none at =
    by (is_eq (place_cmp (id, name) e.0)) refl at (λ f. unbound node names id name bound
    (or_false (Uses node e) (list_any (Uses node) names) none).1 f)
  where
    here : (nat_eq e.0.0 node ≡ false) × (leads_to node e.1.target ≡ false)
    here = or_false (nat_eq e.0.0 node) (leads_to node e.1.target)
        (or_false (Uses node e) (list_any (Uses node) names) none).0

    by : (b : Bool) → is_eq (place_cmp (id, name) e.0) ≡ b → cond b (Some e.1) (get_name names (id, name)) ≡ Some bound
        → (get_name names (id, name) ≡ Some bound → (id ≢ node) × (leads_to node bound.target ≡ false))
        → (id ≢ node) × (leads_to node bound.target ≡ false)
    by true tie f rest =
        let same : e.1 ≡ bound = cc in (
          λ q.
              elim (cases_eq id e.0.0) [
                | inl is ↦ true≢false (sym (subst (λ (n : ℕ). nat_eq n node ≡ true) is
                    (subst (λ (n : ℕ). nat_eq n node ≡ true) (sym q) (same_is node))) ∙ here.0)
                | inr ne ↦ true≢false (sym tie ∙ place_tie_no id e.0.0 name e.0.1 ne)
              ],
          subst (λ (b : Dentry). leads_to node b.target ≡ false) same here.1,
        )
    by false tie f rest = rest f

-- a target that a dentry leads to is not the node
pub not_target : (node : ℕ) (o : Option ℕ) (target : ℕ) → leads_to node o ≡ false → o ≡ Some target → target ≢ node
not_target node None target none is = absurd (cc)
not_target node (Some x) target none is = λ e.
    let same : x ≡ target = cc in
    true≢false (sym (subst (λ (n : ℕ). nat_eq n node ≡ true) (sym (same ∙ e)) (same_is node)) ∙ none)

-- ---- what is known

module _ (nodes : Map Counted) (node : ℕ) where
  known_back : (id generation : ℕ) → generation_known (remove nodes node) id ≡ Some generation
      → generation_known nodes id ≡ Some generation
  known_back id generation e = by (nat_eq id 1) (nat_eq id node) (get nodes id)
      (ap (λ (o : Option Counted). cond (nat_eq id 1) (Some 0) (option_map (λ (c : Counted). c.generation) o))
      (sym (get_gone nodes node id)) ∙ e)
    where
      by : (a b : Bool) (o : Option Counted) → cond a (Some 0)
          (option_map (λ (c : Counted). c.generation) (cond (not b) o None)) ≡ Some generation
          → cond a (Some 0) (option_map (λ (c : Counted). c.generation) o) ≡ Some generation
      by true b o f = f
      by false true o f = absurd (cc)
      by false false o f = f

  pub known_still : (id generation : ℕ) → id ≢ node → generation_known nodes id ≡ Some generation
      → generation_known (remove nodes node) id ≡ Some generation
  known_still id generation ne e = ap (λ (o : Option Counted). cond (nat_eq id 1) (Some 0)
      (option_map (λ (c : Counted). c.generation) o)) (get_gone_there nodes node id ne) ∙ e

module _ (w : World) (p : Plain) (same : Alike w p) (node : ℕ) (root : w.kernel.vfs.root ≡ 1)
    (unpinned : is_pinned w.kernel node ≡ false) (free : is_bound w.kernel node ≡ false)
    (unsent : IsUnsent w node) where
  abbrev left : Map Counted
  left = remove w.kernel.nodes node

  still : (id file : ℕ) → id ≢ node → NodeDenotesIn w id file → NodeDenotes left w.server.nodes id file
  still id file ne m = record {
    generation = m.generation;
    known = known_still w.kernel.nodes node id m.generation ne m.known;
    denotes = m.denotes;
  }

  abbrev OfCalls : CallState Opened → Bool
  OfCalls state = list_any (nat_eq node) (nodes_of_state state)

  abbrev OfOpens : Opened → Bool
  OfOpens o = nat_eq o.nodeid node

  pins : (list_any OfCalls (values w.kernel.vfs.calls) ≡ false)
      × ((list_any OfOpens (values w.kernel.vfs.opens) ≡ false)
      × (list_any (λ (e : ℕ × QueuedRequest Purpose). is_released_by node e.1.kept) w.kernel.queues.requests ≡ false))
  pins =
      let first = or_false (list_any OfCalls (values w.kernel.vfs.calls))
      (list_any OfOpens (values w.kernel.vfs.opens) || list_any
      (λ (e : ℕ × QueuedRequest Purpose). is_released_by node e.1.kept) w.kernel.queues.requests) unpinned in (
        first.0,
        or_false (list_any OfOpens (values w.kernel.vfs.opens))
            (list_any (λ (e : ℕ × QueuedRequest Purpose). is_released_by node e.1.kept) w.kernel.queues.requests) first.1,
      )

  stays : (ids : List ℕ) (os : List Opened) → list_any (nat_eq node) ids ≡ false
      → UsedNodesStay w p left w.server.nodes w.server.handles ids os
  stays ids os none = record {
    nodes_stay = λ id file among m. still id file (not_among node ids id none among) m;
    opens_stay = λ o file among opened m. record {
      node_means =
          still o.nodeid file (not_among node ids o.nodeid none among) m.node_means;
      is_handle = m.is_handle;
    };
  }

  narrows : Narrows w p left w.server.nodes w.server.handles
  narrows = record {
    back = λ id file m. record {
      generation = m.generation;
      known = known_back w.kernel.nodes node id m.generation m.known;
      denotes = m.denotes;
    };
    root = λ file m.
        let at_root : NodeDenotesIn w 1 file = subst (λ (n : ℕ). NodeDenotesIn w n file) root m in
        subst (λ (n : ℕ). NodeDenotes left w.server.nodes n file) (sym root)
        (record { generation = at_root.generation; known = at_root.known; denotes = at_root.denotes });
    directories = λ id name there file m. still id file
        (in_use id name (get_name w.kernel.vfs.names (id, name)) refl there) m;
    targets = λ id name bound at target file is m. still target file
        (not_target node bound.target target (unbound node w.kernel.vfs.names id name bound free at).1 is) m;
    opens = λ open_call o at file m.
        let other = found_fails OfOpens w.kernel.vfs.opens open_call o pins.1.0 at in
        record {
          node_means = still o.nodeid file (λ e. true≢false
              (sym (subst (λ (n : ℕ). nat_eq n node ≡ true) (sym e) (same_is node)) ∙ other)) m.node_means;
          is_handle = m.is_handle;
        };
    calls = λ call state at. stays (nodes_of_state state) (opens_of (asked state))
        (found_fails OfCalls w.kernel.vfs.calls call state pins.0 at);
    sent = λ i r lt. let request = get_or w.requests i r in
        stays (nodes_of_body request.body) (opens_of_body request.body) (unsent i r lt);
    held_nodes = λ u x at id file among m. m;
    held_opens = λ u x at o file among m. m;
    kept = λ live u k ask at there reply_matches. reply_matches;
    copies = λ live i s lt ask there reply_matches. reply_matches;
  }
    where
      in_use : (id : ℕ) (name : List ℕ) (o : Option Dentry) → get_name w.kernel.vfs.names (id, name) ≡ o → o ≢ None
          → id ≢ node
      in_use id name None e ne = absurd (ne refl)
      in_use id name (Some bound) e ne = (unbound node w.kernel.vfs.names id name bound free e).0

  pub evicted_alike : (counted : Counted) → Alike (after_evict w node counted) p
  evicted_alike counted =
      let gone = record w { kernel = record w.kernel { nodes = left } } in
      let carried = fewer_nodes_refine w p same left w.server.nodes w.server.handles w.server.tree p.tree narrows same.tree in
      queues_alike gone p carried (after_forget w.kernel.queues node counted.count) w.requests
      (record {
        pending = carried.requests.pending;
        same_request = λ c. refl;
        signalled = λ live. (carried.asks live).signalled;
      }) carried.requests.sent
