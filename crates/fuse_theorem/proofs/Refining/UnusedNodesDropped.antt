-- The tables of nodes change, and what is in use denotes its file still: all stays alike, though some nodes denote
-- nothing any more.
use Rattle.std.proofs.Common.{◌≡◌, ◌≢◌, ℕ, Bool, true, false, List, Option, Some, None, get_or, refl, All}
use Rattle.std.specs.Prelude.{Contains, MatchOption}
use Rattle.fuse_spec.specs.declared.Dentry.{Dentry}
use Rattle.fuse_spec.specs.declared.Counted.{Counted}
use Rattle.fuse_spec.specs.declared.Opened.{Opened}
use Rattle.fuse_spec.specs.declared.Purpose.{Purpose}
use Rattle.fuse_spec.specs.declared.Purpose.TheVariants as purpose
use Rattle.fuse_spec.specs.Values.Maps.{Map, get, get_name}
use Rattle.fuse_spec.specs.Files.Operations.{Operation, lookup, OptionAlike, OperationAlike}
use Rattle.fuse_spec.specs.Calls.Walks.{WalkPlan, last, files_of_plan}
use Rattle.fuse_spec.specs.Calls.Walks as walks
use Rattle.fuse_spec.specs.Files.Trees.{Tree}
use Rattle.fuse_spec.specs.Calls.Vfs.{CallState, walking, doing, using, asked}
use Rattle.fuse_spec.specs.Kernel.Queues.{pending, is_signalled}
use Rattle.fuse_spec.specs.Claim.Counts.{opens_of, opens_of_body}
use Rattle.fuse_spec.specs.Kernel.Kernel.{is_live, body_of, asked_by, nodes_of_state}
use Rattle.fuse_spec.specs.Server.Server.{HeldRequest, Kept, nodes_of_body}
use Rattle.fuse_spec.specs.World.Worlds.{World, Sent}
use Rattle.fuse_spec.specs.Kernel.Messages.{RequestBody, Request, init, asks, release, forget, batch_forget, interrupt}
use Rattle.fuse_spec.specs.Reference.Plain.{Plain, Ask}
use Rattle.fuse_spec.specs.Server.Nodes.{NodeTable, HandleTable}
use Rattle.fuse_spec.specs.Claim.Denotes.{WalkPlanAlike, StateAlike, DentryAlike, NodeDenotes, OpenDenotes, NodeDenotesIn, OpenDenotesIn}
use Rattle.fuse_spec.specs.Claim.Alike.{TreeAlike, VfsAlike, RequestBodyAsked, StillDenotes, OpenStillDenotes, IsStageReplied, Alike}
use Rattle.fuse_theorem.proofs.Calls.Meaning.{operation_more, final_within, first_of, next_of}

-- ---- what is alike under R and S is alike under what they imply of what stands in it

module _ (R R' : ℕ → ℕ → Type 0) where
  pub plan_within : (a b : WalkPlan ℕ) → ((id file : ℕ) → Contains (files_of_plan a) id → R id file → R' id file)
      → WalkPlanAlike R a b → WalkPlanAlike R' a b
  plan_within (last a) (last b) f h = final_within R R' a b f h
  plan_within (walks.rename old words new) (walks.rename old' words' new') f h = h
  plan_within (walks.link words name) (walks.link words' name') f h = h
  plan_within a b f h = absurd h

  pub dentry_within : (a b : Dentry) → ((target file : ℕ) → a.target ≡ Some target → R target file → R' target file)
      → DentryAlike R a b → DentryAlike R' a b
  dentry_within a b f h = (by a.target b.target (λ target file is. f target file is) h.0, h.1)
    where
      by : (x y : Option ℕ) → ((target file : ℕ) → x ≡ Some target → R target file → R' target file)
          → OptionAlike R x y → OptionAlike R' x y
      by None None g same = same
      by (Some x) (Some y) g same = g x y refl same
      by None (Some y) g same = absurd same
      by (Some x) None g same = absurd same

  module _ (S S' : Opened → ℕ → Type 0) where
    pub state_within : (a : CallState Opened) (b : CallState ℕ)
        → ((id file : ℕ) → Contains (nodes_of_state a) id → R id file → R' id file)
        → ((o : Opened) (file : ℕ) → Contains (nodes_of_state a) o.nodeid → Contains (opens_of (asked a)) o → S o file
        → S' o file) → StateAlike R S a b → StateAlike R' S' a b
    state_within (walking d word words plan) (walking e word' words' plan') f g h = (
      f d e (first_of d (files_of_plan plan)) h.0,
      h.1,
      h.2,
      plan_within plan plan' (λ id file among r. f id file (next_of d (files_of_plan plan) id among) r) h.3,
    )
    state_within (doing a) (doing b) f g h = operation_more R R' S S' a b f g h
    state_within (using open_call a) (using open_call' b) f g h = (h.0, operation_more R R' S S' a b f g h.1)
    state_within (walking d word words plan) (doing b) f g h = absurd h
    state_within (walking d word words plan) (using open_call b) f g h = absurd h
    state_within (doing a) (walking e word' words' plan') f g h = absurd h
    state_within (doing a) (using open_call b) f g h = absurd h
    state_within (using open_call a) (walking e word' words' plan') f g h = absurd h
    state_within (using open_call a) (doing b) f g h = absurd h

    pub asked_within : (a : CallState Opened) (b : Operation ℕ ℕ)
        → ((id file : ℕ) → Contains (nodes_of_state a) id → R id file → R' id file)
        → ((o : Opened) (file : ℕ) → Contains (nodes_of_state a) o.nodeid → Contains (opens_of (asked a)) o → S o file
        → S' o file) → OperationAlike R S (asked a) b → OperationAlike R' S' (asked a) b
    asked_within (walking d word words plan) (lookup e other) f g h = (f d e (first_of d (files_of_plan plan)) h.0, h.1)
    asked_within (walking d word words plan) b f g h = absurd h
    asked_within (doing a) b f g h = operation_more R R' S S' a b f g h
    asked_within (using open_call a) b f g h = operation_more R R' S S' a b f g h

    pub body_within : (all : Map Ask) (unique : ℕ) (signalled marked : Bool) (body : RequestBody)
        → ((id file : ℕ) → Contains (nodes_of_body body) id → R id file → R' id file)
        → ((o : Opened) (file : ℕ) → Contains (nodes_of_body body) o.nodeid → Contains (opens_of_body body) o
        → S o file → S' o file) → RequestBodyAsked all unique signalled marked R S body
        → RequestBodyAsked all unique signalled marked R' S' body
    body_within all unique signalled marked (asks operation) f g h = record {
      ask = h.ask;
      there = h.there;
      is_waiting = h.is_waiting;
      same = operation_more R R' S S' operation h.ask.operation f g h.same;
    }
    body_within all unique signalled marked (init flags) f g h = h
    body_within all unique signalled marked (release o) f g h = h
    body_within all unique signalled marked (forget x) f g h = h
    body_within all unique signalled marked (batch_forget fs) f g h = h
    body_within all unique signalled marked (interrupt original) f g h = h

-- ---- what is in use denotes its file still

module _ (w : World) (p : Plain) (nodes : Map Counted) (t : NodeTable) (h : HandleTable) where
  -- these nodes and open files denote the same files still
  pub record UsedNodesStay (ids : List ℕ) (os : List Opened) : Type 0 where
    pub nodes_stay : (id file : ℕ) → Contains ids id → NodeDenotesIn w id file → NodeDenotes nodes t id file
    pub opens_stay : (o : Opened) (file : ℕ) → Contains ids o.nodeid → Contains os o → OpenDenotesIn w o file
        → OpenDenotes nodes t h o file

  -- What the tables become: nothing denotes a file that did not, and what is in use denotes its file still.
  pub record Narrows : Type 0 where
    pub back : (id file : ℕ) → NodeDenotes nodes t id file → NodeDenotesIn w id file
    pub root : (file : ℕ) → NodeDenotesIn w w.kernel.vfs.root file → NodeDenotes nodes t w.kernel.vfs.root file
    pub directories : (id : ℕ) (name : List ℕ) → get_name w.kernel.vfs.names (id, name) ≢ None → (file : ℕ)
        → NodeDenotesIn w id file → NodeDenotes nodes t id file
    pub targets : (id : ℕ) (name : List ℕ) (bound : Dentry) → get_name w.kernel.vfs.names (id, name) ≡ Some bound
        → (target file : ℕ) → bound.target ≡ Some target → NodeDenotesIn w target file → NodeDenotes nodes t target file
    pub opens : (open_call : ℕ) (o : Opened) → get w.kernel.vfs.opens open_call ≡ Some o → (file : ℕ) → OpenDenotesIn w o file
        → OpenDenotes nodes t h o file
    pub calls : (call : ℕ) (state : CallState Opened) → get w.kernel.vfs.calls call ≡ Some state
        → UsedNodesStay (nodes_of_state state) (opens_of (asked state))
    pub sent : All (λ (r : Request). UsedNodesStay (nodes_of_body r.body) (opens_of_body r.body)) w.requests
    pub held_nodes : (unique : ℕ) (x : HeldRequest) → get w.server.held unique ≡ Some x → (id file : ℕ)
        → Contains (nodes_of_body x.body) id → StillDenotes w.server.nodes x.generations id file
        → StillDenotes t x.generations id file
    pub held_opens : (unique : ℕ) (x : HeldRequest) → get w.server.held unique ≡ Some x → (o : Opened) (file : ℕ)
        → Contains (opens_of_body x.body) o → OpenStillDenotes w.server.nodes w.server.handles x.generations o file
        → OpenStillDenotes t h x.generations o file
    pub kept : is_live w.kernel.phase ≡ true → (unique : ℕ) (k : Kept) (ask : Ask) → get w.server.kept unique ≡ Some k
        → get p.asks unique ≡ Some ask → IsStageReplied w.server.nodes w.server.handles ask.stage k.wire
        → IsStageReplied t h ask.stage k.wire
    pub copies : is_live w.kernel.phase ≡ true → All
        (λ (s : Sent). (ask : Ask) → get p.asks s.unique ≡ Some ask
        → IsStageReplied w.server.nodes w.server.handles ask.stage s.wire → IsStageReplied t h ask.stage s.wire) w.replies

module _ (w : World) (p : Plain) (same : Alike w p) (nodes : Map Counted) (t : NodeTable) (h : HandleTable)
    (narrows : Narrows w p nodes t h) where
  abbrev R : ℕ → ℕ → Type 0
  R = NodeDenotesIn w

  abbrev R' : ℕ → ℕ → Type 0
  R' = NodeDenotes nodes t

  abbrev S : Opened → ℕ → Type 0
  S = OpenDenotesIn w

  abbrev S' : Opened → ℕ → Type 0
  S' = OpenDenotes nodes t h

  name_within : (id file : ℕ) (name : List ℕ) → R id file → (a b : Option Dentry)
      → get_name w.kernel.vfs.names (id, name) ≡ a → OptionAlike (DentryAlike R) a b
      → OptionAlike (DentryAlike R') a b
  name_within id file name r None None e same = same
  name_within id file name r (Some x) (Some y) e same =
      dentry_within R R' x y (λ target f is m. narrows.targets id name x e target f is m) same
  name_within id file name r None (Some y) e same = absurd same
  name_within id file name r (Some x) None e same = absurd same

  -- a name of the plain world stands in a directory that is in use
  reached : (file : ℕ) (name : List ℕ) → get_name p.vfs.names (file, name) ≢ None → (id : ℕ) × R' id file
  reached file name there =
      let old = same.vfs.names_reached file name there in (
        old.0,
        narrows.directories old.0 name (λ none. not_none (get_name w.kernel.vfs.names (old.0, name))
            (get_name p.vfs.names (file, name)) none there (same.vfs.names old.0 file name old.1)) file old.1,
      )
    where
      not_none : (a b : Option Dentry) → a ≡ None → b ≢ None → OptionAlike (DentryAlike R) a b → ⊥
      not_none None None e ne alike = ne refl
      not_none None (Some y) e ne alike = absurd alike
      not_none (Some x) b e ne alike = cc (e)

  open_within : (open_call : ℕ) (a : Option Opened) (b : Option ℕ) → get w.kernel.vfs.opens open_call ≡ a → OptionAlike S a b
      → OptionAlike S' a b
  open_within open_call None None e same = same
  open_within open_call (Some o) (Some file) e same = narrows.opens open_call o e file same
  open_within open_call None (Some file) e same = absurd same
  open_within open_call (Some o) None e same = absurd same

  call_within : (call : ℕ) (a : Option (CallState Opened)) (b : Option (CallState ℕ)) → get w.kernel.vfs.calls call ≡ a
      → OptionAlike (StateAlike R S) a b → OptionAlike (StateAlike R' S') a b
  call_within call None None e same = same
  call_within call (Some x) (Some y) e same = let stay =
      narrows.calls call x e in state_within R R' S S' x y stay.nodes_stay stay.opens_stay same
  call_within call None (Some y) e same = absurd same
  call_within call (Some x) None e same = absurd same

  pub vfs_within : VfsAlike R' S' w.kernel.vfs p.vfs
  vfs_within = record {
    names = λ id file name r. name_within id file name (narrows.back id file r)
        (get_name w.kernel.vfs.names (id, name)) (get_name p.vfs.names (file, name)) refl
        (same.vfs.names id file name (narrows.back id file r));
    names_meant = λ id name there. let meant = same.vfs.names_meant id name there in
        (meant.0, narrows.directories id name there meant.0 meant.1);
    names_reached = reached;
    opens = λ open_call. open_within open_call (get w.kernel.vfs.opens open_call) (get p.vfs.opens open_call) refl
        (same.vfs.opens open_call);
    calls = λ call. call_within call (get w.kernel.vfs.calls call) (get p.vfs.calls call) refl (same.vfs.calls call);
    answers = same.vfs.answers;
    next_call = same.vfs.next_call;
    clock = same.vfs.clock;
    roots = narrows.root p.vfs.root same.vfs.roots;
  }

  -- a pending request
  pending_within : (unique : ℕ) (signalled : Bool) (kept : Purpose)
      → MatchOption (body_of w.kernel kept) ⊥ (RequestBodyAsked p.asks unique signalled false R S)
      → MatchOption (body_of w.kernel kept) ⊥ (RequestBodyAsked p.asks unique signalled false R' S')
  pending_within unique signalled purpose.Init asked = asked
  pending_within unique signalled (purpose.Release o) asked = asked
  pending_within unique signalled (purpose.Call call) asked = by (get w.kernel.vfs.calls call) refl asked
    where
      by : (o : Option (CallState Opened)) → get w.kernel.vfs.calls call ≡ o
          → MatchOption (asked_by o) ⊥ (RequestBodyAsked p.asks unique signalled false R S)
          → MatchOption (asked_by o) ⊥ (RequestBodyAsked p.asks unique signalled false R' S')
      by None e h = h
      by (Some state) e h =
          let stay = narrows.calls call state e in
          record {
            ask = h.ask;
            there = h.there;
            is_waiting = h.is_waiting;
            same = asked_within R R' S S' state h.ask.operation stay.nodes_stay stay.opens_stay h.same;
          }

-- All stays alike.
pub fewer_nodes_refine : (w : World) (p : Plain) → Alike w p
    → (nodes : Map Counted) (t : NodeTable) (h : HandleTable) (tree tree' : Tree) → Narrows w p nodes t h
    → TreeAlike (record w.server { tree = tree; nodes = t; handles = h }) tree'
    → Alike (record w {
      kernel = record w.kernel { nodes = nodes };
      server = record w.server { tree = tree; nodes = t; handles = h };
    }) (record p { tree = tree' })
fewer_nodes_refine w p same nodes t h tree tree' narrows trees = record {
  tree = trees;
  vfs = vfs_within w p same nodes t h narrows;
  requests = record {
    pending = λ i e lt. let entry = get_or (pending w.kernel.queues) i e in
        pending_within w p same nodes t h narrows entry.0 (is_signalled entry.1.mark) entry.1.kept
        (same.requests.pending i e lt);
    sent = λ i r lt.
        let request = get_or w.requests i r in
        let stay = narrows.sent i r lt in
        body_within (NodeDenotesIn w) (NodeDenotes nodes t) (OpenDenotesIn w)
        (OpenDenotes nodes t h) p.asks request.unique false false request.body stay.nodes_stay stay.opens_stay
        (same.requests.sent i r lt);
    held = λ u x at.
        body_within (StillDenotes w.server.nodes x.generations) (StillDenotes t x.generations)
        (OpenStillDenotes w.server.nodes w.server.handles x.generations)
        (OpenStillDenotes t h x.generations) p.asks u false x.marked x.body (narrows.held_nodes u x at)
        (λ o file node among m. narrows.held_opens u x at o file among m) (same.requests.held u x at);
  };
  asks = λ live.
      let old = same.asks live in
      record {
        of_calls = λ q state is.
            let pair = old.of_calls q state is in
            let stay = narrows.calls q state is in
            record {
              unique = pair.unique;
              ask = pair.ask;
              request = pair.request;
              there = pair.there;
              by = pair.by;
              same = asked_within (NodeDenotesIn w) (NodeDenotes nodes t) (OpenDenotesIn w)
                  (OpenDenotes nodes t h) state pair.ask.operation stay.nodes_stay stay.opens_stay pair.same;
            };
        no_other = old.no_other;
        signalled = old.signalled;
        kept = λ u k ask at there. narrows.kept live u k ask at there (old.kept u k ask at there);
        copies = λ i s lt ask there. narrows.copies live i s lt ask there (old.copies i s lt ask there);
      };
  validity = same.validity;
  minor = same.minor;
  agreed = same.agreed;
  aborted = same.aborted;
}
