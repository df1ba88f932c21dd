-- The server holds the nodes that a live kernel uses, and those of the requests on their way.
use Rattle.fuse_spec.specs.Values.Numbers.{init_flags}
use Rattle.std.proofs.Common.{◌≡◌, ◌≢◌, ◌≤◌, ℕ, Bool, true, false, cond, List, [], Option, Some, None, is_some, nat_eq, option_map, refl, ap, sym, subst, ◌∙◌, get_or, All}
use Rattle.std.specs.Prelude.{MatchOption}
use Rattle.std.proofs.lemmas.List.Elements.{All-nil, All-cons}
use Rattle.fuse_spec.specs.declared.Counted.{Counted}
use Rattle.fuse_spec.specs.declared.Entry.{Entry}
use Rattle.fuse_spec.specs.declared.Opened.{Opened}
use Rattle.fuse_spec.specs.declared.Purpose.{Purpose}
use Rattle.fuse_spec.specs.declared.Purpose.TheVariants as purpose
use Rattle.fuse_spec.specs.declared.QueuedRequest.{QueuedRequest}
use Rattle.fuse_spec.specs.Claim.Counts.{NodeDenotesSome, EntryDenotesSome}
use Rattle.fuse_spec.specs.Kernel.Kernel.{is_live, asked_by, body_of, nodes_of_state}
use Rattle.fuse_spec.specs.Values.Maps.{get, values}
use Rattle.fuse_spec.specs.Kernel.Messages.{RequestBody, Request, init, asks, release, forget, batch_forget, interrupt}
use Rattle.fuse_spec.specs.Server.Nodes.{HeldNode, row_of}
use Rattle.fuse_spec.specs.Files.Operations.{files_in_reply}
use Rattle.fuse_spec.specs.Kernel.Queues.{pending, is_signalled, is_unread}
use Rattle.fuse_spec.specs.Server.Server.{nodes_of_body}
use Rattle.fuse_spec.specs.Calls.Vfs.{CallState, asked}
use Rattle.fuse_spec.specs.Claim.Denotes.{NodeDenotesIn, OpenDenotesIn}
use Rattle.fuse_spec.specs.Claim.Alike.{RequestBodyAsked}
use Rattle.fuse_spec.specs.World.Worlds.{World, Sent}
use Rattle.fuse_spec.specs.Reference.Plain.{Plain}
use Rattle.fuse_theorem.specs.AskedRequests.{IsAsked, SentAsked}
use Rattle.fuse_theorem.specs.EveryList.{BothSound}
use Rattle.fuse_theorem.specs.KnownNodes.{IsKnown}
use Rattle.fuse_theorem.specs.Lookups.{IsHeldAs, EntriesHeld}
use Rattle.fuse_theorem.specs.NodesHeld.{NodesServable, TakenServable, NodesHeldLive, NodesHeld}
use Rattle.fuse_theorem.specs.ReleasesKnown.{ReleaseKnown, ReleasesKnown}
use Rattle.fuse_theorem.proofs.Calls.Finding.{All-filter, All-found}
use Rattle.fuse_theorem.proofs.Nodes.HeldKnown.{state_names}
use Rattle.fuse_theorem.proofs.Calls.KnownWalks.{StateKnown}
use Rattle.fuse_theorem.proofs.Lookups.LookupsStay.{known_held}
use Rattle.fuse_theorem.proofs.Nodes.NodesKnown.{All-more, known_some}
use Rattle.fuse_theorem.proofs.Lists.Values.{All-get}

module _ (w : World) (p : Plain) (both : BothSound w p) (releases : ReleasesKnown w) where
  -- What the kernel knows denotes some file.
  pub known_meant : (id : ℕ) → IsKnown w.kernel.nodes id → NodeDenotesSome w id
  known_meant id known =
      let some = known_some w.kernel.nodes id known in
      let world = both.world in
      let held = known_held w world.lookups id some.0 some.1 in
      (held.0, record { generation = some.0; known = some.1; denotes = held.1 })

  pub known_there : (id : ℕ) → IsKnown w.kernel.nodes id → is_some (row_of w.server.nodes id) ≡ true
  known_there id known = let meant = known_meant id known in let denotes =
      meant.1.denotes in ap (λ (o : Option HeldNode). is_some o) denotes.there

  all_there : (ids : List ℕ) → All (IsKnown w.kernel.nodes) ids
      → All (λ (id : ℕ). is_some (row_of w.server.nodes id) ≡ true) ids
  all_there ids known = All-more ids known_there known

  pub held_live : is_live w.kernel.phase ≡ true → NodesHeldLive w
  held_live live =
      let nodes = both.nodes in
      let names = nodes.names in
      let world = both.world in
      let lookups = world.lookups in
      let balanced = lookups.balanced live in
      record {
        nodes = λ id node at. known_meant id (counted_known id node at);
        names = λ directory name bound at. known_meant directory (names.directories directory name bound at);
        targets = λ directory name bound id at is. known_meant id (names.targets directory name bound at id is);
        calls = All-more (values w.kernel.vfs.calls) (λ state known. All-more
            (nodes_of_state state) known_meant known) nodes.calls;
        opens = All-more (values w.kernel.vfs.opens) (λ o known. known_meant o.nodeid known) nodes.opens;
        closing = All-more (values w.kernel.closing) (λ o known. known_meant o.nodeid known) releases.closing;
        copies = All-more {P = λ (s : Sent). EntriesHeld w.server.nodes s.wire} {Q =
            λ (s : Sent). All (EntryDenotesSome w) (files_in_reply s.wire)} w.replies
            (λ s held. All-more {P = λ (g : Entry). (2 ≤ g.nodeid)
            × IsHeldAs w.server.nodes g.nodeid g.generation} {Q = λ (g : Entry). EntryDenotesSome w g} (files_in_reply s.wire)
            (λ g named. named.1) held) balanced.copies;
      }
    where
      counted_known : (id : ℕ) (node : Counted) → get w.kernel.nodes id ≡ Some node → IsKnown w.kernel.nodes id
      counted_known id node at = by (nat_eq id 1)
        where
          by : (b : Bool) → cond b (Some 0) (option_map (λ (c : Counted). c.generation) (get w.kernel.nodes id)) ≢ None
          by true e = absurd (cc (e))
          by false e = let is : Some node.generation ≡ None =
              sym (ap (option_map (λ (c : Counted). c.generation)) at) ∙ e in absurd (cc (is))

  -- What a request that the kernel keeps names is known.
  asked_known : (kept : Purpose) → ReleaseKnown w.kernel.nodes kept → (body : RequestBody)
      → body_of w.kernel kept ≡ Some body → All (IsKnown w.kernel.nodes) (nodes_of_body body)
  asked_known purpose.Init h body e = let same : init init_flags ≡ body =
      cc (e) in subst (λ (b : RequestBody). All (IsKnown w.kernel.nodes) (nodes_of_body b)) same
      (All-nil (IsKnown w.kernel.nodes))
  asked_known (purpose.Release o) h body e =
      let same : release o ≡ body = cc (e) in
      subst (λ (b : RequestBody). All (IsKnown w.kernel.nodes) (nodes_of_body b)) same
      (All-cons (IsKnown w.kernel.nodes) o.nodeid [] h (All-nil (IsKnown w.kernel.nodes)))
  asked_known (purpose.Call call) h body e = by (get w.kernel.vfs.calls call) refl e
    where
      by : (o : Option (CallState Opened)) → get w.kernel.vfs.calls call ≡ o → asked_by o ≡ Some body
          → All (IsKnown w.kernel.nodes) (nodes_of_body body)
      by None at f = absurd (cc (f))
      by (Some state) at f =
          let same : asks (asked state) ≡ body = cc (f) in
          let nodes = both.nodes in
          subst (λ (b : RequestBody). All (IsKnown w.kernel.nodes) (nodes_of_body b)) same
          (state_names w.kernel.nodes state
          (All-get (StateKnown w.kernel.nodes) w.kernel.vfs.calls call state nodes.calls at))

  servable : (unique : ℕ) (body : RequestBody) → IsAsked w.kernel unique body → NodesServable w.server body
  servable unique body is =
      all_there (nodes_of_body body)
      (asked_known is.request.kept (All-found (λ (e : ℕ
      × QueuedRequest Purpose). ReleaseKnown w.kernel.nodes e.1.kept) unique w.kernel.queues.requests is.request releases.requests is.under) body is.asks)

  sent_servable : (unique : ℕ) (body : RequestBody) → SentAsked w.kernel unique body → NodesServable w.server body
  sent_servable unique (init flags) is = servable unique (init flags) is
  sent_servable unique (asks operation) is = servable unique (asks operation) is
  sent_servable unique (release o) is = servable unique (release o) is
  sent_servable unique (forget f) is = all_there [] (All-nil (IsKnown w.kernel.nodes))
  sent_servable unique (batch_forget fs) is = all_there [] (All-nil (IsKnown w.kernel.nodes))
  sent_servable unique (interrupt original) is = all_there [] (All-nil (IsKnown w.kernel.nodes))

  pub all_sent_servable : All (λ (r : Request). NodesServable w.server r.body) w.requests
  all_sent_servable = by (is_live w.kernel.phase) refl
    where
      by : (b : Bool) → is_live w.kernel.phase ≡ b → All (λ (r : Request). NodesServable w.server r.body) w.requests
      by true live = All-more {P = λ (r : Request). SentAsked w.kernel r.unique r.body} {Q =
          λ (r : Request). NodesServable w.server r.body} w.requests (λ r is. sent_servable r.unique r.body is)
          (both.asked live).sent
      by false dead = subst (All (λ (r : Request). NodesServable w.server r.body))
          (sym (both.links.idle dead).requests) (All-nil (λ (r : Request). NodesServable w.server r.body))

  pending_servable : All (λ (e : ℕ × QueuedRequest Purpose). MatchOption (body_of w.kernel e.1.kept) ⊥
      (λ (body : RequestBody). NodesServable w.server body)) (pending w.kernel.queues)
  pending_servable = λ i d lt.
      let e = get_or (pending w.kernel.queues) i d in
      by e.0 e.1 (body_of w.kernel e.1.kept) refl (both.alike.requests.pending i d lt)
      (All-filter (λ (x : ℕ × QueuedRequest Purpose). is_unread x.1.mark)
      (λ (x : ℕ × QueuedRequest Purpose). ReleaseKnown w.kernel.nodes x.1.kept) w.kernel.queues.requests releases.requests i d lt)
    where
      by : (unique : ℕ) (r : QueuedRequest Purpose) (body : Option RequestBody) → body_of w.kernel r.kept ≡ body
          → MatchOption body ⊥ (RequestBodyAsked p.asks unique (is_signalled r.mark) false (NodeDenotesIn w) (OpenDenotesIn w))
          → ReleaseKnown w.kernel.nodes r.kept → MatchOption body ⊥ (λ (x : RequestBody). NodesServable w.server x)
      by unique r None says asked known = asked
      by unique r (Some body) says asked known = all_there (nodes_of_body body) (asked_known r.kept known body says)

  -- What `Held` says of nodes holds.
  pub nodes_held : TakenServable w.server → NodesHeld w
  nodes_held taken = record {
    live = held_live;
    pending = pending_servable;
    sent = all_sent_servable;
    taken = taken.nodes;
  }
