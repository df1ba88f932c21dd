-- What every world that a list of events reached keeps: the reference protocol.
use Rattle.std.proofs.Common.{◌≡◌, ℕ, Bool, true, false, Option, Some, None, get_or, refl, sym, subst, All}
use Rattle.std.specs.Prelude.{MatchOption}
use Rattle.std.proofs.lemmas.List.Elements.{All-nil, All-contains_itself}
use Rattle.fuse_spec.specs.declared.Purpose.{Purpose}
use Rattle.fuse_spec.specs.declared.Purpose.TheVariants as purpose
use Rattle.fuse_spec.specs.declared.QueuedRequest.{QueuedRequest}
use Rattle.fuse_spec.specs.Values.Maps.{values}
use Rattle.fuse_spec.specs.Kernel.Messages.{RequestBody, Request}
use Rattle.fuse_spec.specs.Kernel.Queues.{QueueState, pending}
use Rattle.fuse_spec.specs.Kernel.Kernel.{is_live, body_of}
use Rattle.fuse_spec.specs.Server.Server.{Server, HeldRequest}
use Rattle.fuse_spec.specs.Claim.Counts.{opens_of_body, ReleaseDenotesSome, HeldLive, IsServable, Held, Protocol, AtRest, Settled}
use Rattle.fuse_spec.specs.World.Worlds.{World}
use Rattle.fuse_spec.specs.Reference.Plain.{Plain}
use Rattle.fuse_theorem.specs.AllSound.{AllSound}
use Rattle.fuse_theorem.specs.NodesHeld.{NodesServable, NodesHeld}
use Rattle.fuse_theorem.specs.OpenNumbers.{IsOfItsNode, OpensBalanced}
use Rattle.fuse_theorem.specs.ReleasesKnown.{ReleaseKnown}
use Rattle.fuse_theorem.specs.StillOpen.{HeldHandlesOpen}
use Rattle.fuse_theorem.proofs.Lookups.AtRest.{same_node}
use Rattle.fuse_theorem.proofs.Replies.NoFault.{no_fault}
use Rattle.fuse_theorem.proofs.Nodes.NodesHeld.{known_meant, nodes_held}
use Rattle.fuse_theorem.proofs.Answers.NothingWaits.{none_called, none_processing}
use Rattle.fuse_theorem.proofs.OpenFiles.OnceStays.{once_at_rest, once_in_kernel}
use Rattle.fuse_theorem.proofs.OpenFiles.OpenNeeds.{held_handles}
use Rattle.fuse_theorem.proofs.OpenFiles.OpensAtRest.{none_closing, opens_counted}
use Rattle.fuse_theorem.proofs.OpenFiles.OpensServable.{opens_fit, closing_fit, pending_fit, pending_servable, sent_servable, open_meant}
use Rattle.fuse_theorem.proofs.Replies.RepliesFitStay.{no_wrong_body}
use Rattle.fuse_theorem.proofs.Lists.Values.{All-found_values}

-- Nodes and file handles together.
servable : (s : Server) (body : RequestBody) → NodesServable s body → All (IsOfItsNode s) (opens_of_body body)
    → IsServable s body
servable s body nodes opens = record { nodes = nodes; opens = opens }

body_servable : (s : Server) (o : Option RequestBody) → MatchOption o ⊥ (NodesServable s)
    → ((body : RequestBody) → o ≡ Some body → All (IsOfItsNode s) (opens_of_body body)) → MatchOption o ⊥ (IsServable s)
body_servable s None nodes opens = nodes
body_servable s (Some body) nodes opens = servable s body nodes (opens body refl)

module _ (w : World) (p : Plain) (all : AllSound w p) where
  nodes : NodesHeld w
  nodes = nodes_held w p all.both all.releases all.taken

  balanced : is_live w.kernel.phase ≡ true → OpensBalanced w
  balanced live = let opens = all.opens in opens.balanced live

  -- ---- Held

  release_meant : is_live w.kernel.phase ≡ true → (kept : Purpose) → ReleaseKnown w.kernel.nodes kept
      → ReleaseDenotesSome w kept
  release_meant live purpose.Init known = tt
  release_meant live (purpose.Release o) known = known_meant w p all.both all.releases o.nodeid known
  release_meant live (purpose.Call call) known = tt

  held_live : is_live w.kernel.phase ≡ true → HeldLive w
  held_live live =
      let of_nodes = nodes.live live in
      let files = (balanced live).files in
      let releases = all.releases in
      record {
        nodes = of_nodes.nodes;
        names = of_nodes.names;
        targets = of_nodes.targets;
        calls = of_nodes.calls;
        opens = λ i o lt. open_meant w _ (of_nodes.opens i o lt) (opens_fit w files i o lt);
        closing = λ i o lt. open_meant w _ (of_nodes.closing i o lt) (closing_fit w files i o lt);
        releases = λ i e lt. release_meant live _ (releases.requests i e lt);
        copies = of_nodes.copies;
      }

  pending_held : (b : Bool) → is_live w.kernel.phase ≡ b
      → All (λ (e : ℕ × QueuedRequest Purpose). MatchOption (body_of w.kernel e.1.kept) ⊥ (IsServable w.server))
      (pending w.kernel.queues)
  pending_held true live = λ i e lt.
      let files = (balanced live).files in
      let entry = get_or (pending w.kernel.queues) i e in
      let opens = all.opens in
      body_servable w.server (body_of w.kernel entry.1.kept) (nodes.pending i e lt)
      (λ body is. pending_servable w files opens.apart entry (pending_fit w files i e lt) body is)
  pending_held false dead =
      let world = all.both.world in
      let lookups = world.lookups in
      let numbers = lookups.numbers in
      subst (λ (q : QueueState Purpose). All (λ (e : ℕ × QueuedRequest Purpose). MatchOption
      (body_of w.kernel e.1.kept) ⊥ (IsServable w.server)) (pending q)) (sym (numbers.idle dead)) (All-nil _)

  sent_held : (b : Bool) → is_live w.kernel.phase ≡ b → All (λ (r : Request). IsServable w.server r.body) w.requests
  sent_held true live = λ i r lt.
      let files = (balanced live).files in
      let opens = all.opens in
      servable w.server _ (nodes.sent i r lt) (sent_servable w files opens.apart (all.both.asked live) i r lt)
  sent_held false dead =
      let links = all.both.links in
      let idle = links.idle dead in
      subst (All (λ (r : Request). IsServable w.server r.body)) (sym idle.requests) (All-nil _)

  handles_open : (b : Bool) → is_live w.kernel.phase ≡ b → HeldHandlesOpen w
  handles_open true live = held_handles w p all.both all.opens live
  handles_open false dead = (all.left dead).numbers

  taken_held : All (λ (t : HeldRequest). IsServable w.server t.body) (values w.server.held)
  taken_held =
      let taken = all.taken in
      let numbers = handles_open (is_live w.kernel.phase) refl in
      let opens = All-found_values (λ (t : HeldRequest). All (IsOfItsNode w.server)
      (opens_of_body t.body)) w.server.held taken.in_order
      (λ unique t at. λ i o lt. numbers.files unique t at (get_or (opens_of_body t.body) i o)
      (All-contains_itself (opens_of_body t.body) i o lt)) in
      λ i t lt. servable w.server _ (nodes.taken i t lt) (opens i t lt)

  all_held : Held w
  all_held = record {
    live = held_live;
    pending = pending_held (is_live w.kernel.phase) refl;
    sent = sent_held (is_live w.kernel.phase) refl;
    taken = taken_held;
  }

  -- ---- at rest

  settled : AtRest w → Settled w
  settled rest =
      let world = all.both.world in
      let no_calls = none_called w world all.waiting rest p all.both.alike in
      let no_closing = none_closing w all.releases.files no_calls in
      let balance = (balanced rest.live).balance in
      record {
        processing = none_processing w world all.waiting rest;
        calls = no_calls;
        nodes = λ id. same_node w world.lookups rest id;
        opens = λ fh. opens_counted w rest fh balance no_closing;
        once = λ fh. once_at_rest w all.opens all.once rest fh;
        counted = λ fh open_call at. world.lookups.server.handles.counts fh open_call at;
        files = opens_fit w (balanced rest.live).files;
      }

  pub all_keep : Protocol w
  all_keep =
      let world = all.both.world in
      let lookups = world.lookups in
      record {
        balance = λ live. (lookups.balanced live).balance;
        open_balance = λ live. (balanced live).balance;
        open_once = λ live fh. once_in_kernel w (all.once live) fh;
        held = all_held;
        no_fault = no_fault w p all.both all.releases all.faultless;
        no_wrong_body = no_wrong_body w p all.both all.fits;
        at_rest = settled;
      }
