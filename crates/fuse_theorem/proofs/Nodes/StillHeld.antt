-- What the server holds of requests names nodes that it holds still, in a live mount and after an abort.
use Rattle.fuse_spec.specs.Values.Numbers.{init_flags}
use Rattle.std.proofs.Common.{◌≡◌, ℕ, Bool, true, false, true≢false, cond, Option, Some, None, refl, ap, sym, subst, ◌∙◌, All}
use Rattle.std.proofs.lemmas.List.Elements.{All-nil}
use Rattle.fuse_spec.specs.declared.Opened.{Opened}
use Rattle.fuse_spec.specs.declared.Purpose.{Purpose}
use Rattle.fuse_spec.specs.declared.Purpose.TheVariants as purpose
use Rattle.fuse_spec.specs.Values.Maps.{Map, get, remove}
use Rattle.fuse_spec.specs.Kernel.Messages.{RequestBody, init, asks, release, forget, batch_forget, interrupt}
use Rattle.fuse_spec.specs.Calls.Vfs.{CallState, asked as asked_of}
use Rattle.fuse_spec.specs.Kernel.Kernel.{is_live, asked_by, body_of}
use Rattle.fuse_spec.specs.Server.Nodes.{NodeTable}
use Rattle.fuse_spec.specs.Server.Server.{Server, HeldRequest}
use Rattle.fuse_spec.specs.Server.Performs.{served}
use Rattle.fuse_spec.specs.Claim.Denotes.{generation_known}
use Rattle.fuse_spec.specs.World.Worlds.{World, first_world}
use Rattle.fuse_spec.specs.World.Events.{Event, Outcome}
use Rattle.fuse_spec.specs.World.Steps.{Happens}
use Rattle.fuse_theorem.specs.AskedRequests.{serves_call, HeldAsked, RequestsAskedWhileLive}
use Rattle.fuse_theorem.specs.HeldKnown.{HeldKnownWhileLive}
use Rattle.fuse_theorem.specs.Links.{LinksSound}
use Rattle.fuse_theorem.specs.Lookups.{IsHeldAs}
use Rattle.fuse_theorem.specs.StillHeld.{IsHeldMarked, NodesStillHeld, StillHeldAfterAbort, HeldReleasesKnown}
use Rattle.fuse_theorem.specs.WorldSound.{WorldSound}
use Rattle.fuse_theorem.proofs.Requests.AfterAbort.{WithoutMount, by_loss, by_kernel, by_serving, without_mount, replying_server, unreceived_nodes}
use Rattle.fuse_theorem.proofs.RefusalCases.Happened.{happened}
use Rattle.fuse_theorem.proofs.Nodes.HeldKnown.{known_nodes_held}
use Rattle.fuse_theorem.proofs.Lookups.LookupsStay.{known_held}
use Rattle.fuse_theorem.proofs.Nodes.NodesSound.{left_found}
use Rattle.fuse_theorem.proofs.Requests.PerformedRest.{performed_rest}

abbrev KnownAs : World → ℕ × ℕ → Type 0
KnownAs w g = generation_known w.kernel.nodes g.0 ≡ Some g.1

abbrev HeldAs : NodeTable → ℕ × ℕ → Type 0
HeldAs t g = IsHeldAs t g.0 g.1

-- ---- while the mount is live

module _ (w : World) (asked : RequestsAskedWhileLive w) (live : is_live w.kernel.phase ≡ true) (unique : ℕ)
    (t : HeldRequest) (there : get w.server.held unique ≡ Some t) where
  held_asked : HeldAsked w.kernel unique t
  held_asked = (asked live).held unique t there

  -- What serves no call is not interrupted.
  unmarked : serves_call held_asked.is_asked.request.kept ≡ false → t.marked ≡ false
  unmarked none = by t.marked refl
    where
      by : (b : Bool) → t.marked ≡ b → t.marked ≡ false
      by false e = e
      by true e = let interrupted = held_asked.interrupted e in
          absurd (true≢false (sym (interrupted.of_call held_asked.is_asked.request held_asked.is_asked.under) ∙ none))

  pub held_marked : IsHeldMarked t.marked t.body
  held_marked = by held_asked.is_asked.request.kept refl held_asked.is_asked.asks
    where
      of_call : (o : Option (CallState Opened)) → asked_by o ≡ Some t.body → IsHeldMarked t.marked t.body
      of_call None says = absurd (cc)
      of_call (Some state) says = let body_is : asks (asked_of state) ≡ t.body =
          cc (says) in subst (IsHeldMarked t.marked) body_is tt

      by : (kept : Purpose) → held_asked.is_asked.request.kept ≡ kept → body_of w.kernel kept ≡ Some t.body
          → IsHeldMarked t.marked t.body
      by purpose.Init kept_is says = let body_is : init init_flags ≡ t.body =
          cc (says) in subst (IsHeldMarked t.marked) body_is (unmarked (ap serves_call kept_is))
      by (purpose.Release o) kept_is says = let body_is : release o ≡ t.body =
          cc (says) in subst (IsHeldMarked t.marked) body_is (unmarked (ap serves_call kept_is))
      by (purpose.Call call) kept_is says = of_call (get w.kernel.vfs.calls call) says

-- INIT names no node, and the kernel knows those of calls, and of RELEASEs where that is given.
pub live_still_held : (w : World) → WorldSound w → RequestsAskedWhileLive w → LinksSound w → HeldKnownWhileLive w
    → is_live w.kernel.phase ≡ true → (unique : ℕ) (t : HeldRequest) → get w.server.held unique ≡ Some t
    → ((o : Opened) → t.body ≡ release o → All (KnownAs w) t.generations) → NodesStillHeld w.server.nodes t
live_still_held w sound asked links known live unique t there releases = let mark =
    held_marked w asked live unique t there in record { held = by t.body refl mark; mark = mark }
  where
    held : All (KnownAs w) t.generations → All (HeldAs w.server.nodes) t.generations
    held h = known_nodes_held w (known_held w sound.lookups) t.generations h

    by : (body : RequestBody) → t.body ≡ body → IsHeldMarked t.marked body → All (HeldAs w.server.nodes) t.generations
    by (init flags) is mark = subst (All (HeldAs w.server.nodes)) (sym (links.held unique t there flags is))
        (All-nil (HeldAs w.server.nodes))
    by (asks operation) is mark = let old = known live unique t there in held (old.known operation is)
    by (release o) is mark = held (releases o is)
    by (forget f) is mark = absurd mark
    by (batch_forget fs) is mark = absurd mark
    by (interrupt original) is mark = absurd mark

-- ---- in any mount

module _ (w : World) (sound : WorldSound w) (asked : RequestsAskedWhileLive w) (links : LinksSound w)
    (known : HeldKnownWhileLive w) (releases : HeldReleasesKnown w) (old : StillHeldAfterAbort w) where
  pub now_still_held : (unique : ℕ) (t : HeldRequest) → get w.server.held unique ≡ Some t
      → NodesStillHeld w.server.nodes t
  now_still_held unique t there = by (is_live w.kernel.phase) refl
    where
      by : (b : Bool) → is_live w.kernel.phase ≡ b → NodesStillHeld w.server.nodes t
      by true live = live_still_held w sound asked links known live unique t there
          (λ o body_is. releases live unique t there o body_is)
      by false dead = old dead unique t there

  abbrev AllHeld : Server → Type 0
  AllHeld s = (unique : ℕ) (t : HeldRequest) → get s.held unique ≡ Some t → NodesStillHeld s.nodes t

  served_held : (choice : ℕ → ℕ) (unique : ℕ) (t : HeldRequest) → w.server.aborted ≡ true
      → AllHeld (served choice w.server unique t).server
  served_held choice unique t aborted u x at =
      let rest = performed_rest choice (record w.server { held = remove w.server.held unique }) t in
      let was = left_found w.server.held unique u x (ap (λ (m : Map HeldRequest). get m u) (sym rest.held) ∙ at) in
      subst (λ (n : NodeTable). NodesStillHeld n x) (sym (unreceived_nodes w sound choice unique t aborted))
      (now_still_held u x was)

  by_event : (choice : ℕ → ℕ) (after : World) → WithoutMount choice w after → AllHeld after.server
  by_event choice after (by_loss live) = now_still_held
  by_event choice after (by_kernel v dead same empty) = subst AllHeld (sym same) now_still_held
  by_event choice after (by_serving unique t dead aborted there) =
      let did = served choice w.server unique t in
      subst AllHeld (sym (replying_server (record w { server = did.server }) w.server.next_copy unique
      (cond w.server.aborted None (Some did.wire)))) (served_held choice unique t aborted)

-- After an abort the nodes of what is held stay held, whatever the event.
pub held_stay_held : (w : World) → WorldSound w → RequestsAskedWhileLive w → LinksSound w → HeldKnownWhileLive w
    → HeldReleasesKnown w → StillHeldAfterAbort w → (e : Event) (o : Outcome) (after : World) → Happens w e o after
    → StillHeldAfterAbort after
held_stay_held w sound asked links known releases old e o after h dead =
    by_event w sound asked links known releases old h.0 after
    (without_mount h.0 w sound asked links e o after (happened h.0 w o after e h.2) dead)

pub first_still_held : StillHeldAfterAbort first_world
first_still_held dead unique t at = absurd (cc)
