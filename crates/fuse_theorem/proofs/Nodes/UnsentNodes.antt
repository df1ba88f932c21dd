-- A node that the kernel does not pin stands in no request on the link.
use Rattle.fuse_spec.specs.Values.Numbers.{init_flags}
use Rattle.std.proofs.Common.{◌≡◌, ℕ, Bool, false, ◌||◌, List, [], ◌∷◌, Option, Some, None, Ok, nat_eq, get_or, arith, refl, ap, subst, All}
use Rattle.std.specs.List.{list_any}
use Rattle.std.proofs.lemmas.Bool.Decides.{nat_tests}
use Rattle.std.proofs.lemmas.List.Elements.{All-nil, All-cons}
use Rattle.fuse_spec.specs.declared.Opened.{Opened}
use Rattle.fuse_spec.specs.declared.Purpose.{Purpose}
use Rattle.fuse_spec.specs.declared.Purpose.TheVariants as purpose
use Rattle.fuse_spec.specs.declared.QueuedRequest.{QueuedRequest}
use Rattle.fuse_spec.specs.Values.Maps.{get, values}
use Rattle.fuse_spec.specs.Kernel.Messages.{RequestBody, init, asks, release, forget, batch_forget, interrupt}
use Rattle.fuse_spec.specs.Files.Operations.{files_in}
use Rattle.fuse_spec.specs.Calls.Vfs.{CallState, walking, doing, using, asked}
use Rattle.fuse_spec.specs.Files.Operations.{opened_nodes}
use Rattle.fuse_spec.specs.Kernel.Kernel.{Kernel, asked_by, body_of, nodes_of_state, is_released_by, is_pinned, is_bound}
use Rattle.fuse_spec.specs.Server.Server.{nodes_of_body}
use Rattle.fuse_spec.specs.World.Worlds.{World}
use Rattle.fuse_spec.specs.World.Events.{Event, Outcome}
use Rattle.fuse_spec.specs.World.Events as event
use Rattle.fuse_spec.specs.Reference.Plain.{Plain}
use Rattle.fuse_spec.specs.World.Steps.{step}
use Rattle.fuse_theorem.specs.AskedRequests.{IsAsked, SentAsked, RequestsAsked, RequestsAskedWhileLive}
use Rattle.fuse_theorem.specs.Conditions.{IsUnsent}
use Rattle.fuse_theorem.specs.EachEvent.{Needs}
use Rattle.fuse_theorem.specs.WorldSound.{WorldSound}
use Rattle.fuse_theorem.proofs.Refining.Evicting.{or_false, found_fails}
use Rattle.fuse_theorem.proofs.Calls.Finding.{All-found}
use Rattle.fuse_theorem.proofs.RefusalCases.Happened.{Happened, by_evict, happened}

-- what nothing passes, each fails
pub each_fails : {X : Type 0} (test : X → Bool) (xs : List X) → list_any test xs ≡ false → All (λ x. test x ≡ false) xs
each_fails test [] none = All-nil (λ x. test x ≡ false)
each_fails test (x ∷ xs) none =
    let parts = or_false (test x) (list_any test xs) none in
    All-cons (λ y. test y ≡ false) x xs parts.0 (each_fails test xs parts.1)

-- a call's operation names no more nodes than the call
asked_fewer : (node : ℕ) (state : CallState Opened) → list_any (nat_eq node) (nodes_of_state state) ≡ false
    → list_any (nat_eq node) (files_in opened_nodes (asked state)) ≡ false
asked_fewer node (walking d word words plan) none = ap (λ (b : Bool). b || false) (or_false (nat_eq node d) _ none).0
asked_fewer node (doing operation) none = none
asked_fewer node (using open_call operation) none = none

module _ (k : Kernel) (node : ℕ) (unpinned : is_pinned k node ≡ false) where
  abbrev OfCalls : CallState Opened → Bool
  OfCalls state = list_any (nat_eq node) (nodes_of_state state)

  abbrev OfReleases : ℕ × QueuedRequest Purpose → Bool
  OfReleases e = is_released_by node e.1.kept

  unnamed : (list_any OfCalls (values k.vfs.calls) ≡ false) × (list_any OfReleases k.queues.requests ≡ false)
  unnamed =
      let first = or_false (list_any OfCalls (values k.vfs.calls)) _ unpinned in
      (first.0, (or_false _ (list_any OfReleases k.queues.requests) first.1).1)

  of_kept : (kept : Purpose) (body : RequestBody) → is_released_by node kept ≡ false → body_of k kept ≡ Some body
      → list_any (nat_eq node) (nodes_of_body body) ≡ false
  of_kept purpose.Init body free says = let is : init init_flags ≡ body =
      cc in subst (λ (b : RequestBody). list_any (nat_eq node) (nodes_of_body b) ≡ false) is refl
  of_kept (purpose.Release o) body free says =
      let is : release o ≡ body = cc in
      subst (λ (b : RequestBody). list_any (nat_eq node) (nodes_of_body b) ≡ false) is
      (ap (λ (b : Bool). b || false) (turned free))
    where
      turned : nat_eq o.nodeid node ≡ false → nat_eq node o.nodeid ≡ false
      turned e = grind (arith, nat_tests, e)
  of_kept (purpose.Call call) body free says = by (get k.vfs.calls call) refl says
    where
      by : (o : Option (CallState Opened)) → get k.vfs.calls call ≡ o → asked_by o ≡ Some body
          → list_any (nat_eq node) (nodes_of_body body) ≡ false
      by None at e = absurd (cc)
      by (Some state) at e =
          let is : asks (asked state) ≡ body = cc in
          subst (λ (b : RequestBody). list_any (nat_eq node) (nodes_of_body b) ≡ false) is
          (asked_fewer node state (found_fails OfCalls k.vfs.calls call state unnamed.0 at))

  pub of_asked : (unique : ℕ) (body : RequestBody) → IsAsked k unique body
      → list_any (nat_eq node) (nodes_of_body body) ≡ false
  of_asked unique body x = of_kept x.request.kept body
      (All-found (λ (e : ℕ × QueuedRequest Purpose). OfReleases e ≡ false) unique k.queues.requests x.request
      (each_fails OfReleases k.queues.requests unnamed.1) x.under) x.asks

  of_sent : (unique : ℕ) (body : RequestBody) → SentAsked k unique body
      → list_any (nat_eq node) (nodes_of_body body) ≡ false
  of_sent unique (init flags) x = refl
  of_sent unique (asks operation) x = of_asked unique (asks operation) x
  of_sent unique (release o) x = of_asked unique (release o) x
  of_sent unique (forget f) x = refl
  of_sent unique (batch_forget fs) x = refl
  of_sent unique (interrupt original) x = refl

unpinned_unsent : (w : World) → RequestsAsked w → (node : ℕ) → is_pinned w.kernel node ≡ false → IsUnsent w node
unpinned_unsent w old node unpinned = λ i d lt. let r =
    get_or w.requests i d in of_sent w.kernel node unpinned r.unique r.body (old.sent i d lt)

-- Where a node goes, what that needs of the world holds.
pub evict_met : (choice : ℕ → ℕ) (w : World) (p : Plain) → WorldSound w → RequestsAskedWhileLive w
    → (node : ℕ) (o : Outcome) (after : World) → step choice w (event.evict node) ≡ Ok (o, after)
    → Needs choice w p (event.evict node)
evict_met choice w p sound old node o after stepped =
    by (event.evict node) refl o after (happened choice w o after (event.evict node) stepped)
  where
    by : (e : Event) → e ≡ event.evict node → (o : Outcome) (after : World) → Happened choice w e o after
        → Needs choice w p (event.evict node)
    by e is o after (by_evict other counted live there unused) =
        let same : other ≡ node = cc in (
          sound.rooted,
          subst (IsUnsent w) same (unpinned_unsent w (old live) other
              (or_false (is_pinned w.kernel other) (is_bound w.kernel other) unused).0),
        )
    by e is o after other = absurd (cc)
