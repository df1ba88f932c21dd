-- No request on the link has a fault.
use Rattle.fuse_theorem.proofs.Refining.SpokenStay.{request_known}
use Rattle.std.proofs.Common.{◌≡◌, ℕ, ◌≤◌, ◌<◌, Bool, true, false, ◌||◌, cond, List, length, Option, Some, None, is_some, nat_eq, get_or, refl, sym, subst, arith, All}
use Rattle.std.specs.Prelude.{◌%◌, nat_lt, count_by}
use Rattle.std.specs.List.{list_any, list_all}
use Rattle.std.proofs.lemmas.Bool.Decides.{nat_tests}
use Rattle.std.proofs.lemmas.List.Elements.{All-nil}
use Rattle.std.proofs.lemmas.List.Folds.{list_any_none}
use Rattle.std.proofs.lemmas.List.Sums.{get_or-le-sum_by, list_all-from_AllPass}
use Rattle.fuse_spec.specs.Kernel.Kernel.{is_live}
use Rattle.fuse_spec.specs.Values.Maps.{get}
use Rattle.fuse_spec.specs.Kernel.Messages.{Forget, Request, RequestBody, init, asks, release, forget, batch_forget, interrupt}
use Rattle.fuse_spec.specs.Server.Nodes.{HeldNode}
use Rattle.fuse_spec.specs.Server.Server.{HeldRequest, Kept, is_known, is_forgettable, count_in, forgotten, forgets_of, nodes_of_body, fault_of}
use Rattle.fuse_spec.specs.World.Worlds.{World}
use Rattle.fuse_spec.specs.Reference.Plain.{Plain}
use Rattle.fuse_theorem.specs.EveryList.{BothSound}
use Rattle.fuse_theorem.specs.Faultless.{Faultless}
use Rattle.fuse_theorem.specs.ReleasesKnown.{ReleasesKnown}
use Rattle.fuse_theorem.specs.Unperformed.{BearsNumber}
use Rattle.fuse_theorem.proofs.Calls.Finding.{same_is}
use Rattle.fuse_theorem.proofs.Nodes.NodesHeld.{all_sent_servable}
use Rattle.fuse_theorem.proofs.Requests.RequestsAsked.{request_even}

module _ (w : World) (p : Plain) (both : BothSound w p) (releases : ReleasesKnown w) (faultless : Faultless w)
    (live : is_live w.kernel.phase ≡ true) (i : ℕ) (d : Request) (lt : i < length w.requests) where
  abbrev r : Request
  r = get_or w.requests i d

  abbrev gives : List Forget
  gives = forgets_of (get_or w.requests i d).body

  abbrev count : ℕ → ℕ
  count id = count_in (get w.server.nodes.rows id)

  -- ---- nodes

  -- The server counts as many lookups as the request gives back, and more.
  enough : (id : ℕ) → 2 ≤ id → forgotten id (forgets_of (get_or w.requests i d).body) ≤ count_in
      (get w.server.nodes.rows id)
  enough id low =
      let world = both.world in
      let lookups = world.lookups in
      let balanced = lookups.balanced live in
      let whole = balanced.balance id low in
      let mine = get_or-le-sum_by (λ (x : Request). forgotten id (forgets_of x.body)) w.requests i d lt in
      omega (arith, whole, mine)

  given_back : (j : ℕ) (f : Forget) → j < length gives → (2 ≤ (get_or gives j f).0) × (1 ≤ count (get_or gives j f).0)
  given_back j f inside =
      let g = get_or gives j f in
      let is = faultless.sent i d lt j f inside in
      let some = is.1 in
      let among : cond (nat_eq g.0 g.0) g.1 0 ≤ forgotten g.0 gives =
      get_or-le-sum_by (λ (x : Forget). cond (nat_eq x.0 g.0) x.1 0) gives j f inside in
      let mine : g.1 ≤ forgotten g.0 gives = subst (λ (b : Bool). cond b g.1 0 ≤ forgotten g.0 gives)
      (same_is g.0) among in
      let held = enough g.0 is.0 in
      (is.0, omega (arith, some, mine, held))

  counted_there : (o : Option HeldNode) → 1 ≤ count_in o → is_some o ≡ true
  counted_there None many = absurd (omega (arith, many))
  counted_there (Some row) many = refl

  forgettable : list_all (is_forgettable w.server.nodes) gives ≡ true
  forgettable = list_all-from_AllPass (is_forgettable w.server.nodes) gives
      (λ j f inside. counted_there (get w.server.nodes.rows (get_or gives j f).0) (given_back j f inside).1)

  not_too_many : list_any (λ (f : Forget). nat_lt (count_in (get w.server.nodes.rows f.0)) (forgotten f.0 gives)) gives
      ≡ false
  not_too_many = list_any_none (λ (f : Forget). nat_lt (count_in (get w.server.nodes.rows f.0))
      (forgotten f.0 gives)) gives (λ j f inside. let held =
      enough (get_or gives j f).0 (given_back j f inside).0 in grind (arith, nat_tests, held))

  known : list_all (is_known w.server.nodes) (nodes_of_body (get_or w.requests i d).body) ≡ true
  known = list_all-from_AllPass (is_known w.server.nodes) (nodes_of_body (get_or w.requests i d).body)
      (all_sent_servable w p both releases i d lt)

  -- ---- the number

  of_held : (o : Option HeldRequest) → cond (is_some o) 1 0 ≤ 0 → is_some o ≡ false
  of_held None few = refl
  of_held (Some t) few = absurd (omega (arith, few))

  even_new : r.unique % 2 ≡ 0 → (is_some (get w.server.held r.unique) || is_some (get w.server.kept r.unique)) ≡ false
  even_new even =
      let world = both.world in
      let sound = world.requests in
      let once = sound.once r.unique even in
      let one : 1 ≤ count_by (λ (x : Request). nat_eq r.unique x.unique) w.requests =
      subst (λ (b : Bool). cond b 1 0 ≤ count_by (λ (x : Request). nat_eq r.unique x.unique) w.requests)
      (same_is r.unique) (get_or-le-sum_by (λ (x : Request). cond
      (nat_eq r.unique x.unique) 1 0) w.requests i d lt) in
      let held = of_held (get w.server.held r.unique) (omega (arith, once, one)) in
      let unanswered = sound.unanswered r.unique even (omega (arith, one)) in
      rw (held, unanswered.kept) refl

  -- no request and no kept reply has an odd number
  odd_new : r.unique % 2 ≡ 1 → (is_some (get w.server.held r.unique) || is_some (get w.server.kept r.unique)) ≡ false
  odd_new odd = by (get w.server.held r.unique) refl (get w.server.kept r.unique) refl
    where
      by : (h : Option HeldRequest) → get w.server.held (get_or w.requests i d).unique ≡ h → (o : Option Kept)
          → get w.server.kept (get_or w.requests i d).unique ≡ o → (is_some h || is_some o) ≡ false
      by (Some t) held o kept =
          let asked = ((both.asked live).held (get_or w.requests i d).unique t held).is_asked in
          let world = both.world in
          let even = request_even w.kernel.queues world.queues
          (get_or w.requests i d).unique asked.request asked.under in
          absurd (omega (arith, even, odd))
      by None held (Some k) kept = let even = faultless.kept (get_or w.requests i d).unique k kept in
          absurd (omega (arith, even, odd))
      by None held None kept = refl

  new_handle : (is_some (get w.server.held r.unique) || is_some (get w.server.kept r.unique)) ≡ false
  new_handle = by r.body (numbers i d lt)
    where
      numbers : All (λ (x : Request). BearsNumber x.unique x.body) w.requests
      numbers = let world = both.world in let sound = world.requests in sound.numbers

      by : (body : RequestBody) → BearsNumber (get_or w.requests i d).unique body
          → (is_some (get w.server.held (get_or w.requests i d).unique)
          || is_some (get w.server.kept (get_or w.requests i d).unique)) ≡ false
      by (init flags) even = even_new even
      by (asks operation) even = even_new even
      by (release o) even = even_new even
      by (forget f) even = even_new even
      by (batch_forget fs) even = even_new even
      by (interrupt original) number = odd_new (omega (arith, number))

  pub none_wrong : fault_of w.server (get_or w.requests i d) ≡ None
  none_wrong = rw (request_known w faultless.for_minor live i d lt, known, forgettable, not_too_many, new_handle) refl

-- No request that is taken has a fault.
pub no_fault : (w : World) (p : Plain) → BothSound w p → ReleasesKnown w → Faultless w
    → All (λ (r : Request). fault_of w.server r ≡ None) w.requests
no_fault w p both releases faultless = by (is_live w.kernel.phase) refl
  where
    by : (b : Bool) → is_live w.kernel.phase ≡ b → All (λ (r : Request). fault_of w.server r ≡ None) w.requests
    by true live = λ i d lt. none_wrong w p both releases faultless live i d lt
    by false dead = subst (All (λ (r : Request). fault_of w.server r ≡ None)) (sym (both.links.idle dead).requests)
        (All-nil (λ (r : Request). fault_of w.server r ≡ None))
