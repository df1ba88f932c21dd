-- The server takes an INTERRUPT: it marks its original and the ask of that, is ignored, or is answered EAGAIN.
use Rattle.std.proofs.Common.{◌≡◌, ℕ, ◌+◌, ◌-◌, ◌≤◌, Bool, true, false, true≢false, cond, Option, Some, None, nat_eq, is_some, count_by, get_or, remove, refl, ap, sym, subst, ◌∙◌, arith, inl, inr}
use Rattle.std.proofs.lemmas.Bool.{cases_eq}
use Rattle.fuse_spec.specs.declared.Opened.{Opened}
use Rattle.fuse_spec.specs.declared.Purpose.{Purpose}
use Rattle.fuse_spec.specs.declared.QueuedRequest.{QueuedRequest}
use Rattle.fuse_spec.specs.Values.Maps.{Map, get, put}
use Rattle.fuse_spec.specs.Values.Maps as maps
use Rattle.fuse_spec.specs.Values.Numbers.{eagain}
use Rattle.fuse_spec.specs.Files.Operations.{failed, OperationAlike}
use Rattle.fuse_spec.specs.Kernel.Queues.{pending}
use Rattle.fuse_spec.specs.Kernel.Messages.{RequestBody, init, asks, release, forget, batch_forget, interrupt, Request}
use Rattle.fuse_spec.specs.Server.Server.{HeldRequest, Kept}
use Rattle.fuse_spec.specs.Server.Taking.{TakeResult, interrupting, taking}
use Rattle.fuse_spec.specs.World.Worlds.{World, after_take}
use Rattle.fuse_spec.specs.World.Events as event
use Rattle.fuse_spec.specs.Reference.Plain.{Plain, Ask, ask_marked}
use Rattle.fuse_spec.specs.Reference.PlainSteps.{Takes, marking}
use Rattle.fuse_spec.specs.Claim.Denotes.{NodeDenotesIn, OpenDenotesIn}
use Rattle.fuse_spec.specs.Claim.Alike.{RequestBodyAsked, StillDenotes, OpenStillDenotes, Alike}
use Rattle.fuse_spec.proofs.Tables.{get_put_here, get_put_there, get_gone_here, get_gone_there}
use Rattle.fuse_theorem.specs.Conditions.{IsInterrupt}
use Rattle.fuse_theorem.proofs.Refining.Changing.{MayReplace, ask_changed}
use Rattle.fuse_theorem.proofs.Calls.Finding.{same_is, none_passes, all_fail}
use Rattle.fuse_theorem.proofs.Refining.Queuing.{All-without, All-at}
use Rattle.fuse_theorem.proofs.Refining.Taking.{ignored_alike, sending_alike}

-- a request that is held is asked so
abbrev HeldAsked : World → Plain → ℕ → HeldRequest → Type 0
HeldAsked w p unique t = RequestBodyAsked p.asks unique false t.marked (StillDenotes w.server.nodes t.generations)
    (OpenStillDenotes w.server.nodes w.server.handles t.generations) t.body

-- Others are held, each of them asked.
holding_alike : (w : World) (p : Plain) → Alike w p → (held : Map HeldRequest)
    → ((unique : ℕ) (t : HeldRequest) → get held unique ≡ Some t → HeldAsked w p unique t)
    → Alike (record w { server = record w.server { held = held } }) p
holding_alike w p same held each = record {
  tree = record {
    names = same.tree.names;
    next_inode = same.tree.next_inode;
    next_cookie = same.tree.next_cookie;
    files = same.tree.files;
  };
  vfs = same.vfs;
  requests = record { pending = same.requests.pending; sent = same.requests.sent; held = each };
  asks = λ live.
      let old = same.asks live in
      record {
        of_calls = λ q state is.
            let pair = old.of_calls q state is in
            record {
              unique = pair.unique;
              ask = pair.ask;
              request = pair.request;
              there = pair.there;
              by = pair.by;
              same = pair.same;
            };
        no_other = old.no_other;
        signalled = old.signalled;
        kept = old.kept;
        copies = old.copies;
      };
  validity = same.validity;
  minor = same.minor;
  agreed = same.agreed;
  aborted = same.aborted;
}

-- a marked request is asked of the marked ask
marked_asked : (R : ℕ → ℕ → Type 0) (S : Opened → ℕ → Type 0) (all : Map Ask) (unique : ℕ) (marked : Bool)
    (body : RequestBody) (ask : Ask) → get all unique ≡ Some ask → ask.noted ≡ true
    → RequestBodyAsked all unique false marked R S body
    → RequestBodyAsked (put all unique (record ask { marked = true })) unique false true R S body
marked_asked R S all unique marked (asks operation) ask there noted h =
    let same : h.ask ≡ ask = cc (h.there, there) in
    let stage = h.is_waiting.stage in
    record {
      ask = record ask { marked = true };
      there = get_put_here all unique (record ask { marked = true });
      is_waiting = record {
        stage = ap (λ (a : Ask). a.stage) (sym same) ∙ stage;
        noted = λ _. noted;
        marked_too = refl;
      };
      same = subst (λ (a : Ask). OperationAlike R S operation a.operation) same h.same;
    }
marked_asked R S all unique marked (init flags) ask there noted h = absurd (cc (h, there))
marked_asked R S all unique marked (release o) ask there noted h = absurd (cc (h, there))
marked_asked R S all unique marked (forget f) ask there noted h = absurd (cc (h, there))
marked_asked R S all unique marked (batch_forget fs) ask there noted h = absurd (cc (h, there))
marked_asked R S all unique marked (interrupt original) ask there noted h = absurd (cc (h, there))

-- a request that asks nothing has no ask when it is marked either
marked_unasked : (R : ℕ → ℕ → Type 0) (S : Opened → ℕ → Type 0) (all : Map Ask) (unique : ℕ) (marked : Bool)
    (body : RequestBody) → get all unique ≡ None
    → RequestBodyAsked all unique false marked R S body → RequestBodyAsked all unique false true R S body
marked_unasked R S all unique marked (asks operation) none h = let there = h.there in absurd (cc (none, there))
marked_unasked R S all unique marked (init flags) none h = h
marked_unasked R S all unique marked (release o) none h = h
marked_unasked R S all unique marked (forget f) none h = h
marked_unasked R S all unique marked (batch_forget fs) none h = h
marked_unasked R S all unique marked (interrupt original) none h = h

module _ (w : World) (p : Plain) (same : Alike w p) (original : ℕ) (t : HeldRequest)
    (there : get w.server.held original ≡ Some t) where
  abbrev marked : HeldRequest
  marked = record t { marked = true }

  abbrev others : Map HeldRequest
  others = maps.remove w.server.held original

  -- Beside the others, a held request is the one under its number.
  held_beside : (q : Plain) → ((unique : ℕ) (x : HeldRequest) → get others unique ≡ Some x → HeldAsked w q unique x)
      → HeldAsked w q original marked
      → (unique : ℕ) (x : HeldRequest) → get (put w.server.held original marked) unique ≡ Some x
      → HeldAsked w q unique x
  held_beside q each mine unique x at = elim (cases_eq unique original) [
    | inl e ↦
        let is : marked ≡ x = cc (
          get_put_here w.server.held original marked,
          subst (λ (n : ℕ). get (put w.server.held original marked) n ≡ Some x) e at,
        ) in
        subst (λ (n : ℕ). HeldAsked w q n x) (sym e) (subst (λ (y : HeldRequest). HeldAsked w q original y) is mine)
    | inr ne ↦ each unique x (get_gone_there w.server.held original unique ne ∙ sym
        (get_put_there w.server.held original marked unique ne) ∙ at)
  ]

  others_asked : (unique : ℕ) (x : HeldRequest) → get others unique ≡ Some x → HeldAsked w p unique x
  others_asked unique x at = elim (cases_eq unique original) [
    | inl e ↦ absurd (cc (get_gone_here w.server.held original, subst (λ (n : ℕ). get others n ≡ Some x) e at))
    | inr ne ↦ same.requests.held unique x (sym (get_gone_there w.server.held original unique ne) ∙ at)
  ]

  abbrev marked_world : World
  marked_world = record w { server = record w.server { held = put w.server.held original marked } }

  -- INIT or RELEASE is marked. Nothing is asked there.
  unasked_alike : get p.asks original ≡ None → Alike marked_world p
  unasked_alike none =
      holding_alike w p same (put w.server.held original marked) (held_beside p others_asked
      (marked_unasked (StillDenotes w.server.nodes t.generations)
      (OpenStillDenotes w.server.nodes w.server.handles t.generations) p.asks original t.marked t.body none
      (same.requests.held original t there)))

  abbrev other_world : World
  other_world = record w { server = record w.server { held = others } }

  module _ (ask : Ask) (asked : get p.asks original ≡ Some ask) (noted : ask.noted ≡ true)
      (no_pending : count_by (λ (e : ℕ × QueuedRequest Purpose). nat_eq original e.0) (pending w.kernel.queues) ≡ 0)
      (no_sent : count_by (λ (r : Request). nat_eq original r.unique) w.requests ≡ 0) where
    may_mark : MayReplace other_world p original (record ask { marked = true })
    may_mark = record {
      old = ask;
      there = asked;
      same_call = refl;
      same_operation = refl;
      pending = λ i e lt here.
          let entry = get_or (pending w.kernel.queues) i e in
          let apart = none_passes (λ (x : ℕ × QueuedRequest Purpose). nat_eq original x.0)
          (pending w.kernel.queues) no_pending i e lt in
          absurd (true≢false (sym (same_is original) ∙ ap (nat_eq original) (sym here) ∙ apart));
      sent = λ i r lt here.
          let apart = none_passes (λ (x : Request). nat_eq original x.unique) w.requests no_sent i r lt in
          absurd (true≢false (sym (same_is original) ∙ ap (nat_eq original) (sym here) ∙ apart));
      held = λ x at. absurd (cc (get_gone_here w.server.held original, at));
      noted = λ request under bears _. noted;
      kept = λ kept stored reply_matches. reply_matches;
      copies = λ i s lt here reply_matches. reply_matches;
    }

    -- The request of a call is marked, and its ask.
    asked_alike : Alike marked_world (ask_marked p original ask)
    asked_alike =
        let apart : Alike other_world (ask_marked p original ask) =
        ask_changed other_world p (holding_alike w p same others others_asked) original
        (record ask { marked = true }) may_mark in
        holding_alike other_world (ask_marked p original ask) apart (put w.server.held original marked)
        (held_beside (ask_marked p original ask) apart.requests.held
        (marked_asked (StillDenotes w.server.nodes t.generations)
        (OpenStillDenotes w.server.nodes w.server.handles t.generations) p.asks original t.marked t.body ask asked noted
        (same.requests.held original t there)))

module _ (w : World) (p : Plain) (same : Alike w p) (k : ℕ) (r : Request) (original : ℕ)
    (is : IsInterrupt w p k r original) where
  -- Once the server has done this with it, the plain world has taken its step, and the two are alike.
  abbrev GoesTo : TakeResult → Type 0
  GoesTo took = (q : Plain) × Takes p (event.take k) (event.taken r.unique took.word) q
      × Alike (after_take w k r.unique took) q

  abbrev left : World
  left = record w { requests = remove w.requests k }

  one_before : r.unique - 1 ≡ original
  one_before = let number = is.number in omega (arith, number)

  -- none on the link has the original's number, and none that is left
  unsent : count_by (λ (x : Request). nat_eq original x.unique) w.requests ≡ 0
      → count_by (λ (x : Request). nat_eq original x.unique) left.requests ≡ 0
  unsent none =
      all_fail (λ (x : Request). nat_eq original x.unique) left.requests
      (All-without (λ (x : Request). nat_eq original x.unique ≡ false) w.requests k
      (none_passes (λ (x : Request). nat_eq original x.unique) w.requests none))

  alone : {a b : ℕ} (held : Bool) → held ≡ true → (a + b) + cond held 1 0 ≤ 1 → (a ≡ 0) × (b ≡ 0)
  alone true e le = (omega (arith, le), omega (arith, le))
  alone false e le = absurd (cc)

  -- The original is held.
  marks : (t : HeldRequest) (kept : Option Kept) → get w.server.held original ≡ Some t
      → GoesTo (interrupting w.server r.unique original (Some t) kept)
  marks t kept there = by (get p.asks original) refl
    where
      step : (o : Option Ask) → get p.asks original ≡ o
          → marking p (r.unique - 1) (get p.asks (r.unique - 1)) ≡ marking p original o
      step o e = ap (λ (n : ℕ). marking p n (get p.asks n)) one_before ∙ ap (marking p original) e

      by : (o : Option Ask) → get p.asks original ≡ o → GoesTo (interrupting w.server r.unique original (Some t) kept)
      by None none = (p, (0, step None none), unasked_alike left p (ignored_alike w p same k) original t there none)
      by (Some ask) asked =
          let nowhere = alone (is_some (get w.server.held original)) (ap is_some there) is.once in (
            ask_marked p original ask,
            (0, step (Some ask) asked),
            asked_alike left p (ignored_alike w p same k) original t there ask asked (is.noted ask asked) nowhere.0
                (unsent nowhere.1),
          )

  -- The original is not known: EAGAIN goes out under the INTERRUPT's own number, under which nothing is asked.
  again_alike : Alike (after_take w k r.unique (interrupting w.server r.unique original None None)) p
  again_alike =
      let unasked : get p.asks r.unique ≡ None =
      subst (λ (body : RequestBody). RequestBodyAsked p.asks r.unique false false (NodeDenotesIn w)
      (OpenDenotesIn w) body) is.body_is
      (All-at (λ (x : Request). RequestBodyAsked p.asks x.unique false false (NodeDenotesIn w)
      (OpenDenotesIn w) x.body) w.requests k r same.requests.sent is.there) in
      sending_alike left p (ignored_alike w p same k) r.unique
      (failed eagain) w.server.next_copy w.server.next_copy unasked

  interrupt_goes : (held : Option HeldRequest) (kept : Option Kept) → get w.server.held original ≡ held
      → GoesTo (interrupting w.server r.unique original held kept)
  interrupt_goes (Some t) kept there = marks t kept there
  interrupt_goes None (Some kept) there = (p, (0, refl), ignored_alike w p same k)
  interrupt_goes None None there = (p, (0, refl), again_alike)

  pub take_interrupt_goes : GoesTo (taking w.server r.unique r.body)
  take_interrupt_goes = subst (λ (body : RequestBody). GoesTo (taking w.server r.unique body)) (sym is.body_is)
      (interrupt_goes (get w.server.held original) (get w.server.kept original) refl)
