-- A request of a call ends, and its ask with it: all else stays alike while the call takes its step.
use Rattle.std.proofs.Common.{◌≡◌, ◌≢◌, ℕ, ◌+◌, ◌≤◌, Bool, true, false, true≢false, cond, List, Option, Some, None, nat_eq, is_some, get_or, refl, ap, sym, subst, ◌∙◌, arith, inl, inr, All}
use Rattle.std.specs.Prelude.{MatchOption}
use Rattle.std.specs.Map.{remove_entry}
use Rattle.std.proofs.lemmas.Bool.{cases_eq}
use Rattle.fuse_spec.specs.declared.Opened.{Opened}
use Rattle.fuse_spec.specs.declared.Purpose.{Purpose}
use Rattle.fuse_spec.specs.declared.Purpose.TheVariants as purpose
use Rattle.fuse_spec.specs.declared.QueuedRequest.{QueuedRequest}
use Rattle.fuse_spec.specs.Values.Maps.{Map, get, remove}
use Rattle.fuse_spec.specs.Kernel.Queues.{QueueState, pending, request_under, is_unread, is_signalled}
use Rattle.fuse_spec.specs.Kernel.Messages.{RequestBody, init, asks, release, forget, batch_forget, interrupt, Request}
use Rattle.fuse_spec.specs.Kernel.Kernel.{body_of, is_for, request_of}
use Rattle.fuse_spec.specs.World.Worlds.{World}
use Rattle.fuse_spec.specs.Reference.Plain.{Plain, Ask, waiting}
use Rattle.fuse_spec.specs.Claim.Denotes.{NodeDenotesIn, OpenDenotesIn}
use Rattle.fuse_spec.specs.Claim.Alike.{RequestBodyAsked, PurposeAsked, Alike}
use Rattle.fuse_spec.proofs.Tables.{get_gone_here, get_gone_there}
use Rattle.fuse_spec.proofs.QueueCounts.{lookup-remove_entry_other}
use Rattle.fuse_spec.proofs.QueueReadings.{key_count-le-one, request_under-without}
use Rattle.fuse_theorem.specs.Numbering.{IsNumbered, requests_for}
use Rattle.fuse_theorem.proofs.Calls.Finding.{same_is, other_is, no_key, All-filter, All-filter_left, find_left, count_left, found_entry}
use Rattle.fuse_theorem.proofs.Refining.Asking.{match_more, AlikeExceptCall}

-- the plain world without the ask under a label
abbrev pub without_ask : Plain → ℕ → Plain
without_ask p label = record p { asks = remove p.asks label }

-- the queues without the request under a number, and with these INTERRUPTs
abbrev pub without_request : QueueState Purpose → ℕ → List ℕ → QueueState Purpose
without_request q unique interrupts = record q {
  requests = remove_entry (nat_eq unique) q.requests;
  interrupts = interrupts;
}

-- another ask gone leaves what is asked under this label
pub asked_without : (R : ℕ → ℕ → Type 0) (S : Opened → ℕ → Type 0) (all : Map Ask) (label unique : ℕ)
    (signalled marked : Bool) (body : RequestBody) → unique ≢ label
    → RequestBodyAsked all unique signalled marked R S body
    → RequestBodyAsked (remove all label) unique signalled marked R S body
asked_without R S all label unique signalled marked (asks operation) ne old =
    record {
      ask = old.ask;
      there = get_gone_there all label unique ne ∙ old.there;
      is_waiting = old.is_waiting;
      same = old.same;
    }
asked_without R S all label unique signalled marked (init flags) ne old = get_gone_there all label unique ne ∙ old
asked_without R S all label unique signalled marked (release o) ne old = get_gone_there all label unique ne ∙ old
asked_without R S all label unique signalled marked (forget f) ne old = get_gone_there all label unique ne ∙ old
asked_without R S all label unique signalled marked (batch_forget fs) ne old = get_gone_there all label unique ne ∙ old
asked_without R S all label unique signalled marked (interrupt original) ne old =
    get_gone_there all label unique ne ∙ old

-- where the ask under a number is not waiting, no request under that number asks
pub not_asked : (R : ℕ → ℕ → Type 0) (S : Opened → ℕ → Type 0) (all : Map Ask) (unique : ℕ) (signalled marked : Bool)
    (body : RequestBody) (ask : Ask) → get all unique ≡ Some ask → ask.stage ≢ waiting
    → RequestBodyAsked all unique signalled marked R S body → ⊥
not_asked R S all unique signalled marked (asks operation) ask there over old =
    let same : old.ask ≡ ask = cc (old.there, there) in
    let stage = old.is_waiting.stage in
    over (ap (λ (a : Ask). a.stage) (sym same) ∙ stage)
not_asked R S all unique signalled marked (init flags) ask there over old = cc
not_asked R S all unique signalled marked (release o) ask there over old = cc
not_asked R S all unique signalled marked (forget f) ask there over old = cc
not_asked R S all unique signalled marked (batch_forget fs) ask there over old = cc
not_asked R S all unique signalled marked (interrupt original) ask there over old = cc

pub is_get_none : {X : Type 0} (o : Option X) → ((x : X) → o ≡ Some x → ⊥) → o ≡ None
is_get_none None f = refl
is_get_none (Some x) f = absurd (f x refl)

module _ (w : World) (p : Plain) (numbered : IsNumbered w) (same : Alike w p) (unique call : ℕ)
    (r : QueuedRequest Purpose) (ask : Ask)
    (under : request_under w.kernel.queues unique ≡ Some r) (serves : r.kept ≡ purpose.Call call)
    (there : get p.asks unique ≡ Some ask) where
  abbrev q0 : QueueState Purpose
  q0 = w.kernel.queues

  -- only this call's request stands under this number
  only_of : (other : ℕ) → request_of w.kernel other ≡ Some unique → other ≡ call
  only_of other e =
      let found = found_entry (λ (x : ℕ × QueuedRequest Purpose). is_for other x.1.kept) q0.requests unique
      (key_count-le-one q0 unique numbered.queues) e in
      let is_r : found.0 ≡ r = cc (found.1, under) in
      let for_it : is_for other (purpose.Call call) ≡ true =
      subst (λ (k : Purpose). is_for other k ≡ true) (ap
      (λ (x : QueuedRequest Purpose). x.kept) is_r ∙ serves) found.2 in
      elim (cases_eq other call) [
        | inl e ↦ e
        | inr ne ↦ absurd
            (true≢false (sym for_it ∙ other_is call other (λ z. ne (sym z))))
      ]

  pub none_left : (interrupts : List ℕ) → requests_for call (without_request q0 unique interrupts) ≡ 0
  none_left interrupts =
      let count = count_left (λ (x : ℕ × QueuedRequest Purpose). is_for call x.1.kept) unique r q0.requests under in
      let mine : is_for call r.kept ≡ true = subst (λ (k : Purpose). is_for call k ≡ true) (sym serves)
      (same_is call) in
      let total : requests_for call (without_request q0 unique interrupts) + 1 ≡ requests_for call q0 =
      subst (λ (b : Bool). requests_for call (without_request q0 unique interrupts) + cond b 1 0
      ≡ requests_for call q0) mine count in
      at_most (is_some (get w.kernel.vfs.calls call)) (numbered.one_request call) total
    where
      at_most : {a b : ℕ} (t : Bool) → b ≤ cond t 1 0 → a + 1 ≡ b → a ≡ 0
      at_most true le e = omega (arith, le, e)
      at_most false le e = absurd (omega (arith, le, e))

  keys_apart : (interrupts : List ℕ) → All (λ (e : ℕ × QueuedRequest Purpose). e.0 ≢ unique)
      (pending (without_request q0 unique interrupts))
  keys_apart interrupts =
      All-filter (λ (e : ℕ × QueuedRequest Purpose). is_unread e.1.mark)
      (λ (e : ℕ × QueuedRequest Purpose). e.0 ≢ unique) (remove_entry (nat_eq unique) q0.requests)
      (no_key unique (remove_entry (nat_eq unique) q0.requests) (request_under-without q0 unique numbered.queues))

  same_body_left : (interrupts : List ℕ) (kept : Purpose)
      → body_of (record w.kernel { queues = without_request q0 unique interrupts }) kept ≡ body_of w.kernel kept
  same_body_left interrupts purpose.Init = refl
  same_body_left interrupts (purpose.Release o) = refl
  same_body_left interrupts (purpose.Call c) = refl

  -- The request leaves the queues, and its ask the plain world.
  pub paused_ended : (interrupts : List ℕ) → All (λ (s : Request). s.unique ≢ unique) w.requests
      → get w.server.held unique ≡ None
      → AlikeExceptCall (record w { kernel = record w.kernel { queues = without_request q0 unique interrupts } })
      (without_ask p unique) call
  paused_ended interrupts sent_apart unheld =
      let k = record w.kernel { queues = without_request q0 unique interrupts } in
      let stays : (c v : ℕ) → request_of w.kernel c ≡ Some v → v ≢ unique → request_of k c ≡ Some v =
      λ c v e ne. find_left (λ (x : ℕ × QueuedRequest Purpose). is_for c x.1.kept) unique v q0.requests e ne in
      let was : (v : ℕ) (x : Ask) → get (remove p.asks unique) v ≡ Some x → (v ≢ unique) × (get p.asks v ≡ Some x) =
      λ v x at.
      elim (cases_eq v unique) [
        | inl e ↦ absurd (cc (
          subst (λ (n : ℕ). get (remove p.asks unique) n ≡ Some x) e at,
          get_gone_here p.asks unique,
        ))
        | inr ne ↦ (ne, sym (get_gone_there p.asks unique v ne) ∙ at)
      ] in
      record {
        none_for = none_left interrupts;
        requests = record {
          pending = λ i e lt.
              let entry = get_or (pending (without_request q0 unique interrupts)) i e in
              subst (λ (o : Option RequestBody). MatchOption o ⊥
              (RequestBodyAsked (remove p.asks unique) entry.0 (is_signalled entry.1.mark) false (NodeDenotesIn w)
              (OpenDenotesIn w))) (sym (same_body_left interrupts entry.1.kept))
              (match_more (body_of w.kernel entry.1.kept) (λ body h. asked_without (NodeDenotesIn w)
              (OpenDenotesIn w) p.asks unique entry.0 (is_signalled entry.1.mark) false body
              (keys_apart interrupts i e lt) h)
              (All-filter_left (PurposeAsked w p)
              (λ (x : ℕ × QueuedRequest Purpose). is_unread x.1.mark) unique q0.requests same.requests.pending i e lt));
          sent = λ i s lt.
              let request = get_or w.requests i s in
              asked_without (NodeDenotesIn w) (OpenDenotesIn w) p.asks unique request.unique false false request.body
              (sent_apart i s lt) (same.requests.sent i s lt);
          held = λ u t at. elim (cases_eq u unique) [
            | inl e ↦ absurd (cc (subst (λ (n : ℕ). get w.server.held n ≡ Some t) e at, unheld))
            | inr ne ↦ asked_without _ _ p.asks unique u false t.marked t.body ne (same.requests.held u t at)
          ];
        };
        asks = λ live.
            let old = same.asks live in
            record {
              of_calls = λ c state ne at.
                  let pair = old.of_calls c state at in
                  let apart : pair.unique ≢ unique = λ e. ne (only_of c
                  (subst (λ (n : ℕ). request_of w.kernel c ≡ Some n) e pair.request)) in
                  record {
                    unique = pair.unique;
                    ask = pair.ask;
                    request = stays c pair.unique pair.request apart;
                    there = get_gone_there p.asks unique pair.unique apart ∙ pair.there;
                    by = pair.by;
                    same = pair.same;
                  };
              no_other = λ u x at. stays x.call u (old.no_other u x (was u x at).1) (was u x at).0;
              signalled = λ u request x under_now at bears.
                  let parts = was u x at in
                  old.signalled u request x (sym (lookup-remove_entry_other u unique q0.requests
                  (other_is u unique parts.0)) ∙ under_now) parts.1 bears;
              kept = λ u kept x stored at. old.kept u kept x stored (was u x at).1;
              copies = λ i s lt x at. old.copies i s lt x (was (get_or w.replies i s).unique x at).1;
            };
      }

  -- Where the ask is performed or declined, nothing else stands under its number.
  pub none_sent : ask.stage ≢ waiting → All (λ (s : Request). s.unique ≢ unique) w.requests
  none_sent over i s lt e =
      let request = get_or w.requests i s in
      not_asked (NodeDenotesIn w) (OpenDenotesIn w) p.asks request.unique false false request.body ask
      (subst (λ (n : ℕ). get p.asks n ≡ Some ask) (sym e) there) over (same.requests.sent i s lt)

  pub none_held : ask.stage ≢ waiting → get w.server.held unique ≡ None
  none_held over = is_get_none (get w.server.held unique)
      (λ t at. not_asked _ _ p.asks unique false t.marked t.body ask there over (same.requests.held unique t at))
