-- What the kernel does to its queues, reads of requests, INTERRUPTs and forgets among it, leaves all alike.
use Rattle.std.proofs.Common.{◌≡◌, ℕ, zero, suc, Bool, true, false, cond, List, [], ◌∷◌, remove, Option, Some, None, nat_eq, find, option_map, slice_get, get_or, take, drop, refl, ap, sym, subst, ◌∙◌, arith, All}
use Rattle.std.specs.Prelude.{MatchOption}
use Rattle.std.proofs.lemmas.Bool.Decides.{nat_tests}
use Rattle.std.proofs.lemmas.List.Elements.{All-head, All-tail, All-append, All-take, All-drop}
use Rattle.fuse_spec.specs.declared.Opened.{Opened}
use Rattle.fuse_spec.specs.declared.Mark.{Mark}
use Rattle.fuse_spec.specs.declared.Purpose.{Purpose}
use Rattle.fuse_spec.specs.declared.Purpose.TheVariants as purpose
use Rattle.fuse_spec.specs.declared.QueuedRequest.{QueuedRequest}
use Rattle.fuse_spec.specs.Values.Maps.{Map, get}
use Rattle.fuse_spec.specs.Kernel.Queues.{QueueState, pending, request_under, is_signalled}
use Rattle.fuse_spec.specs.Kernel.QueueCalls.{set_mark, with_mark}
use Rattle.fuse_spec.specs.Kernel.Messages.{RequestBody, init, asks, release, forget, batch_forget, interrupt, Request}
use Rattle.fuse_spec.specs.Kernel.Kernel.{Kernel, is_live, body_of, is_for, request_of}
use Rattle.fuse_spec.specs.World.Worlds.{World}
use Rattle.fuse_spec.specs.Reference.Plain.{Plain, Ask}
use Rattle.fuse_spec.specs.Claim.Denotes.{NodeDenotesIn, OpenDenotesIn}
use Rattle.fuse_spec.specs.Claim.Alike.{RequestBodyAsked, PurposeAsked, Alike}
use Rattle.fuse_spec.proofs.QueueCounts.{lookup-set_mark_same}
use Rattle.fuse_spec.proofs.QueueReadings.{request_under-mark_other}

-- each but the one that is taken out
pub All-without : {X : Type 0} (P : X → Type 0) (xs : List X) (k : ℕ) → All P xs → All P (remove xs k)
All-without P xs k h = All-append P (take k xs) (drop (suc k) xs) (All-take P k xs h) (All-drop P (suc k) xs h)

-- the one at a place
pub All-at : {X : Type 0} (P : X → Type 0) (xs : List X) (k : ℕ) (x : X) → All P xs → slice_get xs k ≡ Some x → P x
All-at P [] k x h at = cc
All-at P (y ∷ xs) zero x h at = subst P (cc) (All-head P y xs h)
All-at P (y ∷ xs) (suc k) x h at = All-at P xs k x (All-tail P y xs h) at

-- what a request asks is not a matter of the queues
pub same_body : (k : Kernel) (q : QueueState Purpose) (kept : Purpose)
    → body_of (record k { queues = q }) kept ≡ body_of k kept
same_body k q purpose.Init = refl
same_body k q (purpose.Release o) = refl
same_body k q (purpose.Call call) = refl

-- an ask of a request that has a signal is one of a request that has none
pub asked_unsignalled : (R : ℕ → ℕ → Type 0) (S : Opened → ℕ → Type 0) (all : Map Ask) (unique : ℕ) (signalled : Bool)
    (body : RequestBody)
    → RequestBodyAsked all unique signalled false R S body → RequestBodyAsked all unique false false R S body
asked_unsignalled R S all unique signalled (asks operation) h =
    let old = h.is_waiting in
    record {
      ask = h.ask;
      there = h.there;
      is_waiting =
          record { stage = old.stage; noted = λ e. absurd (cc); marked_too = old.marked_too };
      same = h.same;
    }
asked_unsignalled R S all unique signalled (init flags) h = h
asked_unsignalled R S all unique signalled (release o) h = h
asked_unsignalled R S all unique signalled (forget f) h = h
asked_unsignalled R S all unique signalled (batch_forget fs) h = h
asked_unsignalled R S all unique signalled (interrupt original) h = h

-- What keeps all alike as the queues change: each pending request is asked as it was, each call has the same request,
-- and none that has a signal has an ask on which none is noted.
pub record QueuesKept (w : World) (p : Plain) (q : QueueState Purpose) : Type 0 where
  pub pending : All (PurposeAsked w p) (pending q)
  pub same_request : (call : ℕ) → request_of (record w.kernel { queues = q }) call ≡ request_of w.kernel call
  pub signalled : is_live w.kernel.phase ≡ true → (unique : ℕ) (request : QueuedRequest Purpose) (ask : Ask)
      → request_under q unique ≡ Some request → get p.asks unique ≡ Some ask → is_signalled request.mark ≡ true
      → ask.noted ≡ true

pub queues_alike : (w : World) (p : Plain) → Alike w p → (q : QueueState Purpose) (requests : List Request)
    → QueuesKept w p q
    → All (λ (r : Request). RequestBodyAsked p.asks r.unique false false (NodeDenotesIn w) (OpenDenotesIn w) r.body) requests
    → Alike (record w { kernel = record w.kernel { queues = q }; requests = requests }) p
queues_alike w p same q requests stay sent = record {
  tree = same.tree;
  vfs = same.vfs;
  requests = record {
    pending = λ i e lt.
        let entry = get_or (pending q) i e in
        subst (λ (o : Option RequestBody). MatchOption o ⊥
        (RequestBodyAsked p.asks entry.0 (is_signalled entry.1.mark) false (NodeDenotesIn w) (OpenDenotesIn w)))
        (sym (same_body w.kernel q entry.1.kept)) (stay.pending i e lt);
    sent = sent;
    held = same.requests.held;
  };
  asks = λ live.
      let old = same.asks live in
      record {
        of_calls = λ c state at.
            let pair = old.of_calls c state at in
            record {
              unique = pair.unique;
              ask = pair.ask;
              request = stay.same_request c ∙ pair.request;
              there = pair.there;
              by = pair.by;
              same = pair.same;
            };
        no_other = λ u ask at. stay.same_request ask.call ∙ old.no_other u ask at;
        signalled = stay.signalled live;
        kept = old.kept;
        copies = old.copies;
      };
  validity = same.validity;
  minor = same.minor;
  agreed = same.agreed;
  aborted = same.aborted;
}

-- a mark changes no number and nothing that is kept
pub find_marked : (call u : ℕ) (es : List (ℕ × QueuedRequest Purpose)) (m : Mark)
    → option_map (λ (e : ℕ × QueuedRequest Purpose). e.0)
    (find (λ (e : ℕ × QueuedRequest Purpose). is_for call e.1.kept) (set_mark u es m))
    ≡ option_map (λ (e : ℕ × QueuedRequest Purpose). e.0)
    (find (λ (e : ℕ × QueuedRequest Purpose). is_for call e.1.kept) es)
find_marked call u [] m = refl
find_marked call u (e ∷ es) m = by (nat_eq u e.0) (is_for call e.1.kept) refl (find_marked call u es m)
  where
    Key : Option (ℕ × QueuedRequest Purpose) → Option ℕ
    Key o = option_map (λ (d : ℕ × QueuedRequest Purpose). d.0) o

    Serves : ℕ × QueuedRequest Purpose → Bool
    Serves d = is_for call d.1.kept

    by : (b c : Bool) → is_for call e.1.kept ≡ c → Key (find Serves (set_mark u es m)) ≡ Key (find Serves es)
        → Key (find Serves (cond b ((e.0, record { mark = m; kept = e.1.kept }) ∷ es) (e ∷ set_mark u es m)))
        ≡ Key (cond (is_for call e.1.kept) (Some e) (find Serves es))
    by true true h rest = rw h refl
    by true false h rest = rw h refl
    by false true h rest = rw h refl
    by false false h rest = rw h rest

-- a mark that has no signal has none on any request, but what had one
module _ (s : QueueState Purpose) (u : ℕ) (old m : Mark)
    (marked : option_map (λ (r : QueuedRequest Purpose). r.mark) (request_under s u) ≡ Some old) where
  pub signal_before : (v : ℕ) (request : QueuedRequest Purpose) → request_under (with_mark s u m) v ≡ Some request
      → is_signalled request.mark ≡ true → (is_signalled m ≡ true → is_signalled old ≡ true)
      → (before : QueuedRequest Purpose) × (request_under s v ≡ Some before) × (is_signalled before.mark ≡ true)
  signal_before v request under bears kept = by (nat_eq v u) refl
    where
      here : (o : Option (QueuedRequest Purpose)) → o ≡ request_under s u
          → option_map (λ (r : QueuedRequest Purpose). r.mark) o ≡ Some old → is_signalled old ≡ true
          → (before : QueuedRequest Purpose) × (request_under s u ≡ Some before) × (is_signalled before.mark ≡ true)
      here None e is yes_old = absurd (cc)
      here (Some r) e is yes_old = (r, sym e, subst (λ (x : Mark). is_signalled x ≡ true) (cc) yes_old)

      by : (b : Bool) → nat_eq v u ≡ b → (before : QueuedRequest Purpose) × (request_under s v ≡ Some before)
          × (is_signalled before.mark ≡ true)
      by true e =
          let is : v ≡ u = grind (arith, nat_tests, e) in
          let new : option_map (λ (r : QueuedRequest Purpose). r.mark) (request_under (with_mark s u m) u) ≡ Some m =
          lookup-set_mark_same u s.requests m old marked in
          let mine : request_under (with_mark s u m) u ≡ Some request =
          subst (λ (n : ℕ). request_under (with_mark s u m) n ≡ Some request) is under in
          let mark_is : request.mark ≡ m = cc (
            new,
            ap (λ (o : Option (QueuedRequest Purpose)). option_map
                (λ (r : QueuedRequest Purpose). r.mark) o) mine,
          ) in
          subst (λ (n : ℕ). (before : QueuedRequest Purpose) × (request_under s n ≡ Some before)
          × (is_signalled before.mark ≡ true)) (sym is)
          (here (request_under s u) refl marked (kept (subst (λ (x : Mark). is_signalled x ≡ true) mark_is bears)))
      by false e = (request, sym (request_under-mark_other s v u m e) ∙ under, bears)
