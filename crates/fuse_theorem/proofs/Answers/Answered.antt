-- A reply ends a request that serves no call, INIT or a RELEASE: that is no step of the plain world. Nor is a reply
-- that nothing awaits, or one to an INTERRUPT.
use Rattle.fuse_spec.specs.Values.Numbers.{init_flags}
use Rattle.fuse_spec.specs.Kernel.Replies.{made_ready, minor_agreed, files_agreed}
use Rattle.fuse_spec.specs.Server.Performs.{init_reply}
use Rattle.fuse_spec.specs.Calls.Calls.{lists_files_at}
use Rattle.fuse_spec.specs.declared.Minor.TheVariants.{M15, M31}
use Rattle.fuse_spec.specs.declared.Minor.{Minor}
use Rattle.std.proofs.Common.{◌≡◌, ℕ, Bool, true, false, true≢false, cond, Option, Some, None, option_map, get_or, is_some, refl, ap, sym, subst, ◌∙◌, inl, inr, All}
use Rattle.std.specs.Prelude.{MatchOption}
use Rattle.std.specs.Option.{option_map_or}
use Rattle.std.proofs.lemmas.Bool.{cases_eq}
use Rattle.fuse_spec.specs.declared.Phase.{Phase}
use Rattle.fuse_spec.specs.declared.Phase.TheVariants.{Down, Starting, Ready, Aborted}
use Rattle.fuse_spec.specs.declared.Opened.{Opened}
use Rattle.fuse_spec.specs.declared.Purpose.{Purpose}
use Rattle.fuse_spec.specs.declared.Purpose.TheVariants as purpose
use Rattle.fuse_spec.specs.declared.QueuedRequest.{QueuedRequest}
use Rattle.fuse_spec.specs.Values.Maps.{get}
use Rattle.fuse_spec.specs.Calls.Vfs.{Vfs}
use Rattle.fuse_spec.specs.Kernel.Queues.{QueueState, pending, request_under, is_unread, is_signalled}
use Rattle.fuse_spec.specs.Kernel.QueueCalls.{without, waiting}
use Rattle.fuse_spec.specs.Kernel.Messages.{RequestBody}
use Rattle.fuse_spec.specs.Kernel.Kernel.{Kernel, is_live, is_aborted, asked_by, body_of, is_for}
use Rattle.fuse_spec.specs.World.Worlds.{World}
use Rattle.fuse_spec.specs.Reference.Plain.{Plain, Ask}
use Rattle.fuse_spec.specs.Claim.Denotes.{NodeDenotesIn, OpenDenotesIn}
use Rattle.fuse_spec.specs.Claim.Alike.{RequestBodyAsked, PurposeAsked, Alike}
use Rattle.fuse_spec.proofs.QueueReadings.{pending-answer, request_under-without, request_under-without_other, key_count-le-one}
use Rattle.fuse_theorem.specs.Numbering.{IsNumbered}
use Rattle.fuse_theorem.proofs.Calls.Finding.{other_is, found_entry, find_beside}
use Rattle.fuse_theorem.proofs.Refining.Queuing.{QueuesKept}

-- what a request asks is a matter of the calls alone
pub same_asked : (k l : Kernel) → k.vfs ≡ l.vfs → (purpose : Purpose) → body_of k purpose ≡ body_of l purpose
same_asked k l e purpose.Init = refl
same_asked k l e (purpose.Release o) = refl
same_asked k l e (purpose.Call c) = ap (λ (v : Vfs Opened). asked_by (get v.calls c)) e

-- a request that waits for its reply
pub record Waits (q : QueueState Purpose) (unique : ℕ) (purpose : Purpose) : Type 0 where
  pub request : QueuedRequest Purpose
  pub under : request_under q unique ≡ Some request
  pub serves : request.kept ≡ purpose

pub waiting_is : (q : QueueState Purpose) (unique : ℕ) (purpose : Purpose) → waiting q unique ≡ Some purpose
    → Waits q unique purpose
waiting_is q unique purpose e = by (request_under q unique) refl e
  where
    read : (r : QueuedRequest Purpose) (b : Bool) → cond b None (Some r.kept) ≡ Some purpose → r.kept ≡ purpose
    read r true f = absurd (cc)
    read r false f = cc

    by : (o : Option (QueuedRequest Purpose)) → request_under q unique ≡ o
        → option_map_or (λ r. cond (is_unread r.mark) None (Some r.kept)) o None ≡ Some purpose → Waits q unique purpose
    by None under f = absurd (cc)
    by (Some r) under f = record { request = r; under = under; serves = read r (is_unread r.mark) f }

-- A request that waits ends.
module _ (w : World) (p : Plain) (numbered : IsNumbered w) (same : Alike w p) (live : is_live w.kernel.phase ≡ true)
    (unique : ℕ) (purpose : Purpose) (waits : waiting w.kernel.queues unique ≡ Some purpose) where
  abbrev q0 : QueueState Purpose
  q0 = w.kernel.queues

  abbrev q1 : QueueState Purpose
  q1 = without q0 unique

  pub is_waiting : Waits q0 unique purpose
  is_waiting = waiting_is q0 unique purpose waits

  pub same_pending : pending q1 ≡ pending q0
  same_pending = subst (λ (o : Option Purpose). pending (cond (is_some o) q1 q0) ≡ pending q0) waits
      (pending-answer q0 unique purpose waits)

  -- where the request serves no call, no ask stands under its number
  pub unasked : ((call : ℕ) → is_for call purpose ≡ false) → get p.asks unique ≡ None
  unasked no_call = by (get p.asks unique) refl
    where
      by : (o : Option Ask) → get p.asks unique ≡ o → o ≡ None
      by None e = refl
      by (Some ask) e =
          let found = found_entry (λ (x : ℕ × QueuedRequest Purpose). is_for ask.call x.1.kept) q0.requests unique
          (key_count-le-one q0 unique numbered.queues) ((same.asks live).no_other unique ask e) in
          let is_r : found.0 ≡ is_waiting.request = cc (found.1, is_waiting.under) in
          absurd (true≢false (sym found.2 ∙ ap (λ (r : QueuedRequest Purpose). is_for ask.call r.kept) is_r ∙ ap
          (λ (x : Purpose). is_for ask.call x) is_waiting.serves ∙ no_call ask.call))

  -- .. and all stays alike as it ends
  pub ended_stay : ((call : ℕ) → is_for call purpose ≡ false) → QueuesKept w p q1
  ended_stay no_call = record {
    pending = subst (All (PurposeAsked w p)) (sym same_pending) same.requests.pending;
    same_request = λ call.
        ap (λ (o : Option (ℕ × QueuedRequest Purpose)). option_map (λ (x : ℕ × QueuedRequest Purpose). x.0) o)
        (find_beside (λ (x : ℕ × QueuedRequest Purpose). is_for call x.1.kept) unique is_waiting.request q0.requests is_waiting.under (ap (λ (x : Purpose). is_for call x) is_waiting.serves ∙ no_call call));
    signalled = λ alive u request ask under at bears. elim (cases_eq u unique) [
      | inl e ↦ absurd (cc (
        subst (λ (n : ℕ). request_under q1 n ≡ Some request) e under,
        request_under-without q0 unique numbered.queues,
      ))
      | inr ne ↦ (same.asks alive).signalled u request ask
          (sym (request_under-without_other q0 u unique (other_is u unique ne)) ∙ under) at bears
    ];
  }

-- What the reply to INIT agrees on is the minor that the server speaks.
pub init_agrees : (m : Minor) → (minor_agreed (init_reply m init_flags) ≡ m)
    × (files_agreed (init_reply m init_flags) ≡ lists_files_at m)
init_agrees M15 = (refl, refl)
init_agrees M31 = (refl, refl)

-- A live mount is ready once the server's reply to INIT is there.
module _ (w : World) (live : is_live w.kernel.phase ≡ true) where
  abbrev pub ready : World
  ready = record w { kernel = made_ready w.kernel (init_reply w.server.minor init_flags) }

  abbrev ready_kernel : Kernel
  ready_kernel = made_ready w.kernel (init_reply w.server.minor init_flags)

  not_aborted_live : (phase : Phase) → is_live phase ≡ true → is_aborted phase ≡ false
  not_aborted_live Down e = absurd (cc)
  not_aborted_live Starting e = refl
  not_aborted_live Ready e = refl
  not_aborted_live Aborted e = absurd (cc)

  pub ready_alike : (p : Plain) → Alike w p → Alike ready p
  ready_alike p same = record {
    tree = same.tree;
    vfs = same.vfs;
    requests = record {
      pending = λ i e lt.
          let entry = get_or (pending w.kernel.queues) i e in
          subst (λ (o : Option RequestBody). MatchOption o ⊥
          (RequestBodyAsked p.asks entry.0 (is_signalled entry.1.mark) false (NodeDenotesIn w) (OpenDenotesIn w)))
          (sym (same_asked ready_kernel w.kernel refl entry.1.kept)) (same.requests.pending i e lt);
      sent = same.requests.sent;
      held = same.requests.held;
    };
    asks = λ _.
        let old = same.asks live in
        record {
          of_calls = λ q state is.
              let pair = old.of_calls q state is in
              record {
                unique = pair.unique;
                ask = pair.ask;
                request = pair.request;
                there = pair.there;
                by = pair.by;
                same = pair.same;
              };
          no_other = old.no_other;
          signalled = old.signalled;
          kept = old.kept;
          copies = old.copies;
        };
    validity = same.validity;
    minor = same.minor;
    agreed = λ _. let says = init_agrees w.server.minor in (says.0 ∙ same.minor, says.1 ∙ ap lists_files_at same.minor);
    aborted = sym (not_aborted_live w.kernel.phase live) ∙ same.aborted;
  }
