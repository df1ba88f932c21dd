-- Reads of pending requests, INTERRUPTs and forgets are no steps of the plain world.
use Rattle.std.proofs.Common.{◌≡◌, ℕ, ◌+◌, Bool, true, false, cond, List, [], ◌∷◌, ◌++◌, Option, Some, None, option_map, slice_get, drop, find, nat_eq, refl, ap, sym, subst, All}
use Rattle.std.specs.Prelude.{MatchOption}
use Rattle.std.specs.Option.{option_map_or}
use Rattle.std.specs.Map.{lookup}
use Rattle.std.proofs.lemmas.List.Elements.{All-push}
use Rattle.fuse_spec.specs.declared.Mark.{Mark}
use Rattle.fuse_spec.specs.declared.Mark.TheVariants.{Unread, Flagged, Read, Interrupted}
use Rattle.fuse_spec.specs.declared.Purpose.{Purpose}
use Rattle.fuse_spec.specs.declared.QueuedRequest.{QueuedRequest}
use Rattle.fuse_spec.specs.Values.Maps.{get}
use Rattle.fuse_spec.specs.Kernel.Queues.{QueueState, pending, is_signalled, is_unread, IsSound}
use Rattle.fuse_spec.specs.Kernel.QueueCalls.{with_mark, after_reading, after_read_pending, after_read_interrupt, after_read_forgets}
use Rattle.fuse_spec.specs.Kernel.QueueCalls as queues
use Rattle.fuse_spec.specs.Kernel.Uniques.{interrupt_number}
use Rattle.fuse_spec.specs.Kernel.Messages.{Forget, RequestBody, Request, interrupt}
use Rattle.fuse_spec.specs.Kernel.Kernel.{body_of, is_for}
use Rattle.fuse_spec.specs.World.Worlds.{World, forget_body, world_after_read_pending as world_read, world_after_read_interrupt as world_read_interrupt, world_after_read_forgets as world_read_forgets}
use Rattle.fuse_spec.specs.Reference.Plain.{Plain}
use Rattle.fuse_spec.specs.Claim.Denotes.{NodeDenotesIn, OpenDenotesIn}
use Rattle.fuse_spec.specs.Claim.Alike.{RequestBodyAsked, PurposeAsked, Alike}
use Rattle.fuse_spec.proofs.QueueReadings.{pending-mark}
use Rattle.fuse_spec.proofs.QueueSoundness.{mark_under-pending}
use Rattle.fuse_theorem.proofs.Refining.Queuing.{All-without, All-at, asked_unsignalled, QueuesKept, queues_alike, find_marked, signal_before}

-- queues that differ in forgets, INTERRUPTs and the coming number keep all alike
pub same_requests : (w : World) (p : Plain) → Alike w p → (q : QueueState Purpose)
    → q.requests ≡ w.kernel.queues.requests → QueuesKept w p q
same_requests w p same q e = record {
  pending = subst (λ (es : List (ℕ × QueuedRequest Purpose)). All (PurposeAsked w p)
      (pending (record w.kernel.queues { requests = es }))) (sym e) same.requests.pending;
  same_request = λ call. ap (λ (es : List (ℕ × QueuedRequest Purpose)). option_map
      (λ (x : ℕ × QueuedRequest Purpose). x.0) (find (λ (x : ℕ × QueuedRequest Purpose). is_for call x.1.kept) es)) e;
  signalled = λ live u request ask under at bears.
      (same.asks live).signalled u request ask (subst (λ (es : List (ℕ × QueuedRequest Purpose)). lookup (nat_eq u) es
      ≡ Some request) e under) at bears;
}

module _ (w : World) (p : Plain) (same : Alike w p) (sound : IsSound w.kernel.queues) where
  marked_stay : (place : ℕ) (e : ℕ × QueuedRequest Purpose) (m : Mark)
      → slice_get (pending w.kernel.queues) place ≡ Some e → is_unread m ≡ false
      → (is_signalled m ≡ true → is_signalled e.1.mark ≡ true)
      → QueuesKept w p (with_mark w.kernel.queues e.0 m)
  marked_stay place e m found read kept = record {
    pending = subst (All (PurposeAsked w p)) (sym (pending-mark w.kernel.queues place e m sound found read))
        (All-without (PurposeAsked w p) (pending w.kernel.queues) place same.requests.pending);
    same_request = λ call. find_marked call e.0 w.kernel.queues.requests m;
    signalled = λ live u request ask under at bears.
        let before = signal_before w.kernel.queues e.0 e.1.mark m
        (mark_under-pending w.kernel.queues place e sound found) u request under bears kept in
        (same.asks live).signalled u before.0 ask before.1 at before.2;
  }

  reading_stay : (place : ℕ) (e : ℕ × QueuedRequest Purpose) (m : Mark) → e.1.mark ≡ m
      → slice_get (pending w.kernel.queues) place ≡ Some e → QueuesKept w p (after_reading w.kernel.queues e.0 m)
  reading_stay place e Unread is found = marked_stay place e Read found refl (λ z. absurd (cc))
  reading_stay place e Flagged is found =
      let stay = marked_stay place e Interrupted found refl (λ z. ap is_signalled is) in
      record { pending = stay.pending; same_request = stay.same_request; signalled = stay.signalled }
  reading_stay place e Read is found = same_requests w p same w.kernel.queues refl
  reading_stay place e Interrupted is found = same_requests w p same w.kernel.queues refl

  -- A pending request goes onto the link as it is read.
  pub read_pending_alike : (place : ℕ) (e : ℕ × QueuedRequest Purpose) (body : RequestBody)
      → slice_get (pending w.kernel.queues) place ≡ Some e → body_of w.kernel e.1.kept ≡ Some body
      → Alike (world_read w place e.0 body) p
  read_pending_alike place e body found asks =
      let reading : QueuesKept w p (after_read_pending w.kernel.queues place) =
      subst (λ (o : Option (ℕ × QueuedRequest Purpose)). QueuesKept w p
      (option_map_or (λ (x : ℕ
      × QueuedRequest Purpose). after_reading w.kernel.queues x.0 x.1.mark) o w.kernel.queues)) (sym found)
      (reading_stay place e e.1.mark refl found) in
      let asked : PurposeAsked w p e = All-at (PurposeAsked w p)
      (pending w.kernel.queues) place e same.requests.pending found in
      let asked_body : RequestBodyAsked p.asks e.0 (is_signalled e.1.mark) false (NodeDenotesIn w) (OpenDenotesIn w) body =
      subst (λ (o : Option RequestBody). MatchOption o ⊥
      (RequestBodyAsked p.asks e.0 (is_signalled e.1.mark) false (NodeDenotesIn w) (OpenDenotesIn w))) asks asked in
      queues_alike w p same (after_read_pending w.kernel.queues place)
      (w.requests ++ record { unique = e.0; body = body } ∷ []) reading
      (All-push (λ (r : Request). RequestBodyAsked p.asks r.unique false false (NodeDenotesIn w)
      (OpenDenotesIn w) r.body) w.requests (record { unique = e.0; body = body }) same.requests.sent
      (asked_unsignalled (NodeDenotesIn w) (OpenDenotesIn w) p.asks e.0 (is_signalled e.1.mark) body asked_body))

  -- The first INTERRUPT goes onto the link. No ask stands under its number, which is odd.
  pub read_interrupt_alike : (original : ℕ) → get p.asks (interrupt_number original) ≡ None
      → Alike (world_read_interrupt w original) p
  read_interrupt_alike original unasked =
      queues_alike w p same (after_read_interrupt w.kernel.queues)
      (w.requests ++ record { unique = interrupt_number original; body = interrupt original } ∷ [])
      (same_requests w p same (after_read_interrupt w.kernel.queues) refl)
      (All-push (λ (r : Request). RequestBodyAsked p.asks r.unique false false (NodeDenotesIn w)
      (OpenDenotesIn w) r.body) w.requests (record {
        unique = interrupt_number original;
        body = interrupt original;
      }) same.requests.sent unasked)

  forgets_unasked : (unique : ℕ) (fs : List Forget) → get p.asks unique ≡ None
      → RequestBodyAsked p.asks unique false false (NodeDenotesIn w) (OpenDenotesIn w) (forget_body fs)
  forgets_unasked unique [] none = none
  forgets_unasked unique (f ∷ []) none = none
  forgets_unasked unique (f ∷ g ∷ fs) none = none

  forgets_stay : (n : ℕ) → QueuesKept w p (after_read_forgets w.kernel.queues n)
  forgets_stay n = by (queues.can_read_forgets w.kernel.queues n)
    where
      by : (b : Bool) → QueuesKept w p (cond b (record w.kernel.queues {
        forgets = drop n w.kernel.queues.forgets;
        next = w.kernel.queues.next + 2;
      }) w.kernel.queues)
      by true = same_requests w p same (record w.kernel.queues {
        forgets = drop n w.kernel.queues.forgets;
        next = w.kernel.queues.next + 2;
      }) refl
      by false = same_requests w p same w.kernel.queues refl

  -- Forgets go onto the link under the coming number, under which nothing is asked.
  pub read_forgets_alike : (n : ℕ) (fs : List Forget) → get p.asks w.kernel.queues.next ≡ None
      → Alike (world_read_forgets w n fs) p
  read_forgets_alike n fs unasked =
      queues_alike w p same (after_read_forgets w.kernel.queues n)
      (w.requests ++ record { unique = w.kernel.queues.next; body = forget_body fs } ∷ []) (forgets_stay n)
      (All-push (λ (r : Request). RequestBodyAsked p.asks r.unique false false (NodeDenotesIn w)
      (OpenDenotesIn w) r.body) w.requests (record {
        unique = w.kernel.queues.next;
        body = forget_body fs;
      }) same.requests.sent (forgets_unasked w.kernel.queues.next fs unasked))
