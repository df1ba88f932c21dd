-- How each call changes the requests by number, and the pending ones and those in processing as lists.
use Rattle.std.proofs.Common.{◌≡◌, ℕ, ◌+◌, ◌≤◌, Bool, true, false, not, cond, ◌&&◌, zero, suc, List, [], ◌∷◌, ◌++◌, filter, remove, Option, Some, None, is_some, option_map, ap, sym, ◌≢◌, slice_get, nat_eq, refl, ◌∙◌, append-nil, arith}
use Rattle.std.proofs.lemmas.Bool.Decides.{nat_tests}
use Rattle.std.specs.List.{list_any}
use Rattle.std.specs.Map.{lookup, remove_entry}
use Rattle.std.specs.Option.{option_map_or}
use Rattle.fuse_spec.specs.declared.Mark.{Mark}
use Rattle.fuse_spec.specs.declared.Mark.TheVariants.{Unread, Flagged, Read, Interrupted}
use Rattle.fuse_spec.specs.declared.IntrEffect.TheVariants.{Dequeued, None as NoEffect}
use Rattle.fuse_spec.specs.declared.InterruptReply.TheVariants.{Again, NotSupported, Other}
use Rattle.fuse_spec.specs.Kernel.Signals.{signal_effect, reply_effect}
use Rattle.fuse_spec.specs.declared.QueuedRequest.{QueuedRequest}
use Rattle.fuse_spec.specs.Kernel.QueueLaws.{AddsOne, mark_read, kept_entries}
use Rattle.fuse_spec.specs.Kernel.Queues.{QueueState, request_under, pending, processing, is_unread, IsSound, was_allocated, is_interrupted, mark_under, has_interrupt}
use Rattle.fuse_spec.specs.Kernel.QueueCalls.{after_enqueue, set_mark, with_mark, after_read_pending, without, waiting, after_answer, interrupt_effect, after_interrupt, after_effect, after_interrupt_reply, after_reply_effect, after_no_interrupts, with_interrupt}
use Rattle.fuse_spec.proofs.QueueCounts.{key_count, key_count-found, lookup-found, count_by-cons, lookup-no_key, lookup-remove_entry_other, lookup-set_mark_other}
use Rattle.fuse_spec.proofs.QueueSoundness.{lookup-next}

module _ {X : Type 0} where
  filter-push : (p : X → Bool) (xs : List X) (x : X) → filter p (xs ++ x ∷ []) ≡ filter p xs ++ cond (p x) (x ∷ []) []
  filter-push p [] x = grind arith
  filter-push p (y ∷ xs) x = grind (arith, filter-push p xs x)

  lookup-push_new : (u : ℕ) (es : List (ℕ × X)) (x : X) → lookup (nat_eq u) es ≡ None
      → lookup (nat_eq u) (es ++ (u, x) ∷ []) ≡ Some x
  lookup-push_new u [] x none = grind (arith, nat_tests)
  lookup-push_new u (e ∷ es) x none = grind (arith, none, lookup-push_new u es x)

  lookup-push_other : (v : ℕ) (es : List (ℕ × X)) (e : ℕ × X) → nat_eq v e.0 ≡ false
      → lookup (nat_eq v) (es ++ e ∷ []) ≡ lookup (nat_eq v) es
  lookup-push_other v [] e apart = grind (arith, apart)
  lookup-push_other v (y ∷ es) e apart = grind (arith, apart, lookup-push_other v es e)

  lookup-removed : (u : ℕ) (es : List (ℕ × X)) → key_count u es ≤ 1
      → lookup (nat_eq u) (remove_entry (nat_eq u) es) ≡ None
  lookup-removed u [] once = refl
  lookup-removed u (e ∷ es) once = by (nat_eq u e.0) refl (λ few. lookup-removed u es few)
    where
      counted : key_count u (e ∷ es) ≡ cond (nat_eq u e.0) 1 0 + key_count u es
      counted = count_by-cons (λ (d : ℕ × X). nat_eq u d.0) e es

      by : (b : Bool) → nat_eq u e.0 ≡ b → (key_count u es ≤ 1 → lookup (nat_eq u) (remove_entry (nat_eq u) es) ≡ None)
          → lookup (nat_eq u) (remove_entry (nat_eq u) (e ∷ es)) ≡ None
      by true h rest =
          let none : key_count u es ≡ 0 = grind (arith, counted, once, h) in
          rw h (lookup-no_key u es none)
      by false h rest =
          let few : key_count u es ≤ 1 = grind (arith, counted, once, h) in
          rw (h, h) (rest few)

  -- without the first entry under a number, where the test holds of it
  filter-remove_entry_in : (q : X → Bool) (u : ℕ) (es : List (ℕ × X))
      → option_map_or q (lookup (nat_eq u) es) false ≡ true
      → filter (λ e. q e.1) (remove_entry (nat_eq u) es) ≡ remove_entry (nat_eq u) (filter (λ e. q e.1) es)
  filter-remove_entry_in q u [] holds = refl
  filter-remove_entry_in q u (e ∷ es) holds = grind (arith, holds, filter-remove_entry_in q u es)

  -- .. and where it does not hold
  filter-remove_entry_out : (q : X → Bool) (u : ℕ) (es : List (ℕ × X))
      → option_map_or q (lookup (nat_eq u) es) false ≡ false
      → filter (λ e. q e.1) (remove_entry (nat_eq u) es) ≡ filter (λ e. q e.1) es
  filter-remove_entry_out q u [] holds = refl
  filter-remove_entry_out q u (e ∷ es) holds = grind (arith, holds, filter-remove_entry_out q u es)

  -- what is found among those that pass a test passes it
  filter-found : (p : X → Bool) (xs : List X) (k : ℕ) (x : X) → slice_get (filter p xs) k ≡ Some x → p x ≡ true
  filter-found p [] k x found = cc
  filter-found p (y ∷ ys) k x found = by (p y) refl (λ j f. filter-found p ys j x f)
    where
      at : (j : ℕ) → p y ≡ true → slice_get (y ∷ filter p ys) j ≡ Some x
          → ((i : ℕ) → slice_get (filter p ys) i ≡ Some x → p x ≡ true) → p x ≡ true
      at zero h f rest =
          let same : y ≡ x = cc in
          rw (← same) h
      at (suc j) h f rest = rest j f

      by : (b : Bool) → p y ≡ b → ((i : ℕ) → slice_get (filter p ys) i ≡ Some x → p x ≡ true) → p x ≡ true
      by true h rest = at k h (rw h at found) rest
      by false h rest = rest k (rw h at found)

module _ {W : Type 0} where
  -- no number has two requests
  pub key_count-le-one : (s : QueueState W) (u : ℕ) → IsSound s → key_count u s.requests ≤ 1
  key_count-le-one s u sound = by (was_allocated s.next u) (sound.requests u)
    where
      by : {n : ℕ} (b : Bool) → n ≤ cond b 1 0 → n ≤ 1
      by true le = le
      by false le = omega arith

  -- queuing a request

  pub request_under-enqueue : (s : QueueState W) (w : W) → IsSound s
      → request_under (after_enqueue s w) s.next ≡ Some (record { mark = Unread; kept = w })
  request_under-enqueue s w sound = lookup-push_new s.next s.requests (record { mark = Unread; kept = w })
      (lookup-next s sound)

  pub request_under-enqueue_other : (s : QueueState W) (w : W) (v : ℕ) → nat_eq v s.next ≡ false
      → request_under (after_enqueue s w) v ≡ request_under s v
  request_under-enqueue_other s w v apart = lookup-push_other v s.requests
      (s.next, record { mark = Unread; kept = w }) apart

  pub pending-enqueue : (s : QueueState W) (w : W)
      → pending (after_enqueue s w) ≡ pending s ++ (s.next, record { mark = Unread; kept = w }) ∷ []
  pending-enqueue s w = filter-push (λ e. is_unread e.1.mark) s.requests (s.next, record { mark = Unread; kept = w })

  pub processing-enqueue : (s : QueueState W) (w : W) → processing (after_enqueue s w) ≡ processing s
  processing-enqueue s w = filter-push (λ e. not (is_unread e.1.mark)) s.requests
      (s.next, record { mark = Unread; kept = w }) ∙ append-nil (processing s)

  -- marking a request, as reading it does

  -- what the kernel keeps of each request stays
  kept-set_mark : (v u : ℕ) (es : List (ℕ × QueuedRequest W)) (m : Mark)
      → option_map (λ r. r.kept) (lookup (nat_eq v) (set_mark u es m)) ≡ option_map (λ r. r.kept) (lookup (nat_eq v) es)
  kept-set_mark v u [] m = refl
  kept-set_mark v u (e ∷ es) m = grind (arith, kept-set_mark v u es m)

  pub kept_under-mark : (s : QueueState W) (v u : ℕ) (m : Mark)
      → option_map (λ r. r.kept) (request_under (with_mark s u m) v) ≡ option_map (λ r. r.kept) (request_under s v)
  kept_under-mark s v u m = kept-set_mark v u s.requests m

  pub request_under-mark_other : (s : QueueState W) (v u : ℕ) (m : Mark) → nat_eq v u ≡ false
      → request_under (with_mark s u m) v ≡ request_under s v
  request_under-mark_other s v u m apart = lookup-set_mark_other v u s.requests m apart

  -- marking one that is found at a place among the unread takes it out of them
  filter-set_mark : (es : List (ℕ × QueuedRequest W)) (k : ℕ) (e : ℕ × QueuedRequest W) (m : Mark)
      → slice_get (filter (λ d. is_unread d.1.mark) es) k ≡ Some e → key_count e.0 es ≤ 1 → is_unread m ≡ false
      → filter (λ d. is_unread d.1.mark) (set_mark e.0 es m) ≡ remove (filter (λ d. is_unread d.1.mark) es) k
  filter-set_mark [] k e m found once read = cc
  filter-set_mark (x ∷ es) k e m found once read =
      by (is_unread x.1.mark) refl (λ j f few. filter-set_mark es j e m f few read)
    where
      counted : key_count e.0 (x ∷ es) ≡ cond (nat_eq e.0 x.0) 1 0 + key_count e.0 es
      counted = count_by-cons (λ (d : ℕ × QueuedRequest W). nat_eq e.0 d.0) x es

      apart : (j : ℕ) → slice_get (filter (λ d. is_unread d.1.mark) es) j ≡ Some e → nat_eq e.0 x.0 ≡ false
      apart j f =
          let there = key_count-found (λ d. is_unread d.1.mark) es j e f in
          grind (arith, counted, once, there)

      few : (j : ℕ) → slice_get (filter (λ d. is_unread d.1.mark) es) j ≡ Some e → key_count e.0 es ≤ 1
      few j f = grind (arith, counted, once, apart j f)

      at : (j : ℕ) → is_unread x.1.mark ≡ true → slice_get (x ∷ filter (λ d. is_unread d.1.mark) es) j ≡ Some e
          → ((i : ℕ) → slice_get (filter (λ d. is_unread d.1.mark) es) i ≡ Some e → key_count e.0 es ≤ 1
          → filter (λ d. is_unread d.1.mark) (set_mark e.0 es m) ≡ remove (filter (λ d. is_unread d.1.mark) es) i)
          → filter (λ d. is_unread d.1.mark) (set_mark e.0 (x ∷ es) m)
          ≡ remove (x ∷ filter (λ d. is_unread d.1.mark) es) j
      at zero h f rest =
          let same : x ≡ e = cc in
          let here : nat_eq e.0 x.0 ≡ true = grind (arith, nat_tests, same) in
          rw (here, read) refl
      at (suc j) h f rest = rw (apart j f, h, rest j f (few j f)) refl

      by : (b : Bool) → is_unread x.1.mark ≡ b → ((i : ℕ) → slice_get (filter (λ d. is_unread d.1.mark) es) i ≡ Some e
          → key_count e.0 es ≤ 1 → filter (λ d. is_unread d.1.mark) (set_mark e.0 es m)
          ≡ remove (filter (λ d. is_unread d.1.mark) es) i)
          → filter (λ d. is_unread d.1.mark) (set_mark e.0 (x ∷ es) m)
          ≡ remove (filter (λ d. is_unread d.1.mark) (x ∷ es)) k
      by true h rest = rw h (at k h (rw h at found) rest)
      by false h rest =
          let f : slice_get (filter (λ d. is_unread d.1.mark) es) k ≡ Some e = rw h at found in
          rw (apart k f, h) (rest k f (few k f))

  -- a pending request that is marked as read leaves the pending list, and the others keep their order
  pub pending-mark : (s : QueueState W) (place : ℕ) (e : ℕ × QueuedRequest W) (m : Mark) → IsSound s
      → slice_get (pending s) place ≡ Some e → is_unread m ≡ false
      → pending (with_mark s e.0 m) ≡ remove (pending s) place
  pending-mark s place e m sound found read = filter-set_mark s.requests place e m found
      (key_count-le-one s e.0 sound) read

  -- ending a request

  pub request_under-without : (s : QueueState W) (u : ℕ) → IsSound s → request_under (without s u) u ≡ None
  request_under-without s u sound = lookup-removed u s.requests (key_count-le-one s u sound)

  pub request_under-without_other : (s : QueueState W) (v u : ℕ) → nat_eq v u ≡ false
      → request_under (without s u) v ≡ request_under s v
  request_under-without_other s v u apart = lookup-remove_entry_other v u s.requests apart

  -- the pending requests and those in processing, as lists

  -- a request that is marked as read stands among those in processing, at its place in order of queuing
  processing-set_mark : (u : ℕ) (es : List (ℕ × QueuedRequest W)) (r : QueuedRequest W) (m : Mark)
      → lookup (nat_eq u) es ≡ Some r → is_unread r.mark ≡ true → is_unread m ≡ false
      → AddsOne (u, record { mark = m; kept = r.kept }) (filter (λ d. not (is_unread d.1.mark)) es)
      (filter (λ d. not (is_unread d.1.mark)) (set_mark u es m))
  processing-set_mark u [] r m found unread read = cc
  processing-set_mark u (e ∷ es) r m found unread read =
      by (nat_eq u e.0) refl (λ f. processing-set_mark u es r m f unread read)
    where
      new : ℕ × QueuedRequest W
      new = (u, record { mark = m; kept = r.kept })

      Adds : (xs ys : List (ℕ × QueuedRequest W)) → Type 0
      Adds xs ys = AddsOne new (filter (λ d. not (is_unread d.1.mark)) xs) (filter (λ d. not (is_unread d.1.mark)) ys)

      later : (b : Bool) → is_unread e.1.mark ≡ b → nat_eq u e.0 ≡ false → Adds es (set_mark u es m)
          → Adds (e ∷ es) (set_mark u (e ∷ es) m)
      later true x h adds = rw (h, x) adds
      later false x h adds = record {
        before = e ∷ adds.before;
        after = adds.after;
        was = rw x (ap (λ (l : List (ℕ × QueuedRequest W)). e ∷ l) adds.was);
        is = rw (h, x) (ap (λ (l : List (ℕ × QueuedRequest W)). e ∷ l) adds.is);
      }

      by : (b : Bool) → nat_eq u e.0 ≡ b → (lookup (nat_eq u) es ≡ Some r → Adds es (set_mark u es m))
          → Adds (e ∷ es) (set_mark u (e ∷ es) m)
      by true h rest =
          let found_here : Some e.1 ≡ Some r = rw h at found in
          let same : e.1 ≡ r = cc in
          let key : e.0 ≡ u = grind (arith, nat_tests, h) in
          let unread_here : is_unread e.1.mark ≡ true = rw same unread in
          record {
            before = [];
            after = filter (λ d. not (is_unread d.1.mark)) es;
            was = rw unread_here refl;
            is = rw (h, read, key, same) refl;
          }
      by false h rest = later (is_unread e.1.mark) refl h (rest (rw h at found))

  -- the request at a place among the pending ones is found by its number
  request_under-pending : (s : QueueState W) (place : ℕ) (e : ℕ × QueuedRequest W) → IsSound s
      → slice_get (pending s) place ≡ Some e → request_under s e.0 ≡ Some e.1
  request_under-pending s place e sound found = lookup-found (λ d. is_unread d.1.mark) s.requests place e found
      (key_count-le-one s e.0 sound)

  pub processing-mark : (s : QueueState W) (place : ℕ) (e : ℕ × QueuedRequest W) (m : Mark) → IsSound s
      → slice_get (pending s) place ≡ Some e → is_unread m ≡ false
      → AddsOne (e.0, record { mark = m; kept = e.1.kept }) (processing s) (processing (with_mark s e.0 m))
  processing-mark s place e m sound found read = processing-set_mark e.0 s.requests e.1 m
      (request_under-pending s place e sound found) (filter-found
      (λ (d : ℕ × QueuedRequest W). is_unread d.1.mark) s.requests place e found) read

  -- reading a pending request takes it out of its place
  pub pending-read_pending : (s : QueueState W) (place : ℕ) (e : ℕ × QueuedRequest W) → IsSound s
      → slice_get (pending s) place ≡ Some e → pending (after_read_pending s place) ≡ remove (pending s) place
  pending-read_pending s place e sound found = by e.1.mark refl
      (filter-found (λ (d : ℕ × QueuedRequest W). is_unread d.1.mark) s.requests place e found)
    where
      by : (m : Mark) → e.1.mark ≡ m → is_unread e.1.mark ≡ true
          → pending (after_read_pending s place) ≡ remove (pending s) place
      by Unread is unread = rw (found, is) (pending-mark s place e Read sound found refl)
      by Flagged is unread = rw (found, is) (pending-mark s place e Interrupted sound found refl)
      by Read is unread = absurd (cc (rw is at unread))
      by Interrupted is unread = absurd (cc (rw is at unread))

  -- .. and puts it in processing
  pub processing-read_pending : (s : QueueState W) (place : ℕ) (e : ℕ × QueuedRequest W) → IsSound s
      → slice_get (pending s) place ≡ Some e → AddsOne (e.0, record { mark = mark_read e.1.mark; kept = e.1.kept })
      (processing s) (processing (after_read_pending s place))
  processing-read_pending s place e sound found = by e.1.mark refl
      (filter-found (λ (d : ℕ × QueuedRequest W). is_unread d.1.mark) s.requests place e found)
    where
      by : (m : Mark) → e.1.mark ≡ m → is_unread e.1.mark ≡ true
          → AddsOne (e.0, record { mark = mark_read e.1.mark; kept = e.1.kept }) (processing s)
          (processing (after_read_pending s place))
      by Unread is unread = rw (found, is) (processing-mark s place e Read sound found refl)
      by Flagged is unread = rw (found, is) (processing-mark s place e Interrupted sound found refl)
      by Read is unread = absurd (cc (rw is at unread))
      by Interrupted is unread = absurd (cc (rw is at unread))

  -- the two tests of a mark exclude each other
  unread_if_not_read : (o : Option (QueuedRequest W)) → option_map_or (λ r. not (is_unread r.mark)) o false ≡ true
      → option_map_or (λ r. is_unread r.mark) o false ≡ false
  unread_if_not_read None e = refl
  unread_if_not_read (Some r) e = by (is_unread r.mark) e
    where
      by : (b : Bool) → not b ≡ true → b ≡ false
      by true e = cc
      by false e = refl

  read_if_not_unread : (o : Option (QueuedRequest W)) → option_map_or (λ r. is_unread r.mark) o false ≡ true
      → option_map_or (λ r. not (is_unread r.mark)) o false ≡ false
  read_if_not_unread None e = refl
  read_if_not_unread (Some r) e = ap not e

  -- a request that is answered was read
  read_if_waiting : (s : QueueState W) (u : ℕ) (w : W) → waiting s u ≡ Some w
      → option_map_or (λ r. not (is_unread r.mark)) (request_under s u) false ≡ true
  read_if_waiting s u w waits = by (request_under s u) waits
    where
      read : (r : QueuedRequest W) (b : Bool) → is_unread r.mark ≡ b → cond b None (Some r.kept) ≡ Some w
          → not (is_unread r.mark) ≡ true
      read r true is e = cc
      read r false is e = rw is refl

      by : (o : Option (QueuedRequest W)) → option_map_or (λ r. cond (is_unread r.mark) None (Some r.kept)) o None
          ≡ Some w → option_map_or (λ r. not (is_unread r.mark)) o false ≡ true
      by None e = cc
      by (Some r) e = read r (is_unread r.mark) refl e

  after_answer-waiting : (s : QueueState W) (u : ℕ) (w : W) → waiting s u ≡ Some w → after_answer s u ≡ without s u
  after_answer-waiting s u w waits = ap (λ (o : Option W). cond (is_some o) (without s u) s) waits

  -- an answer leaves the pending requests as they are, and takes one out of processing
  pub pending-answer : (s : QueueState W) (u : ℕ) (w : W) → waiting s u ≡ Some w
      → pending (after_answer s u) ≡ pending s
  pending-answer s u w waits =
      ap pending (after_answer-waiting s u w waits)
      ∙ filter-remove_entry_out (λ (r : QueuedRequest W). is_unread r.mark) u s.requests
      (unread_if_not_read (request_under s u) (read_if_waiting s u w waits))

  pub processing-answer : (s : QueueState W) (u : ℕ) (w : W) → waiting s u ≡ Some w
      → processing (after_answer s u) ≡ remove_entry (nat_eq u) (processing s)
  processing-answer s u w waits =
      ap processing (after_answer-waiting s u w waits)
      ∙ filter-remove_entry_in (λ (r : QueuedRequest W). not (is_unread r.mark)) u s.requests
      (read_if_waiting s u w waits)

  -- a request that a signal dequeues was unread
  unread_if_dequeued : (s : QueueState W) (u : ℕ) (fatal : Bool) → interrupt_effect s u fatal ≡ Dequeued
      → option_map_or (λ r. is_unread r.mark) (request_under s u) false ≡ true
  unread_if_dequeued s u fatal dequeued = by (request_under s u) dequeued
    where
      unread : (m : Mark) (f off : Bool) → signal_effect m f off ≡ Dequeued → is_unread m ≡ true
      unread Unread f off e = refl
      unread Flagged f off e = refl
      unread Read f true e = cc
      unread Read f false e = cc
      unread Interrupted f off e = cc

      by : (o : Option (QueuedRequest W)) → option_map_or (λ r. signal_effect r.mark fatal s.interrupts_off) o NoEffect
          ≡ Dequeued → option_map_or (λ r. is_unread r.mark) o false ≡ true
      by None e = cc
      by (Some r) e = unread r.mark fatal s.interrupts_off e

  -- a signal that dequeues takes one out of the pending requests, and leaves those in processing as they are
  pub pending-dequeue : (s : QueueState W) (u : ℕ) (fatal : Bool) → interrupt_effect s u fatal ≡ Dequeued
      → pending (after_interrupt s u fatal) ≡ remove_entry (nat_eq u) (pending s)
  pending-dequeue s u fatal dequeued =
      ap (λ e. pending (after_effect s u e)) dequeued
      ∙ filter-remove_entry_in (λ (r : QueuedRequest W). is_unread r.mark) u s.requests
      (unread_if_dequeued s u fatal dequeued)

  pub processing-dequeue : (s : QueueState W) (u : ℕ) (fatal : Bool) → interrupt_effect s u fatal ≡ Dequeued
      → processing (after_interrupt s u fatal) ≡ processing s
  processing-dequeue s u fatal dequeued =
      ap (λ e. processing (after_effect s u e)) dequeued
      ∙ filter-remove_entry_out (λ (r : QueuedRequest W). not (is_unread r.mark)) u s.requests
      (read_if_not_unread (request_under s u) (unread_if_dequeued s u fatal dequeued))

  -- signals that dequeue nothing

  -- a mark that a test does not distinguish from the old one moves nothing
  kept_entries-set_mark : (q : Mark → Bool) (u : ℕ) (es : List (ℕ × QueuedRequest W)) (r : QueuedRequest W) (m : Mark)
      → lookup (nat_eq u) es ≡ Some r → q m ≡ q r.mark
      → kept_entries (filter (λ e. q e.1.mark) (set_mark u es m)) ≡ kept_entries (filter (λ e. q e.1.mark) es)
  kept_entries-set_mark q u [] r m found same = refl
  kept_entries-set_mark q u (e ∷ es) r m found same =
      by (nat_eq u e.0) refl (q e.1.mark) refl (λ f. kept_entries-set_mark q u es r m f same)
    where
      by : (b : Bool) → nat_eq u e.0 ≡ b → (c : Bool) → q e.1.mark ≡ c
          → (lookup (nat_eq u) es ≡ Some r → kept_entries (filter (λ e. q e.1.mark) (set_mark u es m))
          ≡ kept_entries (filter (λ e. q e.1.mark) es)) → kept_entries
          (filter (λ e. q e.1.mark) (set_mark u (e ∷ es) m)) ≡ kept_entries (filter (λ e. q e.1.mark) (e ∷ es))
      by true h true x rest =
          let found_here : Some e.1 ≡ Some r = rw h at found in
          let here : e.1 ≡ r = cc in
          let now : q m ≡ true = same ∙ ap (λ (y : QueuedRequest W). q y.mark) (sym here) ∙ x in
          rw (h, now, x) refl
      by true h false x rest =
          let found_here : Some e.1 ≡ Some r = rw h at found in
          let here : e.1 ≡ r = cc in
          let now : q m ≡ false = same ∙ ap (λ (y : QueuedRequest W). q y.mark) (sym here) ∙ x in
          rw (h, now, x) refl
      by false h true x rest = rw (h, x, rest (rw h at found)) refl
      by false h false x rest = rw (h, x) (rest (rw h at found))

  kept_entries-interrupt : (q : Mark → Bool) (s : QueueState W) (u : ℕ) (fatal : Bool) → q Flagged ≡ q Unread
      → q Interrupted ≡ q Read → interrupt_effect s u fatal ≢ Dequeued
      → kept_entries (filter (λ e. q e.1.mark) (after_interrupt s u fatal).requests)
      ≡ kept_entries (filter (λ e. q e.1.mark) s.requests)
  kept_entries-interrupt q s u fatal unread read stays = by (request_under s u) refl
    where
      Same : QueueState W → Type 0
      Same t = kept_entries (filter (λ e. q e.1.mark) t.requests) ≡ kept_entries (filter (λ e. q e.1.mark) s.requests)

      marked : (r : QueuedRequest W) → request_under s u ≡ Some r → (m : Mark) → r.mark ≡ m → (f off : Bool)
          → signal_effect m f off ≢ Dequeued → Same (after_effect s u (signal_effect m f off))
      marked r e Unread is true off n = absurd (n refl)
      marked r e Flagged is true off n = absurd (n refl)
      marked r e Unread is false false n = kept_entries-set_mark q u s.requests r Flagged e (unread ∙ ap q (sym is))
      marked r e Unread is false true n = refl
      marked r e Read is f false n = kept_entries-set_mark q u s.requests r Interrupted e (read ∙ ap q (sym is))
      marked r e Read is f true n = refl
      marked r e Flagged is false off n = refl
      marked r e Interrupted is f off n = refl

      by : (o : Option (QueuedRequest W)) → request_under s u ≡ o → Same (after_interrupt s u fatal)
      by None e = rw e refl
      by (Some r) e = rw e (marked r e r.mark refl fatal s.interrupts_off (rw e at stays))

  -- .. leaves each list as it is but for the marks
  pub kept_entries-pending_interrupt : (s : QueueState W) (u : ℕ) (fatal : Bool)
      → interrupt_effect s u fatal ≢ Dequeued → kept_entries (pending (after_interrupt s u fatal))
      ≡ kept_entries (pending s)
  kept_entries-pending_interrupt s u fatal stays = kept_entries-interrupt is_unread s u fatal refl refl stays

  pub kept_entries-processing_interrupt : (s : QueueState W) (u : ℕ) (fatal : Bool)
      → interrupt_effect s u fatal ≢ Dequeued → kept_entries (processing (after_interrupt s u fatal))
      ≡ kept_entries (processing s)
  kept_entries-processing_interrupt s u fatal stays =
      kept_entries-interrupt (λ m. not (is_unread m)) s u fatal refl refl stays

  -- replies to an INTERRUPT

  -- EAGAIN queues an INTERRUPT exactly where its request is interrupted and it is not queued yet
  pub after_interrupt_reply-again : (s : QueueState W) (u : ℕ)
      → after_interrupt_reply s u Again ≡ cond (is_interrupted s u && not (list_any (nat_eq u) s.interrupts))
      (with_interrupt s u) s
  after_interrupt_reply-again s u = by (mark_under s u) (list_any (nat_eq u) s.interrupts) s.interrupts_off refl
    where
      Given : Option Mark → Bool → Bool → Type 0
      Given o queued off = option_map_or (λ m. after_reply_effect s u (reply_effect Again m queued off)) o s
          ≡ cond (option_map_or has_interrupt o false && not queued) (with_interrupt s u) s

      -- where INTERRUPTs are off, none goes onto the list
      still : s.interrupts_off ≡ true → s ≡ with_interrupt s u
      still off = rw off refl

      by : (o : Option Mark) (queued off : Bool) → s.interrupts_off ≡ off → Given o queued off
      by None queued off is = refl
      by (Some Unread) queued off is = refl
      by (Some Flagged) queued off is = refl
      by (Some Read) queued off is = refl
      by (Some Interrupted) true off is = refl
      by (Some Interrupted) false true is = still is
      by (Some Interrupted) false false is = refl

  -- ENOSYS does the same whatever the mark of a request that waits
  pub after_interrupt_reply-not_supported : (s : QueueState W) (u : ℕ) (w : W) → waiting s u ≡ Some w
      → after_interrupt_reply s u NotSupported ≡ after_no_interrupts s
  after_interrupt_reply-not_supported s u w waits = by (request_under s u) waits
    where
      by : (o : Option (QueuedRequest W)) → option_map_or (λ r. cond (is_unread r.mark) None (Some r.kept)) o None
          ≡ Some w → option_map_or (λ m. after_reply_effect s u
          (reply_effect NotSupported m (list_any (nat_eq u) s.interrupts) s.interrupts_off))
          (option_map (λ r. r.mark) o) s ≡ after_no_interrupts s
      by None e = cc
      by (Some r) e = refl

  -- any other reply does nothing
  pub after_interrupt_reply-other : (s : QueueState W) (u : ℕ) → after_interrupt_reply s u Other ≡ s
  after_interrupt_reply-other s u = by (mark_under s u)
    where
      by : (o : Option Mark) → option_map_or (λ m. after_reply_effect s u
          (reply_effect Other m (list_any (nat_eq u) s.interrupts) s.interrupts_off)) o s ≡ s
      by None = refl
      by (Some m) = refl
