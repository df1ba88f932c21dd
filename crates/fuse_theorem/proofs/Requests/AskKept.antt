-- As the kernel goes on, a request that was read stays what it is until it is answered.
use Rattle.std.proofs.Common.{◌≡◌, ℕ, ◌+◌, Bool, true, false, true≢false, cond, List, [], ◌∷◌, Option, Some, None, nat_eq, slice_get, option_map, is_some, ◌≤◌, refl, ap, sym, subst, ◌∙◌, arith, inl, inr, All}
use Rattle.std.specs.Map.{lookup, remove_entry}
use Rattle.std.specs.Option.{option_map_or}
use Rattle.std.proofs.lemmas.Bool.{cases_eq}
use Rattle.std.proofs.lemmas.List.Elements.{All-cons, All-head, All-tail, All-push}
use Rattle.fuse_spec.specs.declared.IntrEffect.{IntrEffect}
use Rattle.fuse_spec.specs.declared.IntrEffect.TheVariants.{Dequeued, Flagged, Queued, None as NoEffect}
use Rattle.fuse_spec.specs.declared.Mark.{Mark}
use Rattle.fuse_spec.specs.declared.Mark.TheVariants as mark
use Rattle.fuse_spec.specs.declared.Opened.{Opened}
use Rattle.fuse_spec.specs.declared.Purpose.{Purpose}
use Rattle.fuse_spec.specs.declared.Purpose.TheVariants as purpose
use Rattle.fuse_spec.specs.declared.QueuedRequest.{QueuedRequest}
use Rattle.fuse_spec.specs.Calls.Answers.{Answer}
use Rattle.fuse_spec.specs.Calls.Answers as answer
use Rattle.fuse_spec.specs.Calls.Calls.{Call}
use Rattle.fuse_spec.specs.Values.Maps.{Map, get, put, remove}
use Rattle.fuse_spec.specs.Files.Operations.{Operation}
use Rattle.fuse_spec.specs.Calls.Vfs.{CallState, walking, doing, using, Advance, answered, begun}
use Rattle.fuse_spec.specs.Kernel.Queues.{IsSound, is_unread, has_interrupt, is_signalled, pending, request_under, mark_under}
use Rattle.fuse_spec.specs.Kernel.QueueCalls.{after_enqueue, after_effect, after_reading, after_read_pending, interrupt_effect, set_mark}
use Rattle.fuse_spec.specs.Kernel.Signals.{signal_effect}
use Rattle.fuse_spec.specs.Kernel.Kernel.{Kernel, is_aborted, is_for, is_used, request_of, asked_by, body_of, asking_for, advanced, released, released_if_idle, after_use, closed_by, closing_of, call_begun, after_signal, signalled_at, call_signalled}
use Rattle.fuse_spec.proofs.QueueCounts.{lookup-push, lookup-set_mark_other, lookup-remove_entry_other}
use Rattle.fuse_spec.proofs.QueueReadings.{key_count-le-one}
use Rattle.fuse_spec.proofs.QueueSoundness.{mark_under-pending}
use Rattle.fuse_theorem.specs.Numbering.{requests_for}
use Rattle.fuse_theorem.specs.AskedRequests.{serves_call, SignalsReachCalls, BearsFirst, InitIsFirst}
use Rattle.fuse_theorem.proofs.Calls.Advancing.{StepsAlone, answered_alone, begun_alone}
use Rattle.fuse_theorem.proofs.Refining.Asking.{body_beside}
use Rattle.fuse_theorem.proofs.Calls.CallNumbers.{none_left}
use Rattle.fuse_theorem.proofs.Calls.Finding.{other_is, none_passes, found_entry, All-found, All-removed}
use Rattle.fuse_theorem.proofs.Requests.Numbered.{CallsNumbered}
use Rattle.fuse_theorem.proofs.Refining.Signalling.{serves_call as is_call, dequeues_unread, flags_unread}

-- The request is there still, no less read or signalled, and asks what it asked.
pub record StillThere (k l : Kernel) (unique : ℕ) (r : QueuedRequest Purpose) : Type 0 where
  pub now : QueuedRequest Purpose
  pub under : request_under l.queues unique ≡ Some now
  pub same_kept : now.kept ≡ r.kept
  pub read : is_unread now.mark ≡ false
  pub marked : has_interrupt r.mark ≡ true → has_interrupt now.mark ≡ true
  pub asks : body_of l r.kept ≡ body_of k r.kept

-- The kernel went on: what was read is there still, and signals still reach calls alone.
pub record Follows (k l : Kernel) : Type 0 where
  pub still : (unique : ℕ) (r : QueuedRequest Purpose) → request_under k.queues unique ≡ Some r
      → is_unread r.mark ≡ false → StillThere k l unique r
  pub signals : SignalsReachCalls k.queues → SignalsReachCalls l.queues
  pub first : InitIsFirst k.queues → InitIsFirst l.queues

pub then_follows : (k l m : Kernel) → Follows k l → Follows l m → Follows k m
then_follows k l m first rest = record {
  still = λ u r under read.
      let x = first.still u r under read in
      let y = rest.still u x.now x.under x.read in
      record {
        now = y.now;
        under = y.under;
        same_kept = y.same_kept ∙ x.same_kept;
        read = y.read;
        marked = λ h. y.marked (x.marked h);
        asks = ap (body_of m) (sym x.same_kept) ∙ y.asks ∙ ap (body_of l) x.same_kept ∙ x.asks;
      };
  signals = λ h. rest.signals (first.signals h);
  first = λ h. rest.first (first.first h);
}

-- what a request asks depends on the calls alone
pub asks_same : (k l : Kernel) (kept : Purpose) → l.vfs.calls ≡ k.vfs.calls → body_of l kept ≡ body_of k kept
asks_same k l purpose.Init calls = refl
asks_same k l (purpose.Release o) calls = refl
asks_same k l (purpose.Call call) calls = ap (λ (m : Map (CallState Opened)). asked_by (get m call)) calls

-- a signal reaches a call by this entry, if it has one
abbrev pub ReachesCall : ℕ × QueuedRequest Purpose → Type 0
ReachesCall e = is_signalled e.1.mark ≡ true → serves_call e.1.kept ≡ true

-- INIT has the first number alone
abbrev pub IsNumberedFor : ℕ × QueuedRequest Purpose → Type 0
IsNumberedFor e = BearsFirst e.0 e.1.kept

-- The same calls and requests.
pub unmoved : (k l : Kernel) → l.queues.requests ≡ k.queues.requests → l.vfs.calls ≡ k.vfs.calls
    → k.queues.next ≤ l.queues.next → Follows k l
unmoved k l requests calls rises = record {
  still = λ u r under read. record {
    now = r;
    under = ap (lookup (nat_eq u)) requests ∙ under;
    same_kept = refl;
    read = read;
    marked = λ h. h;
    asks = asks_same k l r.kept calls;
  };
  signals = subst (All ReachesCall) (sym requests);
  first = λ h. let low = h.next in record {
    next = omega (arith, low, rises);
    entries = subst (All IsNumberedFor) (sym requests) h.entries;
  };
}

-- ---- the requests alone

-- One more request.
pub enqueued : (k : Kernel) (kept : Purpose) → ((unique : ℕ) → 4 ≤ unique → BearsFirst unique kept)
    → Follows k (record k { queues = after_enqueue k.queues kept })
enqueued k kept bears = record {
  still = λ u r under read. record {
    now = r;
    under = lookup-push u k.queues.requests (k.queues.next, record { mark = mark.Unread; kept = kept }) r under;
    same_kept = refl;
    read = read;
    marked = λ h. h;
    asks = asks_same k (record k { queues = after_enqueue k.queues kept }) r.kept refl;
  };
  signals = λ old. All-push ReachesCall k.queues.requests
      (k.queues.next, record { mark = mark.Unread; kept = kept }) old (λ e. absurd (cc));
  first = λ h. let low = h.next in record {
    next = omega (arith, low);
    entries = All-push IsNumberedFor k.queues.requests
        (k.queues.next, record { mark = mark.Unread; kept = kept }) h.entries (bears k.queues.next low);
  };
}

-- ---- one request ends

abbrev is_unread_in : Option (QueuedRequest Purpose) → Bool
is_unread_in None = false
is_unread_in (Some r) = is_unread r.mark

-- An unread request ends.
pub dequeued : (k l : Kernel) (v : ℕ) (old : QueuedRequest Purpose) → request_under k.queues v ≡ Some old
    → is_unread old.mark ≡ true → l.queues.requests ≡ remove_entry (nat_eq v) k.queues.requests
    → l.vfs.calls ≡ k.vfs.calls
    → k.queues.next ≤ l.queues.next → Follows k l
dequeued k l v old found unread requests calls rises = record {
  still = λ u r under read. record {
    now = r;
    under = ap (lookup (nat_eq u)) requests ∙ lookup-remove_entry_other u v k.queues.requests
        (other_is u v (λ e. true≢false (sym unread ∙ ap is_unread_in
        (sym found ∙ ap (request_under k.queues) (sym e) ∙ under) ∙ read))) ∙ under;
    same_kept = refl;
    read = read;
    marked = λ h. h;
    asks = asks_same k l r.kept calls;
  };
  signals = λ h. subst (All ReachesCall) (sym requests) (All-removed ReachesCall v k.queues.requests h);
  first = λ h. let low = h.next in record {
    next = omega (arith, low, rises);
    entries = subst (All IsNumberedFor) (sym requests) (All-removed IsNumberedFor v k.queues.requests h.entries);
  };
}

-- ---- one request gets another mark

marked_all : (v : ℕ) (m : Mark) (es : List (ℕ × QueuedRequest Purpose))
    → ((r : QueuedRequest Purpose) → lookup (nat_eq v) es ≡ Some r → is_signalled m ≡ true → serves_call r.kept ≡ true)
    → All ReachesCall es → All ReachesCall (set_mark v es m)
marked_all v m [] serves h = h
marked_all v m (e ∷ es) serves h = by (nat_eq v e.0) refl (λ f. marked_all v m es f (All-tail ReachesCall e es h))
  where
    by : (b : Bool) → nat_eq v e.0 ≡ b → (((r : QueuedRequest Purpose) → lookup (nat_eq v) es ≡ Some r
        → is_signalled m ≡ true → serves_call r.kept ≡ true) → All ReachesCall (set_mark v es m))
        → All ReachesCall (cond b ((e.0, record { mark = m; kept = e.1.kept }) ∷ es) (e ∷ set_mark v es m))
    by true is rest = All-cons ReachesCall (e.0, record { mark = m; kept = e.1.kept }) es (serves e.1 (rw is refl))
        (All-tail ReachesCall e es h)
    by false is rest = All-cons ReachesCall e (set_mark v es m) (All-head ReachesCall e es h)
        (rest (λ r under. serves r (rw is under)))

numbered_marked : (v : ℕ) (m : Mark) (es : List (ℕ × QueuedRequest Purpose)) → All IsNumberedFor es
    → All IsNumberedFor (set_mark v es m)
numbered_marked v m [] h = h
numbered_marked v m (e ∷ es) h = by (nat_eq v e.0) (numbered_marked v m es (All-tail IsNumberedFor e es h))
  where
    by : (b : Bool) → All IsNumberedFor (set_mark v es m)
        → All IsNumberedFor (cond b ((e.0, record { mark = m; kept = e.1.kept }) ∷ es) (e ∷ set_mark v es m))
    by true rest = All-cons IsNumberedFor (e.0, record { mark = m; kept = e.1.kept }) es
        (All-head IsNumberedFor e es h) (All-tail IsNumberedFor e es h)
    by false rest = All-cons IsNumberedFor e (set_mark v es m) (All-head IsNumberedFor e es h) rest

pub lookup_marked : (v : ℕ) (m : Mark) (r : QueuedRequest Purpose) (es : List (ℕ × QueuedRequest Purpose))
    → lookup (nat_eq v) es ≡ Some r → lookup (nat_eq v) (set_mark v es m) ≡ Some (record { mark = m; kept = r.kept })
lookup_marked v m r [] found = absurd (cc)
lookup_marked v m r (e ∷ es) found = by (nat_eq v e.0) refl found (λ f. lookup_marked v m r es f)
  where
    by : (b : Bool) → nat_eq v e.0 ≡ b → cond b (Some e.1) (lookup (nat_eq v) es) ≡ Some r
        → (lookup (nat_eq v) es ≡ Some r → lookup (nat_eq v) (set_mark v es m)
        ≡ Some (record { mark = m; kept = r.kept }))
        → lookup (nat_eq v) (cond b ((e.0, record { mark = m; kept = e.1.kept }) ∷ es) (e ∷ set_mark v es m))
        ≡ Some (record { mark = m; kept = r.kept })
    by true is f rest = let same : e.1 ≡ r = cc in rw is
        (ap (λ (x : QueuedRequest Purpose). Some (record { mark = m; kept = x.kept })) same)
    by false is f rest = rw is (rest f)

-- The mark of a request changes: a read one stays read, and interrupted if it was. Where the new mark is a signal's,
-- the request is a call's.
pub record MayMark (k : Kernel) (v : ℕ) (old m : Mark) : Type 0 where
  pub found : mark_under k.queues v ≡ Some old
  pub read : is_unread old ≡ false → is_unread m ≡ false
  pub marked : is_unread old ≡ false → has_interrupt old ≡ true → has_interrupt m ≡ true
  pub serves : (r : QueuedRequest Purpose) → request_under k.queues v ≡ Some r → SignalsReachCalls k.queues
      → is_signalled m ≡ true → serves_call r.kept ≡ true

pub remarked : (k l : Kernel) (v : ℕ) (old m : Mark) → MayMark k v old m
    → l.queues.requests ≡ set_mark v k.queues.requests m → l.vfs.calls ≡ k.vfs.calls → k.queues.next ≤ l.queues.next
    → Follows k l
remarked k l v old m may requests calls rises = record {
  still = λ u r under read. elim (cases_eq u v) [
    | inl e ↦ here u r (subst (λ (n : ℕ). request_under k.queues n ≡ Some r) e under) read e
    | inr ne ↦ record {
      now = r;
      under = ap (lookup (nat_eq u)) requests ∙ lookup-set_mark_other u v k.queues.requests m (other_is u v ne) ∙ under;
      same_kept = refl;
      read = read;
      marked = λ h. h;
      asks = asks_same k l r.kept calls;
    }
  ];
  signals = λ h. subst (All ReachesCall) (sym requests)
      (marked_all v m k.queues.requests (λ r under. may.serves r under h) h);
  first = λ h. let low = h.next in record {
    next = omega (arith, low, rises);
    entries = subst (All IsNumberedFor) (sym requests) (numbered_marked v m k.queues.requests h.entries);
  };
}
  where
    here : (u : ℕ) (r : QueuedRequest Purpose) → request_under k.queues v ≡ Some r → is_unread r.mark ≡ false → u ≡ v
        → StillThere k l u r
    here u r under read e =
        let same : Some r.mark ≡ Some old = ap (option_map (λ (x : QueuedRequest Purpose). x.mark))
        (sym under) ∙ may.found in
        let is : r.mark ≡ old = cc (same) in
        let was_read : is_unread old ≡ false = ap is_unread (sym is) ∙ read in
        record {
          now = record { mark = m; kept = r.kept };
          under = ap (lookup (nat_eq u)) requests ∙ ap (λ (n : ℕ). lookup (nat_eq n)
              (set_mark v k.queues.requests m)) e ∙ lookup_marked v m r k.queues.requests under;
          same_kept = refl;
          read = may.read was_read;
          marked = λ h. may.marked was_read (ap has_interrupt (sym is) ∙ h);
          asks = asks_same k l r.kept calls;
        }

-- ---- calls go on

-- A call for which no request is queued takes a step, and what it asks is queued.
pub advanced_follows : (k : Kernel) (call coming : ℕ) (next : Advance Opened) → requests_for call k.queues ≡ 0
    → StepsAlone k.vfs.calls coming call next → Follows k (advanced k call next)
advanced_follows k call coming next none alone = by next.operation
  where
    stepped : Follows k (record k { vfs = next.vfs })
    stepped = record {
      still = λ u r under read. record {
        now = r;
        under = under;
        same_kept = refl;
        read = read;
        marked = λ h. h;
        asks = body_beside k (record k { vfs = next.vfs }) call r.kept alone.others
            (All-found (λ (e : ℕ × QueuedRequest Purpose). is_for call e.1.kept ≡ false) u k.queues.requests r
            (none_passes (λ (e : ℕ × QueuedRequest Purpose). is_for call e.1.kept) k.queues.requests none) under);
      };
      signals = λ h. h;
      first = λ h. record { next = h.next; entries = h.entries };
    }

    by : (o : Option (Operation ℕ Opened)) → Follows k (asking_for (record k { vfs = next.vfs }) call o)
    by None = stepped
    by (Some operation) =
        let k1 = record k { vfs = next.vfs } in
        then_follows k k1 (record k1 { queues = after_enqueue k1.queues (purpose.Call call) }) stepped
        (enqueued k1 (purpose.Call call) (λ n low e. absurd (omega (arith, low, e))))

idle_follows : (k : Kernel) (open_call : ℕ) → Follows k (released_if_idle k open_call)
idle_follows k open_call = by (get k.closing open_call)
  where
    unless_used : (b : Bool) (o : Opened) → Follows k
        (record k {
          closing = cond b k.closing (remove k.closing open_call);
          queues = cond b k.queues (after_enqueue k.queues (purpose.Release o));
        })
    unless_used true o = unmoved k k refl refl (omega arith)
    unless_used false o =
        let k1 = record k { queues = after_enqueue k.queues (purpose.Release o) } in
        then_follows k k1 (record k1 { closing = remove k.closing open_call })
        (enqueued k (purpose.Release o) (λ n low e. absurd (omega (arith, low, e))))
        (unmoved k1 (record k1 { closing = remove k.closing open_call }) refl refl (omega arith))

    by : (o : Option Opened) → Follows k (released k open_call o)
    by None = unmoved k k refl refl (omega arith)
    by (Some o) = unless_used (is_used k open_call) o

pub used_follows : (k : Kernel) (state : CallState Opened) → Follows k (after_use k state)
used_follows k (walking d word words plan) = unmoved k k refl refl (omega arith)
used_follows k (doing operation) = unmoved k k refl refl (omega arith)
used_follows k (using open_call operation) = idle_follows k open_call

-- A call for which no request is queued is answered.
pub answered_follows : (k : Kernel) (call : ℕ) (a : Answer) → requests_for call k.queues ≡ 0
    → Follows k (record k { vfs = answered k.vfs call a })
answered_follows k call a none = advanced_follows k call k.vfs.next_call
    (record { vfs = answered k.vfs call a; operation = None }) none (answered_alone k.vfs call a)

-- A call begins.
pub begun_follows : (k : Kernel) → CallsNumbered k → (call : Call) → Follows k (call_begun k call)
begun_follows k numbered call =
    let next = begun (is_aborted k.phase) k.vfs call in
    let asking = advanced k k.vfs.next_call next in
    then_follows k asking (call_begun k call) (advanced_follows k k.vfs.next_call
    (k.vfs.next_call + 1) next none_coming (begun_alone (is_aborted k.phase) k.vfs call))
    (closes_one asking (cond (is_aborted k.phase) None (closed_by k.vfs.opens call)))
  where
    none_coming : requests_for k.vfs.next_call k.queues ≡ 0
    none_coming =
        let few : requests_for k.vfs.next_call k.queues ≤ 0 =
        subst (λ (b : Bool). requests_for k.vfs.next_call k.queues ≤ cond b 1 0)
        (ap is_some (numbered.calls_below k.vfs.next_call (omega arith))) (numbered.one_request k.vfs.next_call) in
        omega (arith, few)

    closes_one : (q : Kernel) (file : Option (ℕ × Opened)) → Follows q (closing_of q file)
    closes_one q None = unmoved q q refl refl (omega arith)
    closes_one q (Some file) =
        let put_off = record q { closing = put q.closing file.0 file.1 } in
        then_follows q put_off (closing_of q (Some file)) (unmoved q put_off refl refl (omega arith))
        (idle_follows put_off file.0)

-- ---- requests are read

pub read_follows : (k : Kernel) → IsSound k.queues → (place : ℕ)
    → Follows k (record k { queues = after_read_pending k.queues place })
read_follows k sound place = by (slice_get (pending k.queues) place) refl
  where
    serves_flagged : (unique : ℕ) → mark_under k.queues unique ≡ Some mark.Flagged → (r : QueuedRequest Purpose)
        → request_under k.queues unique ≡ Some r → SignalsReachCalls k.queues → serves_call r.kept ≡ true
    serves_flagged unique at r under signals =
        let same : Some r.mark ≡ Some mark.Flagged = ap (option_map (λ (x : QueuedRequest Purpose). x.mark))
        (sym under) ∙ at in
        let is : r.mark ≡ mark.Flagged = cc (same) in
        All-found ReachesCall unique k.queues.requests r signals under (ap is_signalled is)

    read_as : (unique : ℕ) (m : Mark) → mark_under k.queues unique ≡ Some m
        → Follows k (record k { queues = after_reading k.queues unique m })
    read_as unique mark.Unread at =
        remarked k (record k { queues = after_reading k.queues unique mark.Unread }) unique mark.Unread mark.Read
        (record {
          found = at;
          read = λ e. refl;
          marked = λ e h. absurd (true≢false e);
          serves = λ r under signals e. absurd (true≢false (sym e));
        }) refl refl (omega arith)
    read_as unique mark.Flagged at =
        remarked k (record k {
          queues =
              after_reading k.queues unique mark.Flagged;
        }) unique mark.Flagged mark.Interrupted
        (record {
          found = at;
          read = λ e. refl;
          marked = λ e h. refl;
          serves = λ r under signals e. serves_flagged unique at r under signals;
        }) refl refl (omega arith)
    read_as unique mark.Read at = unmoved k k refl refl (omega arith)
    read_as unique mark.Interrupted at = unmoved k k refl refl (omega arith)

    by : (o : Option (ℕ × QueuedRequest Purpose)) → slice_get (pending k.queues) place ≡ o
        → Follows k (record k { queues = option_map_or (λ e. after_reading k.queues e.0 e.1.mark) o k.queues })
    by None at = unmoved k k refl refl (omega arith)
    by (Some e) at = read_as e.0 e.1.mark (mark_under-pending k.queues place e sound at)

-- ---- a signal reaches a call

pub signalled_follows : (k : Kernel) → IsSound k.queues → CallsNumbered k
    → (call : ℕ) (state : CallState Opened) (fatal : Bool) → Follows k (call_signalled k call state fatal).1
signalled_follows k sound numbered call state fatal = by (request_of k call) refl
  where
    of_call : (unique : ℕ) (r : QueuedRequest Purpose) → request_under k.queues unique ≡ Some r
        → is_for call r.kept ≡ true → (x : QueuedRequest Purpose) → request_under k.queues unique ≡ Some x
        → serves_call x.kept ≡ true
    of_call unique r under mine x also =
        let same : r ≡ x = cc in
        subst (λ (y : QueuedRequest Purpose). serves_call y.kept ≡ true) same
        (ap serves_call (is_call call r.kept mine))

    marked_under : (unique : ℕ) (r : QueuedRequest Purpose) → request_under k.queues unique ≡ Some r
        → mark_under k.queues unique ≡ Some r.mark
    marked_under unique r under = ap (option_map (λ (x : QueuedRequest Purpose). x.mark)) under

    effect : (unique : ℕ) (r : QueuedRequest Purpose) → request_under k.queues unique ≡ Some r
        → is_for call r.kept ≡ true → (x : IntrEffect) → signal_effect r.mark fatal k.queues.interrupts_off ≡ x
        → Follows k (after_signal (record k { queues = after_effect k.queues unique x }) call state x)
    effect unique r under mine Dequeued is =
        let k1 = record k { queues = after_effect k.queues unique Dequeued } in
        let k2 = record k1 { vfs = answered k.vfs call (answer.failed 4) } in
        let gone = dequeued k k1 unique r under (dequeues_unread r.mark fatal k.queues.interrupts_off is) refl refl
        (omega arith) in
        let alone = answered_follows k1 call (answer.failed 4) (none_left k numbered call unique r under mine) in
        then_follows k k2 (after_use k2 state) (then_follows k k1 k2 gone alone) (used_follows k2 state)
    effect unique r under mine Flagged is =
        let unread = flags_unread r.mark fatal k.queues.interrupts_off is in
        remarked k (record k { queues = after_effect k.queues unique Flagged }) unique r.mark mark.Flagged (record {
          found = marked_under unique r under;
          read = λ e. absurd (true≢false (sym unread ∙ e));
          marked = λ e h. absurd (true≢false (sym unread ∙ e));
          serves = λ x also signals e. of_call unique r under mine x also;
        }) refl refl (omega arith)
    effect unique r under mine Queued is =
        remarked k (record k { queues = after_effect k.queues unique Queued }) unique r.mark mark.Interrupted
        (record {
          found = marked_under unique r under;
          read = λ e. refl;
          marked = λ e h. refl;
          serves = λ x also signals e. of_call unique r under mine x also;
        }) refl refl (omega arith)
    effect unique r under mine NoEffect is = unmoved k k refl refl (omega arith)

    by : (o : Option ℕ) → request_of k call ≡ o → Follows k (signalled_at k call state fatal o).1
    by None e = unmoved k k refl refl (omega arith)
    by (Some unique) e =
        let found = found_entry (λ (x : ℕ × QueuedRequest Purpose). is_for call x.1.kept) k.queues.requests unique
        (key_count-le-one k.queues unique sound) e in
        let effect_is : interrupt_effect k.queues unique fatal
        ≡ signal_effect found.0.mark fatal k.queues.interrupts_off =
        ap (λ (o : Option (QueuedRequest Purpose)). option_map_or
        (λ r. signal_effect r.mark fatal k.queues.interrupts_off) o NoEffect) found.1 in
        effect unique found.0 found.1 found.2 (interrupt_effect k.queues unique fatal) (sym effect_is)
