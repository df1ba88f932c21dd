-- What a request that was read asks stays the same until it is answered, whatever the kernel does.
use Rattle.std.proofs.Common.{◌≡◌, ◌⊎◌, inl, inr, ℕ, ◌+◌, ◌≤◌, ◌<◌, Bool, true, false, true≢false, cond, List, [], ◌∷◌, Option, Some, None, option_map, is_some, nat_eq, nat_lt, refl, ap, sym, subst, ◌∙◌, arith}
use Rattle.std.specs.Map.{lookup}
use Rattle.std.specs.Option.{option_map_or}
use Rattle.std.proofs.lemmas.Bool.Decides.{nat_tests}
use Rattle.fk_wire.specs.declared.opcode.Opcode.{Opcode}
use Rattle.fk_wire.specs.Opcodes.{code_of}
use Rattle.fk_wire.proofs.OneRequest.{same_code}
use Rattle.fuse_spec.specs.declared.IntrEffect.{IntrEffect}
use Rattle.fuse_spec.specs.declared.IntrEffect.TheVariants.{Dequeued, Flagged, Queued, None as NoEffect}
use Rattle.fuse_spec.specs.declared.Mark.{Mark}
use Rattle.fuse_spec.specs.declared.Mark.TheVariants as mark
use Rattle.fuse_spec.specs.declared.Opened.{Opened}
use Rattle.fuse_spec.specs.declared.Purpose.{Purpose}
use Rattle.fuse_spec.specs.declared.Purpose.TheVariants as purpose
use Rattle.fuse_spec.specs.declared.QueuedRequest.{QueuedRequest}
use Rattle.fuse_spec.specs.Calls.Answers as answer
use Rattle.fuse_spec.specs.Calls.Answers.{Answer}
use Rattle.fuse_spec.specs.Calls.Vfs.{CallState, answered, doing, using, walking}
use Rattle.fuse_spec.specs.Values.Maps.{Map, get, remove}
use Rattle.fuse_spec.specs.Kernel.Kernel.{Kernel, after_signal, after_use, asked_by, body_of, call_signalled, is_for, is_used, released, released_if_idle, request_of, signalled_at}
use Rattle.fuse_spec.specs.Kernel.Messages.{RequestBody}
use Rattle.fuse_spec.specs.Kernel.QueueCalls.{after_effect, after_enqueue, interrupt_effect, set_mark, waiting}
use Rattle.fuse_spec.specs.Kernel.Queues.{QueueState, is_unread, mark_under, request_under}
use Rattle.fuse_spec.specs.Kernel.Signals.{signal_effect}
use Rattle.fuse_spec.proofs.QueueCounts.{count_by-push, key_count}
use Rattle.fuse_theorem.specs.AskedRequests.{serves_call}
use Rattle.fuse_theorem.specs.Numbering.{requests_for}
use Rattle.fuse_theorem.proofs.Calls.Advancing.{answered_alone}
use Rattle.fuse_theorem.proofs.Calls.CallNumbers.{none_left, without_numbered}
use Rattle.fuse_theorem.proofs.Calls.Finding.{found_entry}
use Rattle.fuse_theorem.proofs.Refining.Signalling.{serves_call as is_call, dequeues_unread, flags_unread}
use Rattle.fuse_theorem.proofs.Lists.SetMarks.{count_marked}
use Rattle.fuse_theorem.proofs.Requests.AskKept.{Follows, StillThere, answered_follows, dequeued, remarked, then_follows, unmoved, used_follows}
use Rattle.fuse_theorem.proofs.Requests.Numbered.{CallsNumbered, calls_advanced}
use Rattle.fk_kernel.specs.AwaitedReplies.{Awaited, awaited_by, awaited_by_call, nothing, reply_to}
use Rattle.fuse_frames.specs.RequestTies.{asked_opcode}
use Rattle.fk_drive_theorem.proofs.OneEach.{OneEach}
use Rattle.fk_drive_theorem.proofs.Stable.{Stable, at_most, is_nothing, same_number}
use Rattle.driven_sessions.proofs.Numbers.{Each, Entry, IsRead}

-- what a request under this number awaits
abbrev pub awaits : Kernel → ℕ → Awaited
awaits k u = awaited_by k (waiting k.queues u)

-- Where it awaits a reply, it is one to this opcode.
abbrev pub AwaitsOnly : Opcode → ℕ → Kernel → Type 0
AwaitsOnly o u k = (p : Opcode) → awaits k u ≡ reply_to p → p ≡ o

pub only_stable : (o : Opcode) (u : ℕ) (k : Kernel) → Stable (AwaitsOnly o u k)
only_stable o u k s p is = same_code p o (same_number _ _ (λ no. s (λ only. no (ap code_of (only p is)))))

-- ---- by what it asks

pub awaited_of : Option RequestBody → Awaited
awaited_of None = nothing
awaited_of (Some body) = reply_to (asked_opcode body)

pub some_awaited : (body : RequestBody) → awaited_of (Some body) ≡ reply_to (asked_opcode body)
unfolding awaited_of
some_awaited body = refl

by_body : (k : Kernel) (p : Purpose) → awaited_by k (Some p) ≡ awaited_of (body_of k p)
unfolding awaited_of
by_body k purpose.Init = refl
by_body k (purpose.Release opened) = refl
by_body k (purpose.Call call) = by (get k.vfs.calls call)
  where
    by : (o : Option (CallState Opened)) → awaited_by_call o ≡ awaited_of (asked_by o)
    by None = refl
    by (Some state) = refl

waiting_read : (q : QueueState Purpose) (u : ℕ) (r : QueuedRequest Purpose) → request_under q u ≡ Some r
    → is_unread r.mark ≡ false → waiting q u ≡ Some r.kept
waiting_read q u r under read = ap (λ (o : Option (QueuedRequest Purpose)).
    option_map_or (λ (x : QueuedRequest Purpose). cond (is_unread x.mark) None (Some x.kept)) o None) under
    ∙ ap (λ (b : Bool). cond b None (Some r.kept)) read

pub awaits_read : (k : Kernel) (u : ℕ) (r : QueuedRequest Purpose) → request_under k.queues u ≡ Some r
    → is_unread r.mark ≡ false → awaits k u ≡ awaited_of (body_of k r.kept)
awaits_read k u r under read = ap (awaited_by k) (waiting_read k.queues u r under read) ∙ by_body k r.kept

pub awaits_none : (k : Kernel) (u : ℕ) → request_under k.queues u ≡ None → awaits k u ≡ nothing
awaits_none k u none = ap (λ (o : Option (QueuedRequest Purpose)). awaited_by k
    (option_map_or (λ (x : QueuedRequest Purpose). cond (is_unread x.mark) None (Some x.kept)) o None)) none

-- What is read under the number was read.
pub read_under : (u : ℕ) (es : List Entry) (r : QueuedRequest Purpose) → Each (IsRead u) es → lookup (nat_eq u) es ≡ Some r
    → is_unread r.mark ≡ false
read_under u [] r all found = absurd (cc found)
read_under u (e ∷ es) r all found = by (nat_eq u e.0) refl (read_under u es r all.1) found
  where
    mark_in : Option (QueuedRequest Purpose) → Bool
    mark_in None = false
    mark_in (Some x) = is_unread x.mark

    by : (b : Bool) → nat_eq u e.0 ≡ b → (lookup (nat_eq u) es ≡ Some r → is_unread r.mark ≡ false)
        → cond b (Some e.1) (lookup (nat_eq u) es) ≡ Some r → is_unread r.mark ≡ false
    by true is rest found = sym (ap mark_in found) ∙ all.0 is
    by false is rest found = rest found

-- The kernel goes on, and what was read is there still, or gone.
pub goes_only : (o : Opcode) (u : ℕ) (k l : Kernel) → Each (IsRead u) k.queues.requests
    → ((r : QueuedRequest Purpose) → request_under k.queues u ≡ Some r → is_unread r.mark ≡ false
    → StillThere k l u r ⊎ (request_under l.queues u ≡ None)) → (request_under k.queues u ≡ None → request_under l.queues u ≡ None)
    → AwaitsOnly o u k → AwaitsOnly o u l
goes_only o u k l read still gone only p is = by (request_under k.queues u) refl
  where
    never : awaits l u ≡ nothing → p ≡ o
    never none = absurd (cc (none, is))

    by : (x : Option (QueuedRequest Purpose)) → request_under k.queues u ≡ x → p ≡ o
    by None under = never (awaits_none l u (gone under))
    by (Some r) under = by_still (still r under was)
      where
        was : is_unread r.mark ≡ false
        was = read_under u k.queues.requests r read under

        by_still : StillThere k l u r ⊎ (request_under l.queues u ≡ None) → p ≡ o
        by_still (inr none) = never (awaits_none l u none)
        by_still (inl x) = only p (awaits_read k u r under was ∙ ap awaited_of (sym x.asks)
            ∙ ap (λ (q : Purpose). awaited_of (body_of l q)) (sym x.same_kept)
            ∙ sym (awaits_read l u x.now x.under x.read) ∙ is)

-- ---- calls that are numbered

pub numbered_stable : (k : Kernel) → Stable (CallsNumbered k)
numbered_stable k s = record {
  calls_below = λ c le. is_nothing (get k.vfs.calls c) (λ no. s (λ n. no (n.calls_below c le)));
  one_request = λ c. at_most _ _ (λ no. s (λ n. no (n.one_request c)));
}

same_numbered : (k l : Kernel) → l.vfs.calls ≡ k.vfs.calls → l.vfs.next_call ≡ k.vfs.next_call
    → ((c : ℕ) → requests_for c l.queues ≤ requests_for c k.queues) → CallsNumbered k → CallsNumbered l
same_numbered k l calls next fewer n = record {
  calls_below = λ c le. ap (λ (m : Map (CallState Opened)). get m c) calls
      ∙ n.calls_below c (subst (λ (x : ℕ). x ≤ c) next le);
  one_request = λ c.
      let few = fewer c in
      let one = n.one_request c in
      let same : cond (is_some (get l.vfs.calls c)) 1 0 ≡ cond (is_some (get k.vfs.calls c)) 1 0 =
      ap (λ (m : Map (CallState Opened)). cond {A = ℕ} (is_some (get m c)) 1 0) calls in
      omega (arith, few, one, same);
}

released_numbered : (k : Kernel) (open_call : ℕ) → CallsNumbered k → CallsNumbered (released_if_idle k open_call)
released_numbered k open_call n = by (get k.closing open_call)
  where
    queued : (o : Opened) (c : ℕ) → requests_for c (after_enqueue k.queues (purpose.Release o)) ≡ requests_for c k.queues + 0
    queued o c = count_by-push (λ (e : ℕ × QueuedRequest Purpose). is_for c e.1.kept) k.queues.requests
        (k.queues.next, record { mark = mark.Unread; kept = purpose.Release o })

    unless_used : (b : Bool) (o : Opened) → CallsNumbered (record k {
      closing = cond b k.closing (remove k.closing open_call);
      queues = cond b k.queues (after_enqueue k.queues (purpose.Release o));
    })
    unless_used true o = same_numbered k _ refl refl (λ c. omega arith) n
    unless_used false o = same_numbered k _ refl refl (λ c. let same = queued o c in omega (arith, same)) n

    by : (o : Option Opened) → CallsNumbered (released k open_call o)
    by None = n
    by (Some o) = unless_used (is_used k open_call) o

pub used_numbered : (k : Kernel) (state : CallState Opened) → CallsNumbered k → CallsNumbered (after_use k state)
used_numbered k (walking d word words plan) n = n
used_numbered k (doing operation) n = n
used_numbered k (using open_call operation) n = released_numbered k open_call n

-- A call that was begun and whose request ended is answered.
pub answered_numbered : (k : Kernel) (call : ℕ) (a : Answer) → call < k.vfs.next_call → requests_for call k.queues ≡ 0
    → CallsNumbered k → CallsNumbered (record k { vfs = answered k.vfs call a })
answered_numbered k call a low none n = calls_advanced k n k.vfs.next_call call
    (record { vfs = answered k.vfs call a; operation = None }) none (answered_alone k.vfs call a) low (omega arith)

-- A call that is unanswered was begun.
pub call_low : (k : Kernel) (call : ℕ) (state : CallState Opened) → CallsNumbered k → get k.vfs.calls call ≡ Some state
    → call < k.vfs.next_call
call_low k call state n there = by (nat_lt call k.vfs.next_call) refl
  where
    by : (b : Bool) → nat_lt call k.vfs.next_call ≡ b → call < k.vfs.next_call
    by true is = grind (arith, nat_tests, is)
    by false is = absurd (cc (there, n.calls_below call (grind (arith, nat_tests, is))))

pub marked_for : (c v : ℕ) (m : Mark) (q : QueueState Purpose)
    → requests_for c (record q { requests = set_mark v q.requests m }) ≡ requests_for c q
marked_for c v m q = count_marked c v m q.requests

-- ---- a signal

pub once_each : (q : QueueState Purpose) → OneEach q → (u : ℕ) → key_count u q.requests ≤ 1
once_each q one u = by (nat_lt u q.next) (one u)
  where
    by : (b : Bool) → key_count u q.requests ≤ cond b 1 0 → key_count u q.requests ≤ 1
    by true few = few
    by false few = omega (arith, few)

-- The kernel goes on, and its calls are numbered.
pub record GoesOn (k l : Kernel) : Type 0 where
  pub follows : Follows k l
  pub numbered : CallsNumbered l

pub signalled_on : (k : Kernel) → OneEach k.queues → CallsNumbered k → (call : ℕ) (state : CallState Opened) (fatal : Bool)
    → get k.vfs.calls call ≡ Some state → GoesOn k (call_signalled k call state fatal).1
signalled_on k one n call state fatal there = by (request_of k call) refl
  where
    marks_same : (unique : ℕ) (m : Mark) → CallsNumbered (record k { queues = record k.queues { requests = set_mark unique k.queues.requests m } })
    marks_same unique m = same_numbered k _ refl refl
        (λ c. let same = marked_for c unique m k.queues in omega (arith, same)) n

    stays_same : GoesOn k k
    stays_same = record { follows = unmoved k k refl refl (omega arith); numbered = n }

    of_call : (unique : ℕ) (r : QueuedRequest Purpose) → request_under k.queues unique ≡ Some r
        → is_for call r.kept ≡ true → (x : QueuedRequest Purpose) → request_under k.queues unique ≡ Some x
        → serves_call x.kept ≡ true
    of_call unique r under mine x also =
        let same : r ≡ x = cc (under, also) in
        subst (λ (y : QueuedRequest Purpose). serves_call y.kept ≡ true) same (ap serves_call (is_call call r.kept mine))

    marked_under : (unique : ℕ) (r : QueuedRequest Purpose) → request_under k.queues unique ≡ Some r
        → mark_under k.queues unique ≡ Some r.mark
    marked_under unique r under = ap (option_map (λ (x : QueuedRequest Purpose). x.mark)) under

    effect : (unique : ℕ) (r : QueuedRequest Purpose) → request_under k.queues unique ≡ Some r
        → is_for call r.kept ≡ true → (x : IntrEffect) → signal_effect r.mark fatal k.queues.interrupts_off ≡ x
        → GoesOn k (after_signal (record k { queues = after_effect k.queues unique x }) call state x)
    effect unique r under mine Dequeued is =
        let k1 = record k { queues = after_effect k.queues unique Dequeued } in
        let k2 = record k1 { vfs = answered k.vfs call (answer.failed 4) } in
        let gone = dequeued k k1 unique r under (dequeues_unread r.mark fatal k.queues.interrupts_off is) refl refl
        (omega arith) in
        let none = none_left k n call unique r under mine in
        let alone = answered_follows k1 call (answer.failed 4) none in
        let fewer = without_numbered k n unique in
        record {
          follows = then_follows k k2 (after_use k2 state) (then_follows k k1 k2 gone alone) (used_follows k2 state);
          numbered = used_numbered k2 state (answered_numbered k1 call (answer.failed 4) (call_low k call state n there) none
              (record { calls_below = fewer.calls_below; one_request = fewer.one_request }));
        }
    effect unique r under mine Flagged is =
        let unread = flags_unread r.mark fatal k.queues.interrupts_off is in
        record {
          follows = remarked k (record k { queues = after_effect k.queues unique Flagged }) unique r.mark mark.Flagged (record {
            found = marked_under unique r under;
            read = λ e. absurd (true≢false (sym unread ∙ e));
            marked = λ e h. absurd (true≢false (sym unread ∙ e));
            serves = λ x also signals e. of_call unique r under mine x also;
          }) refl refl (omega arith);
          numbered = marks_same unique mark.Flagged;
        }
    effect unique r under mine Queued is = record {
      follows = remarked k (record k { queues = after_effect k.queues unique Queued }) unique r.mark mark.Interrupted (record {
        found = marked_under unique r under;
        read = λ e. refl;
        marked = λ e h. refl;
        serves = λ x also signals e. of_call unique r under mine x also;
      }) refl refl (omega arith);
      numbered = let marks = marks_same unique mark.Interrupted in
          record { calls_below = marks.calls_below; one_request = marks.one_request };
    }
    effect unique r under mine NoEffect is = stays_same

    by : (o : Option ℕ) → request_of k call ≡ o → GoesOn k (signalled_at k call state fatal o).1
    by None e = stays_same
    by (Some unique) e =
        let found = found_entry (λ (x : ℕ × QueuedRequest Purpose). is_for call x.1.kept) k.queues.requests unique
        (once_each k.queues one unique) e in
        let effect_is : interrupt_effect k.queues unique fatal ≡ signal_effect found.0.mark fatal k.queues.interrupts_off =
        ap (λ (o : Option (QueuedRequest Purpose)). option_map_or
        (λ r. signal_effect r.mark fatal k.queues.interrupts_off) o NoEffect) found.1 in
        effect unique found.0 found.1 found.2 (interrupt_effect k.queues unique fatal) (sym effect_is)
