-- What the kernel does keeps its calls and their requests in order.
use Rattle.std.proofs.Common.{◌≡◌, ℕ, ◌+◌, ◌≤◌, ◌<◌, Bool, true, false, cond, Option, Some, None, nat_eq, is_some, count_by, refl, ap, sym, subst, ◌∙◌, arith, inl, inr}
use Rattle.std.specs.Prelude.{nat_lt}
use Rattle.std.specs.List.{list_any}
use Rattle.std.specs.Map.{remove_entry}
use Rattle.std.specs.Option.{option_map_or}
use Rattle.std.proofs.lemmas.Bool.{cases_eq}
use Rattle.std.proofs.lemmas.Bool.Decides.{nat_tests}
use Rattle.fuse_spec.specs.declared.IntrEffect.{IntrEffect}
use Rattle.fuse_spec.specs.declared.IntrEffect.TheVariants.{Dequeued, Flagged, Queued, None as NoEffect}
use Rattle.fuse_spec.specs.declared.InterruptReply.{InterruptReply}
use Rattle.fuse_spec.specs.declared.InterruptReplyEffect.{InterruptReplyEffect}
use Rattle.fuse_spec.specs.declared.InterruptReplyEffect.TheVariants.{QueuedAgain, TurnedOff, None as NoReplyEffect}
use Rattle.fuse_spec.specs.declared.Mark.{Mark}
use Rattle.fuse_spec.specs.declared.Mark.TheVariants as mark
use Rattle.fuse_spec.specs.declared.Opened.{Opened}
use Rattle.fuse_spec.specs.declared.Purpose.{Purpose}
use Rattle.fuse_spec.specs.declared.Purpose.TheVariants as purpose
use Rattle.fuse_spec.specs.declared.QueuedRequest.{QueuedRequest}
use Rattle.fuse_spec.specs.Calls.Answers.{Answer}
use Rattle.fuse_spec.specs.Calls.Answers as answer
use Rattle.fuse_spec.specs.Calls.Calls.{Call}
use Rattle.fuse_spec.specs.Calls.CallReplies.{call_replied}
use Rattle.fuse_spec.specs.Values.Maps.{get, put}
use Rattle.fuse_spec.specs.Kernel.Messages.{WireReply}
use Rattle.fuse_spec.specs.Files.Operations.{files_in_reply}
use Rattle.fuse_spec.specs.Calls.Vfs.{CallState, walking, doing, using, asked, answered, begun}
use Rattle.fuse_spec.specs.Kernel.Queues.{QueueState, IsSound, request_under, mark_under}
use Rattle.fuse_spec.specs.Kernel.QueueCalls.{after_enqueue, after_effect, after_reading, after_reply_effect, after_interrupt_reply, interrupt_effect, without}
use Rattle.fuse_spec.specs.Kernel.Signals.{reply_effect}
use Rattle.fuse_spec.specs.Kernel.Kernel.{Kernel, is_aborted, is_for, is_used, request_of, advanced, released, released_if_idle, after_use, closed_by, closing_of, call_begun, after_signal, signalled_at, call_signalled}
use Rattle.fuse_spec.specs.Kernel.Replies.{kernel_reply, looked_up, Use, usable, unusable, stale, goes_with, judged, replied, replied_to_call, reply_received, without_stale, reply_judged, use_of_reply}
use Rattle.fuse_spec.proofs.QueueCounts.{count_by-push}
use Rattle.fuse_spec.proofs.QueueReadings.{key_count-le-one}
use Rattle.fuse_spec.proofs.Tables.{get_gone_here, get_gone_there}
use Rattle.fuse_theorem.specs.Numbering.{requests_for}
use Rattle.fuse_theorem.proofs.Calls.Advancing.{begun_alone, call_replied_alone}
use Rattle.fuse_theorem.proofs.Calls.Finding.{count_left, count_less, found_entry}
use Rattle.fuse_theorem.proofs.Lists.SetMarks.{count_marked}
use Rattle.fuse_theorem.proofs.Requests.Numbered.{CallsNumbered, calls_advanced}

-- ---- the queues alone

-- Queues with no more requests of any call.
requeued : (k : Kernel) → CallsNumbered k → (q : QueueState Purpose)
    → ((c : ℕ) → requests_for c q ≤ requests_for c k.queues) → CallsNumbered (record k { queues = q })
requeued k numbered q fewer = record {
  calls_below = numbered.calls_below;
  one_request = λ c.
      let few = fewer c in
      let one = numbered.one_request c in
      omega (arith, few, one);
}

released_for : (q : QueueState Purpose) (o : Opened) (c : ℕ)
    → requests_for c (after_enqueue q (purpose.Release o)) ≤ requests_for c q
released_for q o c =
    let pushed : requests_for c (after_enqueue q (purpose.Release o)) ≡ requests_for c q + 0 =
    count_by-push (λ (e : ℕ × QueuedRequest Purpose). is_for c e.1.kept) q.requests
    (q.next, record { mark = mark.Unread; kept = purpose.Release o }) in
    omega (arith, pushed)

pub without_numbered : (k : Kernel) → CallsNumbered k → (unique : ℕ)
    → CallsNumbered (record k { queues = without k.queues unique })
without_numbered k numbered unique = requeued k numbered (without k.queues unique)
    (λ c. count_less (λ (e : ℕ × QueuedRequest Purpose). is_for c e.1.kept) unique k.queues.requests)

-- The one request of a call ends.
pub none_left : (k : Kernel) → CallsNumbered k → (call unique : ℕ) (r : QueuedRequest Purpose)
    → request_under k.queues unique ≡ Some r → is_for call r.kept ≡ true
    → count_by (λ (e : ℕ × QueuedRequest Purpose). is_for call e.1.kept)
    (remove_entry (nat_eq unique) k.queues.requests) ≡ 0
none_left k numbered call unique r under mine =
    let left = count_by (λ (e : ℕ × QueuedRequest Purpose). is_for call e.1.kept)
    (remove_entry (nat_eq unique) k.queues.requests) in
    let total : left + 1 ≡ requests_for call k.queues =
    subst (λ (b : Bool). left + cond b 1 0 ≡ requests_for call k.queues) mine
    (count_left (λ (e : ℕ × QueuedRequest Purpose). is_for call e.1.kept) unique r k.queues.requests under) in
    at_most (is_some (get k.vfs.calls call)) (numbered.one_request call) total
  where
    at_most : {a b : ℕ} (t : Bool) → b ≤ cond t 1 0 → a + 1 ≡ b → a ≡ 0
    at_most true le e = omega (arith, le, e)
    at_most false le e = absurd (omega (arith, le, e))

-- A pending request is read.
reading_for : (q : QueueState Purpose) (unique : ℕ) (m : Mark) (c : ℕ)
    → requests_for c (after_reading q unique m) ≤ requests_for c q
reading_for q unique mark.Unread c = let same = count_marked c unique mark.Read q.requests in omega (arith, same)
reading_for q unique mark.Flagged c = let same =
    count_marked c unique mark.Interrupted q.requests in omega (arith, same)
reading_for q unique mark.Read c = omega arith
reading_for q unique mark.Interrupted c = omega arith

pub read_numbered : (k : Kernel) → CallsNumbered k → (o : Option (ℕ × QueuedRequest Purpose))
    → CallsNumbered (record k { queues = option_map_or (λ e. after_reading k.queues e.0 e.1.mark) o k.queues })
read_numbered k numbered None = numbered
read_numbered k numbered (Some e) = requeued k numbered (after_reading k.queues e.0 e.1.mark)
    (reading_for k.queues e.0 e.1.mark)

-- An INTERRUPT is replied to.
pub interrupt_replied_numbered : (k : Kernel) → CallsNumbered k → (unique : ℕ) (reply : InterruptReply)
    → CallsNumbered (record k { queues = after_interrupt_reply k.queues unique reply })
interrupt_replied_numbered k numbered unique reply = by (mark_under k.queues unique)
  where
    effect : (x : InterruptReplyEffect) → CallsNumbered (record k { queues = after_reply_effect k.queues unique x })
    effect QueuedAgain = record { calls_below = numbered.calls_below; one_request = numbered.one_request }
    effect TurnedOff = record { calls_below = numbered.calls_below; one_request = numbered.one_request }
    effect NoReplyEffect = numbered

    by : (o : Option Mark) → CallsNumbered (record k {
      queues =
          option_map_or (λ m. after_reply_effect k.queues unique
          (reply_effect reply m (list_any (nat_eq unique) k.queues.interrupts) k.queues.interrupts_off)) o k.queues;
    })
    by None = numbered
    by (Some m) = effect (reply_effect reply m (list_any (nat_eq unique) k.queues.interrupts) k.queues.interrupts_off)

-- ---- open files

idle_numbered : (k : Kernel) → CallsNumbered k → (open_call : ℕ) → CallsNumbered (released_if_idle k open_call)
idle_numbered k numbered open_call = by (get k.closing open_call)
  where
    unless_used : (b : Bool) (o : Opened) (c : ℕ) → requests_for c
        (cond b k.queues (after_enqueue k.queues (purpose.Release o))) ≤ requests_for c k.queues
    unless_used true o c = omega arith
    unless_used false o c = released_for k.queues o c

    by : (o : Option Opened) → CallsNumbered (released k open_call o)
    by None = numbered
    by (Some o) = record {
      calls_below = numbered.calls_below;
      one_request = λ c.
          let few = unless_used (is_used k open_call) o c in
          let one = numbered.one_request c in
          omega (arith, few, one);
    }

used_numbered : (k : Kernel) → CallsNumbered k → (state : CallState Opened) → CallsNumbered (after_use k state)
used_numbered k numbered (walking d word words plan) = numbered
used_numbered k numbered (doing operation) = numbered
used_numbered k numbered (using open_call operation) = idle_numbered k numbered open_call

-- ---- calls

-- A call whose request has ended is answered.
answered_numbered : (k : Kernel) → CallsNumbered k → (call : ℕ) (a : Answer) → requests_for call k.queues ≡ 0
    → CallsNumbered (record k { vfs = answered k.vfs call a })
answered_numbered k numbered call a none = record {
  calls_below = λ c le. gone c (numbered.calls_below c le);
  one_request = λ c. elim (cases_eq c call) [
    | inl e ↦ let mine : requests_for c k.queues ≡ 0 =
        subst (λ (n : ℕ). requests_for n k.queues ≡ 0) (sym e) none in omega (arith, mine)
    | inr ne ↦ subst (λ (o : Option (CallState Opened)). requests_for c k.queues ≤ cond (is_some o) 1 0)
        (sym (get_gone_there k.vfs.calls call c ne)) (numbered.one_request c)
  ];
}
  where
    gone : (c : ℕ) → get k.vfs.calls c ≡ None → get (answered k.vfs call a).calls c ≡ None
    gone c there = elim (cases_eq c call) [
      | inl e ↦ subst (λ (n : ℕ). get (answered k.vfs call a).calls n ≡ None) (sym e) (get_gone_here k.vfs.calls call)
      | inr ne ↦ get_gone_there k.vfs.calls call c ne ∙ there
    ]

-- no request serves a call that has not begun
none_coming : (k : Kernel) → CallsNumbered k → requests_for k.vfs.next_call k.queues ≡ 0
none_coming k numbered =
    let call = k.vfs.next_call in
    let few : requests_for call k.queues ≤ 0 = subst (λ (b : Bool). requests_for call k.queues ≤ cond b 1 0)
    (ap is_some (numbered.calls_below call (omega arith))) (numbered.one_request call) in
    omega (arith, few)

pub begun_numbered : (k : Kernel) → CallsNumbered k → (call : Call) → CallsNumbered (call_begun k call)
begun_numbered k numbered call =
    let next = begun (is_aborted k.phase) k.vfs call in
    closes_one (advanced k k.vfs.next_call next) (calls_advanced k numbered (k.vfs.next_call + 1) k.vfs.next_call next
    (none_coming k numbered) (begun_alone (is_aborted k.phase) k.vfs call) (omega arith) (omega arith))
    (cond (is_aborted k.phase) None (closed_by k.vfs.opens call))
  where
    closes_one : (q : Kernel) → CallsNumbered q → (file : Option (ℕ × Opened)) → CallsNumbered (closing_of q file)
    closes_one q calls None = calls
    closes_one q calls (Some file) = idle_numbered (record q { closing = put q.closing file.0 file.1 })
        (record { calls_below = calls.calls_below; one_request = calls.one_request }) file.0

-- A signal reaches a call, and its request if it has one.
pub signalled_numbered : (k : Kernel) → IsSound k.queues → CallsNumbered k
    → (call : ℕ) (state : CallState Opened) (fatal : Bool) → CallsNumbered (call_signalled k call state fatal).1
signalled_numbered k sound numbered call state fatal = by (request_of k call) refl
  where
    effect : (unique : ℕ) (r : QueuedRequest Purpose) → request_under k.queues unique ≡ Some r
        → is_for call r.kept ≡ true → (x : IntrEffect) → CallsNumbered
        (after_signal (record k { queues = after_effect k.queues unique x }) call state x)
    effect unique r under mine Dequeued =
        let k1 = record k { queues = after_effect k.queues unique Dequeued } in
        let numbered1 = requeued k numbered (after_effect k.queues unique Dequeued)
        (λ c. count_less (λ (e : ℕ × QueuedRequest Purpose). is_for c e.1.kept) unique k.queues.requests) in
        used_numbered (record k1 { vfs = answered k.vfs call (answer.failed 4) })
        (answered_numbered k1 numbered1 call (answer.failed 4)
        (none_left k numbered call unique r under mine)) state
    effect unique r under mine Flagged =
        requeued k numbered (after_effect k.queues unique Flagged)
        (λ c. let same = count_marked c unique mark.Flagged k.queues.requests in omega (arith, same))
    effect unique r under mine Queued =
        requeued k numbered (after_effect k.queues unique Queued)
        (λ c. let same = count_marked c unique mark.Interrupted k.queues.requests in omega (arith, same))
    effect unique r under mine NoEffect = numbered

    by : (o : Option ℕ) → request_of k call ≡ o → CallsNumbered (signalled_at k call state fatal o).1
    by None e = numbered
    by (Some unique) e =
        let found = found_entry (λ (x : ℕ × QueuedRequest Purpose). is_for call x.1.kept) k.queues.requests unique
        (key_count-le-one k.queues unique sound) e in
        effect unique found.0 found.1 found.2 (interrupt_effect k.queues unique fatal)

-- A reply reaches a call, whose request has ended.
pub replied_numbered : (k : Kernel) → CallsNumbered k → (call : ℕ) (wire : WireReply) (o : Option (CallState Opened))
    → get k.vfs.calls call ≡ o → requests_for call k.queues ≡ 0 → CallsNumbered (replied_to_call k call wire o).1
replied_numbered k numbered call wire None there none = numbered
replied_numbered k numbered call wire (Some state) there none = by (goes_with (asked state) wire)
  where
    low : call < k.vfs.next_call
    low = begun_one (nat_lt call k.vfs.next_call) refl
      where
        begun_one : (b : Bool) → nat_lt call k.vfs.next_call ≡ b → call < k.vfs.next_call
        begun_one true e = grind (arith, nat_tests, e)
        begun_one false e = absurd (cc (there, numbered.calls_below call (grind (arith, nat_tests, e))))

    judged_numbered : (x : WireReply) (u : Use) → CallsNumbered (judged (without_stale k wire) call state x u)
    judged_numbered x usable =
        let next = call_replied k.vfs call state (kernel_reply (asked state) x) in
        calls_advanced (record (without_stale k wire) { nodes = looked_up k.nodes (files_in_reply x) })
        (record {
          calls_below = numbered.calls_below;
          one_request =
              numbered.one_request;
        }) k.vfs.next_call call next none
        (call_replied_alone k.vfs call state (kernel_reply (asked state) x)) low (omega arith)
    judged_numbered x unusable = let calls = answered_numbered k numbered call (answer.failed 5) none in
        record { calls_below = calls.calls_below; one_request = calls.one_request }
    judged_numbered x (stale node) = let calls = answered_numbered k numbered call (answer.failed 5) none in
        record { calls_below = calls.calls_below; one_request = calls.one_request }

    by : (b : Bool) → CallsNumbered (replied k call state b wire).1
    by true = used_numbered (reply_received k call state wire)
        (judged_numbered (reply_judged k.nodes wire) (use_of_reply k.nodes wire)) state
    by false = used_numbered (record k { vfs = answered k.vfs call (answer.failed 5) })
        (answered_numbered k numbered call (answer.failed 5) none) state
