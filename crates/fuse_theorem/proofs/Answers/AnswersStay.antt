-- No call becomes both unanswered and answered, and a call whose answer was collected stays so, whatever happens.
use Rattle.std.proofs.Common.{◌≡◌, ◌≢◌, ℕ, ◌+◌, ◌-◌, ◌≤◌, ◌<◌, Bool, true, false, cond, [], ◌∷◌, Option, Some, None, length, nat_eq, refl, ap, sym, subst, ◌∙◌, arith, inl, inr}
use Rattle.std.specs.Prelude.{◌%◌, nat_lt}
use Rattle.std.specs.Ordering.{nat_cmp, eq_by_cmp}
use Rattle.std.specs.List.{remove as without_at}
use Rattle.std.proofs.lemmas.Bool.{cases_eq}
use Rattle.std.proofs.lemmas.Bool.Decides.{nat_tests}
use Rattle.fuse_spec.specs.declared.IntrEffect.{IntrEffect}
use Rattle.fuse_spec.specs.declared.IntrEffect.TheVariants.{Dequeued, Flagged, Queued, None as NoEffect}
use Rattle.fuse_spec.specs.declared.Opened.{Opened}
use Rattle.fuse_spec.specs.declared.Purpose.{Purpose}
use Rattle.fuse_spec.specs.declared.Purpose.TheVariants as purpose
use Rattle.fuse_spec.specs.Values.Maps.{Map, get, put}
use Rattle.fuse_spec.specs.Values.Numbers.{max_calls}
use Rattle.fuse_spec.specs.Calls.Answers.{Answer}
use Rattle.fuse_spec.specs.Calls.Answers as answer
use Rattle.fuse_spec.specs.Calls.Calls.{Call, for_minor}
use Rattle.fuse_spec.specs.Calls.CallReplies.{call_replied}
use Rattle.fuse_spec.specs.Kernel.Kernel.{Kernel, kernel_aborted, is_aborted, advanced, asking_for, released, released_if_idle, after_use, closed_by, closing_of, call_begun, after_signal, signalled_at, call_signalled, request_of}
use Rattle.fuse_spec.specs.Kernel.Messages.{WireReply}
use Rattle.fuse_spec.specs.Files.Operations.{Operation, done, failed, files_in_reply}
use Rattle.fuse_spec.specs.Kernel.QueueCalls.{waiting, without, after_interrupt, interrupt_effect}
use Rattle.fuse_spec.specs.Kernel.Queues.{QueueState}
use Rattle.fuse_spec.specs.Kernel.Replies.{kernel_reply, looked_up, Use, usable, unusable, stale, goes_with, is_agreement, judged, replied, replied_to_call, ended_by, request_reply_written, interrupt_reply_written, interrupt_replied, reply_written, reply_received, without_stale, reply_judged, use_of_reply, made_ready}
use Rattle.fuse_spec.specs.Calls.Vfs.{asked, CallState, walking, doing, using, Vfs, Advance, answered, begun, all_answered, abandoned}
use Rattle.fuse_spec.specs.Server.Taking.{taking}
use Rattle.fuse_spec.specs.Server.Performs.{served}
use Rattle.fuse_spec.specs.World.Worlds.{World, first_world}
use Rattle.fuse_spec.specs.World.Worlds as worlds
use Rattle.fuse_spec.specs.World.Events.{Event, Outcome}
use Rattle.fuse_spec.specs.World.Events as event
use Rattle.fuse_spec.specs.World.Records.{collected}
use Rattle.fuse_spec.specs.World.Steps.{Happens}
use Rattle.fuse_spec.proofs.Tables.{get_put}
use Rattle.fuse_theorem.specs.AnswersSound.{AnswersSound}
use Rattle.fuse_theorem.proofs.Calls.AnswerSteps.{ChangesOnly, ChangesCall, answered_changes, begun_changes, replied_changes}
use Rattle.fuse_theorem.proofs.RefusalCases.Happened.{Happened, by_mount, by_call, by_read_interrupt, by_read_forgets, by_read_pending, by_take, by_perform, by_again, by_write, by_settle, by_signal, by_tick, by_drop, by_evict, by_abort, happened}

-- A call that was answered, and whose answer is collected.
pub record IsCollected (c : Vfs Opened) (call : ℕ) : Type 0 where
  pub begun : call < c.next_call
  pub not_waiting : get c.calls call ≡ None
  pub no_answer : get c.answers call ≡ None

-- What becomes of the calls: all end, or they stay as they are, or one of them goes on or ends, or one begins where
-- that may be and there is room for it.
pub data CallsMove (begins : Bool) (c d : Vfs Opened) : Type 0 where
  all_end : d.calls ≡ [] → d.answers ≡ all_answered (answer.failed 103) c.calls c.answers → CallsMove begins c d
  all_stay : d.calls ≡ c.calls → d.answers ≡ c.answers → CallsMove begins c d
  one_goes_on : (call : ℕ) (state : CallState Opened) → get c.calls call ≡ Some state → get c.answers call ≡ None
      → ChangesCall c call d → CallsMove begins c d
  one_begins : begins ≡ true → length c.calls < max_calls → ((q : ℕ) → q ≢ c.next_call → get d.calls q ≡ get c.calls q)
      → CallsMove begins c d

-- The calls stay sound, and a call whose answer was collected stays so.
pub record CallsKept (begins : Bool) (c d : Vfs Opened) : Type 0 where
  pub sound : AnswersSound d
  pub still_collected : (call : ℕ) → IsCollected c call → IsCollected d call
  pub moves : CallsMove begins c d

-- Whether the event is a call.
abbrev pub begins_call : Event → Bool
begins_call (event.call call) = true
begins_call other = false

-- ---- the calls alone

module _ (c : Vfs Opened) (sound : AnswersSound c) where
  pub as_they_were : CallsKept false c c
  as_they_were = record { sound = sound; still_collected = λ call before. before; moves = all_stay refl refl }

  -- One call takes a step, which is not one whose answer was collected.
  stepped : (coming call : ℕ) (d : Vfs Opened) → ChangesOnly c.calls c.answers coming call d → call < coming
      → c.next_call ≤ coming → get c.answers call ≡ None → ((q : ℕ) → IsCollected c q → q ≢ call) → (begins : Bool)
      → CallsMove begins c d → CallsKept begins c d
  stepped coming call d alone low later none apart begins moves = record {
    sound = record {
      one = λ q a at. elim (cases_eq q call) [
        | inl e ↦ subst (λ (n : ℕ). get d.calls n ≡ None) (sym e)
            (alone.one none a (subst (λ (n : ℕ). get d.answers n ≡ Some a) e at))
        | inr ne ↦ alone.other_calls q ne ∙ sound.one q a (sym (alone.other_answers q ne) ∙ at)
      ];
      calls_below = λ q le.
          let high : coming ≤ q = subst (λ (n : ℕ). n ≤ q) alone.coming_call le in
          alone.other_calls q (λ e. absurd (omega (arith, e, high, low))) ∙ sound.calls_below q
          (omega (arith, later, high));
      answers_below = λ q le.
          let high : coming ≤ q = subst (λ (n : ℕ). n ≤ q) alone.coming_call le in
          alone.other_answers q (λ e. absurd (omega (arith, e, high, low))) ∙ sound.answers_below q
          (omega (arith, later, high));
    };
    still_collected = λ q before.
        let ne = apart q before in
        let begun = before.begun in
        record {
          begun = subst (λ (n : ℕ). q < n) (sym alone.coming_call) (omega (arith, begun, later));
          not_waiting = alone.other_calls q ne ∙ before.not_waiting;
          no_answer = alone.other_answers q ne ∙ before.no_answer;
        };
    moves = moves;
  }

  begins : (aborted : Bool) (call : Call) → length c.calls < max_calls → CallsKept true c (begun aborted c call).vfs
  begins aborted call room =
      let alone = begun_changes aborted c call in
      stepped (c.next_call + 1) c.next_call (begun aborted c call).vfs alone (omega arith) (omega arith)
      (sound.answers_below c.next_call (omega arith))
      (λ q before e. let low = before.begun in absurd (omega (arith, low, e))) true
      (one_begins refl room alone.other_calls)

  call_changes : (call : ℕ) (state : CallState Opened) → get c.calls call ≡ Some state → (d : Vfs Opened)
      → ChangesCall c call d → CallsKept false c d
  call_changes call state there d alone =
      stepped c.next_call call d alone (low (nat_lt call c.next_call) refl) (omega arith)
      (unanswered (get c.answers call) refl)
      (λ q before e. absurd (cc (there, subst (λ (n : ℕ). get c.calls n ≡ None) e before.not_waiting))) false
      (one_goes_on call state there (unanswered (get c.answers call) refl) alone)
    where
      low : (b : Bool) → nat_lt call c.next_call ≡ b → call < c.next_call
      low true e = grind (arith, nat_tests, e)
      low false e = absurd (cc (there, sound.calls_below call (grind (arith, nat_tests, e))))

      unanswered : (o : Option Answer) → get c.answers call ≡ o → get c.answers call ≡ None
      unanswered None e = e
      unanswered (Some a) e = absurd (cc (there, sound.one call a e))

-- The answers to calls that are not among these stay.
answers_left : (a : Answer) (calls : Map (CallState Opened)) (answers : Map Answer) (call : ℕ) → get calls call ≡ None
    → get (all_answered a calls answers) call ≡ get answers call
answers_left a [] answers call none = refl
answers_left a (e ∷ calls) answers call none = get_put (all_answered a calls answers) e.0 a call ∙ by
    (eq_by_cmp nat_cmp call e.0) none (answers_left a calls answers call)
  where
    by : (b : Bool) → cond b (Some e.1) (get calls call) ≡ None
        → (get calls call ≡ None → get (all_answered a calls answers) call ≡ get answers call)
        → cond b (Some a) (get (all_answered a calls answers) call) ≡ get answers call
    by true there rest = absurd (cc (there))
    by false there rest = rest there

-- Everything is abandoned: the unanswered calls are answered.
abandons : (c : Vfs Opened) → AnswersSound c → CallsKept false c (abandoned c)
abandons c sound = record {
  sound = record {
    one = λ call a at. refl;
    calls_below = λ call le. refl;
    answers_below = λ call le. answers_left (answer.failed 103) c.calls c.answers call
        (sound.calls_below call le) ∙ sound.answers_below call le;
  };
  still_collected = λ call before. record {
    begun = before.begun;
    not_waiting = refl;
    no_answer = answers_left (answer.failed 103) c.calls c.answers call before.not_waiting ∙ before.no_answer;
  };
  moves = all_end refl refl;
}

-- ---- the kernel beside its calls

pub advanced_vfs : (k : Kernel) (call : ℕ) (next : Advance Opened) → (advanced k call next).vfs ≡ next.vfs
advanced_vfs k call next = by next.operation
  where
    by : (o : Option (Operation ℕ Opened)) → (asking_for (record k { vfs = next.vfs }) call o).vfs ≡ next.vfs
    by None = refl
    by (Some operation) = refl

idle_vfs : (k : Kernel) (open_call : ℕ) → (released_if_idle k open_call).vfs ≡ k.vfs
idle_vfs k open_call = by (get k.closing open_call)
  where
    by : (o : Option Opened) → (released k open_call o).vfs ≡ k.vfs
    by None = refl
    by (Some x) = refl

pub used_vfs : (k : Kernel) (state : CallState Opened) → (after_use k state).vfs ≡ k.vfs
used_vfs k (walking d word words plan) = refl
used_vfs k (doing operation) = refl
used_vfs k (using open_call operation) = idle_vfs k open_call

pub closing_vfs : (k : Kernel) (file : Option (ℕ × Opened)) → (closing_of k file).vfs ≡ k.vfs
closing_vfs k None = refl
closing_vfs k (Some file) = idle_vfs (record k { closing = put k.closing file.0 file.1 }) file.0

module _ (k : Kernel) (sound : AnswersSound k.vfs) where
  -- A call begins.
  call_begins : (call : Call) → length k.vfs.calls < max_calls → CallsKept true k.vfs (call_begun k call).vfs
  call_begins call room =
      let next = begun (is_aborted k.phase) k.vfs call in
      let asking = advanced k k.vfs.next_call next in
      subst (λ (d : Vfs Opened). CallsKept true k.vfs d)
      (sym (closing_vfs asking (cond (is_aborted k.phase) None
      (closed_by k.vfs.opens call)) ∙ advanced_vfs k k.vfs.next_call next))
      (begins k.vfs sound (is_aborted k.phase) call room)

  -- A call is answered, and then its file released.
  used_after : (call : ℕ) (state : CallState Opened) → get k.vfs.calls call ≡ Some state → (q : Kernel)
      → ChangesCall k.vfs call q.vfs → CallsKept false k.vfs (after_use q state).vfs
  used_after call state there q alone = subst (λ (d : Vfs Opened). CallsKept false k.vfs d) (sym (used_vfs q state))
      (call_changes k.vfs sound call state there q.vfs alone)

  -- A signal reaches a call.
  call_signals : (call : ℕ) (state : CallState Opened) (fatal : Bool) → get k.vfs.calls call ≡ Some state
      → CallsKept false k.vfs (call_signalled k call state fatal).1.vfs
  call_signals call state fatal there = by (request_of k call)
    where
      effect : (unique : ℕ) (x : IntrEffect) → CallsKept false k.vfs
          (after_signal (record k { queues = after_interrupt k.queues unique fatal }) call state x).vfs
      effect unique Dequeued = used_after call state there
          (record k { queues = after_interrupt k.queues unique fatal; vfs = answered k.vfs call (answer.failed 4) })
          (answered_changes k.vfs call (answer.failed 4))
      effect unique Flagged = as_they_were k.vfs sound
      effect unique Queued = as_they_were k.vfs sound
      effect unique NoEffect = as_they_were k.vfs sound

      by : (o : Option ℕ) → CallsKept false k.vfs (signalled_at k call state fatal o).1.vfs
      by None = as_they_were k.vfs sound
      by (Some unique) = effect unique (interrupt_effect k.queues unique fatal)

  judged_changes : (q : QueueState Purpose) (call : ℕ) (state : CallState Opened) (wire : WireReply) (u : Use)
      → ChangesCall k.vfs call (judged (record k { queues = q }) call state wire u).vfs
  judged_changes q call state wire usable =
      let next = call_replied k.vfs call state (kernel_reply (asked state) wire) in
      subst (λ (d : Vfs Opened). ChangesCall k.vfs call d)
      (sym (advanced_vfs (record k { queues = q; nodes = looked_up k.nodes (files_in_reply wire) }) call next))
      (replied_changes k.vfs call state (kernel_reply (asked state) wire))
  judged_changes q call state wire unusable = answered_changes k.vfs call (answer.failed 5)
  judged_changes q call state wire (stale node) = answered_changes k.vfs call (answer.failed 5)

  -- A reply reaches a call.
  call_receives : (call : ℕ) (wire : WireReply) (o : Option (CallState Opened)) → get k.vfs.calls call ≡ o
      → CallsKept false k.vfs (replied_to_call k call wire o).1.vfs
  call_receives call wire None there = as_they_were k.vfs sound
  call_receives call wire (Some state) there = by (goes_with (asked state) wire)
    where
      by : (b : Bool) → CallsKept false k.vfs (replied k call state b wire).1.vfs
      by true = used_after call state there (reply_received k call state wire)
          (judged_changes (without_stale k wire).queues call state (reply_judged k.nodes wire)
          (use_of_reply k.nodes wire))
      by false = used_after call state there (record k { vfs = answered k.vfs call (answer.failed 5) })
          (answered_changes k.vfs call (answer.failed 5))

-- A reply is written.
reply_receives : (k : Kernel) → AnswersSound k.vfs → (unique : ℕ) (wire : WireReply)
    → CallsKept false k.vfs (reply_written k unique wire).1.vfs
reply_receives k sound unique wire = by (nat_eq (unique % 2) 1)
  where
    ended : (q : Kernel) (kept : Purpose) → AnswersSound q.vfs → CallsKept false q.vfs (ended_by q kept wire).1.vfs
    ended q purpose.Init s = agreed_or (is_agreement wire)
      where
        agreed_or : (b : Bool) → CallsKept false q.vfs (cond b (made_ready q wire) (kernel_aborted q)).vfs
        agreed_or true = as_they_were q.vfs s
        agreed_or false = abandons q.vfs s
    ended q (purpose.Release o) s = as_they_were q.vfs s
    ended q (purpose.Call call) s = call_receives q s call wire (get q.vfs.calls call) refl

    even : (o : Option Purpose) → CallsKept false k.vfs (request_reply_written k unique wire o).1.vfs
    even None = as_they_were k.vfs sound
    even (Some kept) = ended (record k { queues = without k.queues unique }) kept sound

    interrupts : (x : WireReply) → CallsKept false k.vfs (interrupt_replied k (unique - 1) x).1.vfs
    interrupts (failed errno) = as_they_were k.vfs sound
    interrupts done = as_they_were k.vfs sound
    interrupts x = as_they_were k.vfs sound

    odd : (o : Option Purpose) → CallsKept false k.vfs (interrupt_reply_written k unique wire o).1.vfs
    odd None = as_they_were k.vfs sound
    odd (Some kept) = interrupts wire

    by : (b : Bool) → CallsKept false k.vfs (cond b (interrupt_reply_written k unique wire
        (waiting k.queues (unique - 1))) (request_reply_written k unique wire (waiting k.queues unique))).1.vfs
    by true = odd (waiting k.queues (unique - 1))
    by false = even (waiting k.queues unique)

-- ---- events

-- A reply that goes out leaves the kernel as it is.
sent_off : (w : World) → AnswersSound w.kernel.vfs → (number unique : ℕ) (wire : Option WireReply)
    → CallsKept false w.kernel.vfs (worlds.copy_put w number unique wire).kernel.vfs
sent_off w sound number unique None = as_they_were w.kernel.vfs sound
sent_off w sound number unique (Some wire) = as_they_were w.kernel.vfs sound

-- The time and the cached names are no matter of the calls.
as_before : (c d : Vfs Opened) → AnswersSound c → d.calls ≡ c.calls → d.answers ≡ c.answers → d.next_call ≡ c.next_call
    → CallsKept false c d
as_before c d sound calls answers coming = record {
  sound = record {
    one = λ call a at. ap (λ (m : Map (CallState Opened)). get m call) calls ∙ sound.one call a
        (sym (ap (λ (m : Map Answer). get m call) answers) ∙ at);
    calls_below = λ call le. ap (λ (m : Map (CallState Opened)). get m call) calls ∙ sound.calls_below call
        (subst (λ (n : ℕ). n ≤ call) coming le);
    answers_below = λ call le. ap (λ (m : Map Answer). get m call) answers ∙ sound.answers_below call
        (subst (λ (n : ℕ). n ≤ call) coming le);
  };
  still_collected = λ call before. record {
    begun = subst (λ (n : ℕ). call < n) (sym coming) before.begun;
    not_waiting = ap (λ (m : Map (CallState Opened)). get m call) calls ∙ before.not_waiting;
    no_answer = ap (λ (m : Map Answer). get m call) answers ∙ before.no_answer;
  };
  moves = all_stay calls answers;
}

by_event : (choice : ℕ → ℕ) (w : World) → AnswersSound w.kernel.vfs → (e : Event) (o : Outcome) (after : World)
    → Happened choice w e o after → CallsKept (begins_call e) w.kernel.vfs after.kernel.vfs
by_event choice w s e o after (by_mount f m v idle) = abandons w.kernel.vfs s
by_event choice w s e o after (by_call call ready room within) =
    call_begins w.kernel s (for_minor w.kernel.lists_files call) (grind (arith, nat_tests, room))
by_event choice w s e o after (by_read_interrupt original rest live there within) = as_they_were w.kernel.vfs s
by_event choice w s e o after (by_read_forgets n live free can within few) = as_they_were w.kernel.vfs s
by_event choice w s e o after (by_read_pending k unique kept body live free there says within) =
    as_they_were w.kernel.vfs s
by_event choice w s e o after (by_take k q there within) =
    let took = taking w.server q.unique q.body in sent_off
    (record w { requests = without_at w.requests k; server = took.server }) s w.server.next_copy q.unique took.reply
by_event choice w s e o after (by_perform unique t there within) =
    let did = served choice w.server unique t in sent_off
    (record w { server = did.server }) s w.server.next_copy unique (cond w.server.aborted None (Some did.wire))
by_event choice w s e o after (by_again unique kept there current within) = as_they_were w.kernel.vfs s
by_event choice w s e o after (by_write k sent there within) = reply_receives w.kernel s sent.unique sent.wire
by_event choice w s e o after (by_settle k result there) = as_they_were w.kernel.vfs s
by_event choice w s e o after (by_signal call fatal state live there within) =
    call_signals w.kernel s call state fatal there
by_event choice w s e o after (by_tick ms timely) = as_before w.kernel.vfs after.kernel.vfs s refl refl refl
by_event choice w s e o after (by_drop directory name bound live there) =
    as_before w.kernel.vfs after.kernel.vfs s refl refl refl
by_event choice w s e o after (by_evict node counted live there unused) = as_they_were w.kernel.vfs s
by_event choice w s e o after (by_abort live) = abandons w.kernel.vfs s

-- The calls stay sound, and a call whose answer was collected stays so, whatever the event.
pub calls_stay : (w : World) → AnswersSound w.kernel.vfs → (e : Event) (o : Outcome) (after : World)
    → Happens w e o after → CallsKept (begins_call e) w.kernel.vfs after.kernel.vfs
calls_stay w sound e o after happens = by_event happens.0 w sound e o after (happened happens.0 w o after e happens.2)

-- So they do as all answers are collected.
pub collected_sound : (w : World) → AnswersSound w.kernel.vfs → AnswersSound (collected w).kernel.vfs
collected_sound w sound = record {
  one = λ call a at. absurd (cc (at));
  calls_below = sound.calls_below;
  answers_below = λ call le. refl;
}

pub first_sound : AnswersSound first_world.kernel.vfs
first_sound = record { one = λ call a at. refl; calls_below = λ call le. refl; answers_below = λ call le. refl }
