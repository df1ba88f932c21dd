-- What is on the request link or held stays what the kernel asks, whatever the event.
use Rattle.fuse_spec.specs.Calls.Calls.{for_minor}
use Rattle.std.proofs.Common.{◌≡◌, ℕ, ◌+◌, ◌≤◌, ◌<◌, Bool, true, false, true≢false, cond, List, [], ◌∷◌, ◌++◌, drop, take, Option, Some, None, nat_eq, slice_get, count_by, option_map, refl, ap, sym, subst, ◌∙◌, arith, inl, inr, All}
use Rattle.std.specs.List.{remove as without_at}
use Rattle.std.specs.Option.{option_map_or}
use Rattle.std.specs.Map.{lookup}
use Rattle.std.proofs.lemmas.List.Elements.{All-nil, All-cons, All-push}
use Rattle.fuse_spec.specs.declared.Mark.{Mark}
use Rattle.fuse_spec.specs.declared.Mark.TheVariants as mark
use Rattle.fuse_spec.specs.declared.Opened.{Opened}
use Rattle.fuse_spec.specs.declared.Purpose.{Purpose}
use Rattle.fuse_spec.specs.declared.Purpose.TheVariants as purpose
use Rattle.fuse_spec.specs.declared.QueuedRequest.{QueuedRequest}
use Rattle.fuse_spec.specs.declared.ReplyResult.{ReplyResult}
use Rattle.fuse_spec.specs.declared.WriteResult.{WriteResult}
use Rattle.fuse_spec.specs.declared.WriteResult.TheVariants.{Accepted, NoEntry, Invalid}
use Rattle.fuse_spec.specs.Server.Copies.{kept_after, after_result}
use Rattle.fuse_spec.specs.Values.Maps.{Map, get, put, remove}
use Rattle.fuse_spec.specs.Kernel.Messages.{Forget, Request, RequestBody, init, asks, release, forget, batch_forget, interrupt, WireReply}
use Rattle.fuse_spec.specs.Kernel.Queues.{IsSound, is_unread, has_interrupt, is_signalled, is_interrupted, pending, request_under}
use Rattle.fuse_spec.specs.Kernel.QueueCalls.{after_reading, after_read_pending, can_read_forgets, pending_at}
use Rattle.fuse_spec.specs.Kernel.Uniques.{interrupt_number}
use Rattle.fuse_spec.specs.Calls.Vfs.{CallState}
use Rattle.fuse_spec.specs.Kernel.Kernel.{Kernel, is_live, asked_by, body_of}
use Rattle.fuse_spec.specs.Kernel.Replies.{reply_written}
use Rattle.fuse_spec.specs.Server.Server.{HeldRequest, Kept, Copy}
use Rattle.fuse_spec.specs.Server.Taking.{taking, interrupting}
use Rattle.fuse_spec.specs.Server.Performs.{served}
use Rattle.fuse_spec.specs.World.Worlds.{World, Sent, first_world, forget_body, copy_put, after_take, after_perform, after_write, after_settle}
use Rattle.fuse_spec.specs.World.Events.{Event, Outcome}
use Rattle.fuse_spec.specs.World.Steps.{Happens}
use Rattle.fuse_spec.proofs.QueueCounts.{count_by-cons, lookup-found}
use Rattle.fuse_spec.proofs.QueueReadings.{key_count-le-one}
use Rattle.fuse_theorem.specs.AskedRequests.{serves_call, IsAsked, IsInterrupted, SentAsked, HeldAsked, InitIsFirst, RequestsAsked, RequestsAskedWhileLive}
use Rattle.fuse_theorem.specs.Numbering.{IsNumbered}
use Rattle.fuse_theorem.specs.WorldSound.{WorldSound}
use Rattle.fuse_theorem.proofs.Calls.Finding.{same_is, All-found}
use Rattle.fuse_theorem.proofs.Calls.CallsContinue.{begun_goes_on}
use Rattle.fuse_theorem.proofs.RefusalCases.Happened.{Happened, by_mount, by_call, by_read_interrupt, by_read_forgets, by_read_pending, by_take, by_perform, by_again, by_write, by_settle, by_signal, by_tick, by_drop, by_evict, by_abort, happened}
use Rattle.fuse_theorem.proofs.Replies.KeptOnLink.{stays_absent}
use Rattle.fuse_theorem.proofs.Nodes.NodesSound.{put_found, left_found}
use Rattle.fuse_theorem.proofs.Requests.NumbersStay.{calls_of, unreceived}
use Rattle.fuse_theorem.proofs.Requests.PendingCounts.{moves_fewer}
use Rattle.fuse_theorem.proofs.Requests.PerformedRest.{performed_rest}
use Rattle.fuse_theorem.proofs.Requests.QueueMoves.{QueueMoves, read_moves, begun_moves, signalled_moves, written_moves}
use Rattle.fuse_theorem.proofs.Refining.Queuing.{All-without, All-at}
use Rattle.fuse_theorem.proofs.Requests.RequestsAsked.{request_even, request_below, moved_asked, written_asked}
use Rattle.fuse_theorem.proofs.Requests.AskKept.{Follows, ReachesCall, IsNumberedFor, asks_same, lookup_marked, unmoved, begun_follows, read_follows, signalled_follows}
use Rattle.fuse_theorem.proofs.Requests.AwaitedKept.{written_answers}

-- The kernel is the same, no request is new, and what is held is asked.
same_kernel : (w v : World) → RequestsAsked w → v.kernel ≡ w.kernel
    → All (λ (r : Request). SentAsked w.kernel r.unique r.body) v.requests
    → ((unique : ℕ) (t : HeldRequest) → get v.server.held unique ≡ Some t → HeldAsked w.kernel unique t)
    → RequestsAsked v
same_kernel w v old kernel sent held = record {
  sent = subst (λ (k : Kernel). All (λ (r : Request). SentAsked k r.unique r.body) v.requests) (sym kernel) sent;
  held = λ unique t at. subst (λ (k : Kernel). HeldAsked k unique t) (sym kernel) (held unique t at);
  signals = subst (λ (k : Kernel). All ReachesCall k.queues.requests) (sym kernel) old.signals;
  first = subst (λ (k : Kernel). InitIsFirst k.queues) (sym kernel) old.first;
}

replying_kernel : (w : World) (number unique : ℕ) (o : Option WireReply)
    → (copy_put w number unique o).kernel ≡ w.kernel
replying_kernel w number unique None = refl
replying_kernel w number unique (Some wire) = refl

-- One more request is on the link.
pushed : (w : World) → RequestsAsked w → (unique : ℕ) (body : RequestBody) → SentAsked w.kernel unique body
    → RequestsAsked (record w { requests = w.requests ++ record { unique = unique; body = body } ∷ [] })
pushed w old unique body new = record {
  sent = All-push
      (λ (r : Request). SentAsked w.kernel r.unique r.body) w.requests
      (record { unique = unique; body = body }) old.sent new;
  held = old.held;
  signals = old.signals;
  first = old.first;
}

-- ---- the server takes a request

module _ (w : World) (old : RequestsAsked w) (k : ℕ) (r : Request) (at_k : slice_get w.requests k ≡ Some r) where
  now_sent : All (λ (x : Request). SentAsked w.kernel x.unique x.body) (without_at w.requests k)
  now_sent = All-without (λ (x : Request). SentAsked w.kernel x.unique x.body) w.requests k old.sent

  was_sent : SentAsked w.kernel r.unique r.body
  was_sent = All-at (λ (x : Request). SentAsked w.kernel x.unique x.body) w.requests k r old.sent at_k

  -- it is held
  now_held : (new : HeldRequest) → new.marked ≡ false → IsAsked w.kernel r.unique new.body
      → (unique : ℕ) (t : HeldRequest) → get (put w.server.held r.unique new) unique ≡ Some t
      → HeldAsked w.kernel unique t
  now_held new unmarked asked_new unique t at = elim (put_found w.server.held r.unique new unique t at) [
    | inl h ↦
        subst (λ (n : ℕ). HeldAsked w.kernel n t) (sym h.0)
        (subst (λ (x : HeldRequest). HeldAsked w.kernel r.unique x) h.1
        (record { is_asked = asked_new; interrupted = λ e. absurd (true≢false (sym e ∙ unmarked)) }))
    | inr h ↦ old.held unique t h
  ]

  -- an INTERRUPT marks what is held
  now_marked : (original : ℕ) (t : HeldRequest) → get w.server.held original ≡ Some t → IsInterrupted w.kernel original
      → (unique : ℕ) (x : HeldRequest) → get (put w.server.held original (record t { marked = true })) unique ≡ Some x
      → HeldAsked w.kernel unique x
  now_marked original t there interrupted unique x at =
      elim (put_found w.server.held original (record t { marked = true }) unique x at) [
        | inl h ↦
            let before = old.held original t there in
            subst (λ (n : ℕ). HeldAsked w.kernel n x) (sym h.0)
            (subst (λ (y : HeldRequest). HeldAsked w.kernel original y) h.1
            (record { is_asked = before.is_asked; interrupted = λ e. interrupted }))
        | inr h ↦ old.held unique x h
      ]

  interrupts : (original : ℕ) → IsInterrupted w.kernel original → (h : Option HeldRequest)
      → get w.server.held original ≡ h → (o : Option Kept)
      → RequestsAsked (after_take w k r.unique (interrupting w.server r.unique original h o))
  interrupts original new (Some t) there o = same_kernel w
      (after_take w k r.unique (interrupting w.server r.unique original (Some t) o)) old refl now_sent
      (now_marked original t there new)
  interrupts original new None there (Some x) = same_kernel w
      (after_take w k r.unique (interrupting w.server r.unique original None (Some x))) old refl now_sent old.held
  interrupts original new None there None = same_kernel w
      (after_take w k r.unique (interrupting w.server r.unique original None None)) old refl now_sent old.held

  taken_asked : RequestsAsked (after_take w k r.unique (taking w.server r.unique r.body))
  taken_asked = by r.body was_sent
    where
      by : (body : RequestBody) → SentAsked w.kernel r.unique body
          → RequestsAsked (after_take w k r.unique (taking w.server r.unique body))
      by (init flags) new = same_kernel w (after_take w k r.unique
          (taking w.server r.unique (init flags))) old refl now_sent (now_held _ refl new)
      by (asks operation) new = same_kernel w (after_take w k r.unique
          (taking w.server r.unique (asks operation))) old refl now_sent (now_held _ refl new)
      by (release o) new = same_kernel w (after_take w k r.unique
          (taking w.server r.unique (release o))) old refl now_sent (now_held _ refl new)
      by (forget f) new = same_kernel w (after_take w k r.unique
          (taking w.server r.unique (forget f))) old refl now_sent old.held
      by (batch_forget fs) new = same_kernel w (after_take w k r.unique
          (taking w.server r.unique (batch_forget fs))) old refl now_sent old.held
      by (interrupt original) new = interrupts original new (get w.server.held original) refl
          (get w.server.kept original)

-- ---- the server performs and settles

performed_asked : (choice : ℕ → ℕ) (w : World) → RequestsAsked w → (unique : ℕ) (t : HeldRequest)
    → RequestsAsked (after_perform w unique (served choice w.server unique t))
performed_asked choice w old unique t = by (cond w.server.aborted None (Some (served choice w.server unique t).wire))
  where
    still_held : (u : ℕ) (x : HeldRequest) → get (served choice w.server unique t).server.held u ≡ Some x
        → HeldAsked w.kernel u x
    still_held u x at =
        let rest = performed_rest choice (record w.server { held = remove w.server.held unique }) t in
        old.held u x (left_found w.server.held unique u x (ap (λ (m : Map HeldRequest). get m u) (sym rest.held) ∙ at))

    by : (o : Option WireReply) → RequestsAsked (copy_put
        (record w { server = (served choice w.server unique t).server }) w.server.next_copy unique o)
    by None = same_kernel w (copy_put (record w {
      server =
          (served choice w.server unique t).server;
    }) w.server.next_copy unique None) old refl old.sent still_held
    by (Some wire) = same_kernel w (copy_put (record w {
      server =
          (served choice w.server unique t).server;
    }) w.server.next_copy unique (Some wire)) old refl old.sent still_held

settled_asked : (w : World) → RequestsAsked w → (k : ℕ) (result : ReplyResult) (o : Option Copy)
    → RequestsAsked (after_settle w k result o)
settled_asked w old k result None = same_kernel w (after_settle w k result None) old refl old.sent old.held
settled_asked w old k result (Some copy) = by result.result
  where
    by : (r : WriteResult) → RequestsAsked (record w {
      results = without_at w.results k;
      server = after_result (record w.server {
        copies = remove w.server.copies result.number;
        kept = kept_after w.server.kept copy (get w.server.kept copy.unique);
      }) copy.wire r;
    })
    by Accepted = record { sent = old.sent; held = old.held; signals = old.signals; first = old.first }
    by NoEntry = record { sent = old.sent; held = old.held; signals = old.signals; first = old.first }
    by Invalid = record { sent = old.sent; held = old.held; signals = old.signals; first = old.first }

-- ---- the kernel's requests are read

-- what the kernel asks of its own is neither a FORGET nor an INTERRUPT
sent_of : (l : Kernel) (unique : ℕ) (kept : Purpose) (body : RequestBody) → body_of l kept ≡ Some body
    → IsAsked l unique body → SentAsked l unique body
sent_of l unique kept (init flags) says new = new
sent_of l unique kept (asks operation) says new = new
sent_of l unique kept (release o) says new = new
sent_of l unique kept (forget f) says new = tt
sent_of l unique kept (batch_forget fs) says new = tt
sent_of l unique purpose.Init (interrupt original) says new = absurd (cc)
sent_of l unique (purpose.Release o) (interrupt original) says new = absurd (cc)
sent_of l unique (purpose.Call call) (interrupt original) says new = by (get l.vfs.calls call) says
  where
    by : (o : Option (CallState Opened)) → asked_by o ≡ Some (interrupt original) → IsInterrupted l original
    by None e = absurd (cc)
    by (Some state) e = absurd (cc)

module _ (w : World) (old : RequestsAsked w) (sound : IsSound w.kernel.queues) where
  -- the INTERRUPT at the head of the list is one of a request of a call
  first_interrupted : (original : ℕ) (rest : List ℕ) → w.kernel.queues.interrupts ≡ original ∷ rest
      → IsInterrupted w.kernel original
  first_interrupted original rest there = by (request_under w.kernel.queues original) refl
      (bears (is_interrupted w.kernel.queues original) (sound.interrupts original))
    where
      bears : (b : Bool) → count_by (nat_eq original) w.kernel.queues.interrupts ≤ cond b 1 0 → b ≡ true
      bears true le = refl
      bears false le =
          let first = count_by-cons (nat_eq original) original rest in
          let here = same_is original in
          let counted : count_by (nat_eq original) w.kernel.queues.interrupts
          ≡ cond (nat_eq original original) 1 0 + count_by (nat_eq original) rest =
          ap (count_by (nat_eq original)) there ∙ first in
          let one : ◌≡◌ {A = ℕ} (cond (nat_eq original original) 1 0) 1 = ap (λ (b : Bool). cond b 1 0) here in
          absurd (omega (arith, counted, one, le))

      signals : (m : Mark) → has_interrupt m ≡ true → is_signalled m ≡ true
      signals mark.Unread e = absurd (true≢false (sym e))
      signals mark.Flagged e = refl
      signals mark.Read e = absurd (true≢false (sym e))
      signals mark.Interrupted e = refl

      by : (o : Option (QueuedRequest Purpose)) → request_under w.kernel.queues original ≡ o
          → option_map_or has_interrupt (option_map (λ (x : QueuedRequest Purpose). x.mark) o) false ≡ true
          → IsInterrupted w.kernel original
      by None under e = absurd (true≢false (sym e))
      by (Some x) under e =
          let serves = All-found ReachesCall original w.kernel.queues.requests x old.signals under (signals x.mark e) in
          record {
            even = request_even w.kernel.queues sound original x under;
            allocated = request_below w.kernel.queues sound original x under;
            marked = λ r at. let same : x ≡ r = cc in subst (λ (y : QueuedRequest Purpose). has_interrupt y.mark
                ≡ true) same e;
            of_call = λ r at. let same : x ≡ r = cc in subst
                (λ (y : QueuedRequest Purpose). serves_call y.kept ≡ true) same serves;
          }

  read_one : (e : ℕ × QueuedRequest Purpose) (body : RequestBody) (m : Mark)
      → request_under w.kernel.queues e.0 ≡ Some e.1 → e.1.mark ≡ m → body_of w.kernel e.1.kept ≡ Some body
      → IsAsked (record w.kernel { queues = after_reading w.kernel.queues e.0 m }) e.0 body
  read_one e body mark.Unread under is says =
      let k = record w.kernel { queues = after_reading w.kernel.queues e.0 mark.Unread } in
      record {
        request = record { mark = mark.Read; kept = e.1.kept };
        under = lookup_marked e.0 mark.Read e.1 w.kernel.queues.requests under;
        read = refl;
        asks =
            asks_same w.kernel k e.1.kept refl ∙ says;
      }
  read_one e body mark.Flagged under is says =
      let k = record w.kernel { queues = after_reading w.kernel.queues e.0 mark.Flagged } in
      record {
        request = record { mark = mark.Interrupted; kept = e.1.kept };
        under = lookup_marked e.0 mark.Interrupted e.1 w.kernel.queues.requests under;
        read = refl;
        asks =
            asks_same w.kernel k e.1.kept refl ∙ says;
      }
  read_one e body mark.Read under is says = record { request = e.1; under = under; read = ap is_unread is; asks = says }
  read_one e body mark.Interrupted under is says =
      record { request = e.1; under = under; read = ap is_unread is; asks = says }

  -- What is read is asked: it was pending, and its mark says now that it was read.
  now_read : (place unique : ℕ) (kept : Purpose) (body : RequestBody)
      → pending_at w.kernel.queues place ≡ Some (unique, kept) → body_of w.kernel kept ≡ Some body
      → SentAsked (record w.kernel { queues = after_read_pending w.kernel.queues place }) unique body
  now_read place unique kept body there says = sent_of
      (record w.kernel { queues = after_read_pending w.kernel.queues place }) unique kept body
      (asks_same w.kernel (record w.kernel { queues = after_read_pending w.kernel.queues place }) kept refl ∙ says)
      (by (slice_get (pending w.kernel.queues) place) refl there)
    where
      by : (o : Option (ℕ × QueuedRequest Purpose)) → slice_get (pending w.kernel.queues) place ≡ o
          → option_map {U = ℕ × Purpose} (λ (e : ℕ × QueuedRequest Purpose). (e.0, e.1.kept)) o ≡ Some (unique, kept)
          → IsAsked (record w.kernel {
            queues = option_map_or
                (λ e. after_reading w.kernel.queues e.0 e.1.mark) o w.kernel.queues;
          }) unique body
      by None at f = absurd (cc)
      by (Some e) at f =
          let both : (e.0, e.1.kept) ≡ (unique, kept) = cc (f) in
          let under = lookup-found
          (λ (x : ℕ × QueuedRequest Purpose). is_unread x.1.mark) w.kernel.queues.requests place e at
          (key_count-le-one w.kernel.queues e.0 sound) in
          subst (λ (n : ℕ). IsAsked (record w.kernel { queues = after_reading w.kernel.queues e.0 e.1.mark }) n body)
          (ap (λ (x : ℕ × Purpose). x.0) both)
          (read_one e body e.1.mark under refl (ap (λ (x : ℕ × Purpose). body_of w.kernel x.1) both ∙ says))

-- ---- every event

module _ (choice : ℕ → ℕ) (w : World) (sound : WorldSound w) (before : RequestsAskedWhileLive w) where
  -- The kernel moves its requests.
  moved : is_live w.kernel.phase ≡ true → (l : Kernel) → Follows w.kernel l → QueueMoves w.kernel.queues l.queues
      → RequestsAsked (record w { kernel = l })
  moved live l follows moves =
      let fewer = moves_fewer w.kernel.queues l.queues moves in
      moved_asked w (before live) l follows fewer.rises
      (λ unique low none. stays_absent w.kernel.queues l.queues moves unique low none)

  numbered : is_live w.kernel.phase ≡ true → IsNumbered w
  numbered live = let lookups = sound.lookups in let numbers = lookups.numbers in numbers.live live

  -- the same requests of the same calls, under numbers that rise
  quiet : is_live w.kernel.phase ≡ true → (l : Kernel) → l.queues.requests ≡ w.kernel.queues.requests
      → l.vfs.calls ≡ w.kernel.vfs.calls → w.kernel.queues.next ≤ l.queues.next
      → RequestsAsked (record w { kernel = l })
  quiet live l requests calls rises = moved_asked w (before live) l (unmoved w.kernel l requests calls rises) rises
      (λ unique low none. ap (lookup (nat_eq unique)) requests ∙ none)

  written : (k : ℕ) (sent : Sent) → slice_get w.replies k ≡ Some sent
      → RequestsAskedWhileLive (after_write w k sent (reply_written w.kernel sent.unique sent.wire))
  written k sent at_k alive = by (is_live w.kernel.phase) refl
    where
      l : Kernel
      l = (reply_written w.kernel sent.unique sent.wire).1

      by : (b : Bool) → is_live w.kernel.phase ≡ b → RequestsAsked
          (after_write w k sent (reply_written w.kernel sent.unique sent.wire))
      by true live =
          let now = numbered live in
          let low = All-at (λ (s : Sent). s.unique < w.kernel.queues.next) w.replies k sent now.replies_below at_k in
          let moves = written_moves w.kernel sent.unique sent.wire alive in
          let fewer = moves_fewer w.kernel.queues l.queues moves in
          let asked_after = written_asked w (before live) sound.queues sound.requests k sent at_k l
          (written_answers w.kernel sound.queues (calls_of w now) sent.unique low sent.wire alive) fewer.rises
          (λ unique below none. stays_absent w.kernel.queues l.queues moves unique below none) in
          record {
            sent = asked_after.sent;
            held = asked_after.held;
            signals = asked_after.signals;
            first = asked_after.first;
          }
      by false dead =
          let lookups = sound.lookups in
          let numbers = lookups.numbers in
          absurd (true≢false (sym alive ∙ ap (λ (q : Kernel). is_live q.phase)
          (unreceived w.kernel (numbers.idle dead) sent.unique sent.wire) ∙ dead))

  forgets_requests : (n : ℕ) (b : Bool) → (cond b (record w.kernel.queues {
    forgets = drop n w.kernel.queues.forgets;
    next = w.kernel.queues.next + 2;
  }) w.kernel.queues).requests ≡ w.kernel.queues.requests
  forgets_requests n true = refl
  forgets_requests n false = refl

  forgets_rise : (n : ℕ) (b : Bool) → w.kernel.queues.next ≤
      (cond b (record w.kernel.queues {
        forgets = drop n w.kernel.queues.forgets;
        next = w.kernel.queues.next + 2;
      }) w.kernel.queues).next
  forgets_rise n true = omega arith
  forgets_rise n false = omega arith

  forgets_asked : (k : Kernel) (unique : ℕ) (fs : List Forget) → SentAsked k unique (forget_body fs)
  forgets_asked k unique [] = tt
  forgets_asked k unique (f ∷ []) = tt
  forgets_asked k unique (f ∷ g ∷ fs) = tt

  by_event : (e : Event) (o : Outcome) (after : World) → Happened choice w e o after → RequestsAskedWhileLive after
  by_event e o after (by_mount f m v idle) live = record {
    sent = All-nil (λ (r : Request). SentAsked after.kernel r.unique r.body);
    held = λ unique t at. absurd (cc);
    signals = All-cons ReachesCall _ [] (λ e. absurd (true≢false (sym e))) (All-nil ReachesCall);
    first = record { next = omega arith; entries = All-cons IsNumberedFor _ [] refl (All-nil IsNumberedFor) };
  }
  by_event e o after (by_call call ready room within) live =
      let goes = begun_goes_on w.kernel (for_minor w.kernel.lists_files call) in
      let lives : is_live w.kernel.phase ≡ true = ap is_live (sym goes.phase) ∙ live in
      moved lives after.kernel (begun_follows w.kernel (calls_of w (numbered lives))
      (for_minor w.kernel.lists_files call)) (begun_moves w.kernel (for_minor w.kernel.lists_files call))
  by_event e o after (by_read_interrupt original rest lives there within) live =
      let k1 = record w.kernel { queues = record w.kernel.queues { interrupts = drop 1 w.kernel.queues.interrupts } } in
      let w1 = record w { kernel = k1 } in
      let new = first_interrupted w (before lives) sound.queues original rest there in
      pushed w1 (quiet lives k1 refl refl (omega arith)) (interrupt_number original) (interrupt original)
      (record { even = new.even; allocated = new.allocated; marked = new.marked; of_call = new.of_call })
  by_event e o after (by_read_forgets n lives free can within few) live =
      let w1 = record w { kernel = after.kernel } in
      pushed w1 (quiet lives after.kernel (forgets_requests n (can_read_forgets w.kernel.queues n)) refl
      (forgets_rise n (can_read_forgets w.kernel.queues n))) w.kernel.queues.next
      (forget_body (take n w.kernel.queues.forgets))
      (forgets_asked after.kernel w.kernel.queues.next (take n w.kernel.queues.forgets))
  by_event e o after (by_read_pending k unique kept body lives free there says within) live =
      let w1 = record w { kernel = after.kernel } in
      pushed w1 (moved lives after.kernel (read_follows w.kernel sound.queues k)
      (read_moves w.kernel.queues sound.queues k)) unique body
      (now_read w (before lives) sound.queues k unique kept body there says)
  by_event e o after (by_take k r there within) live = taken_asked w (before (taken_live live)) k r there
    where
      taken_live : is_live (after_take w k r.unique (taking w.server r.unique r.body)).kernel.phase ≡ true
          → is_live w.kernel.phase ≡ true
      taken_live h = subst (λ (q : Kernel). is_live q.phase ≡ true)
          (replying_kernel (record w {
            requests = without_at w.requests k;
            server = (taking w.server r.unique r.body).server;
          }) w.server.next_copy r.unique
          (taking w.server r.unique r.body).reply) h
  by_event e o after (by_perform unique t there within) live =
      performed_asked choice w
      (before (subst (λ (q : Kernel). is_live q.phase ≡ true)
      (replying_kernel (record w { server = (served choice w.server unique t).server }) w.server.next_copy unique
      (cond w.server.aborted None (Some (served choice w.server unique t).wire))) live)) unique t
  by_event e o after (by_again unique kept there current within) live = let old =
      before live in record { sent = old.sent; held = old.held; signals = old.signals; first = old.first }
  by_event e o after (by_write k sent there within) live = written k sent there live
  by_event e o after (by_settle k result there) live =
      settled_asked w (before live) k result (get w.server.copies result.number)
  by_event e o after (by_signal call fatal state lives there within) live =
      moved lives after.kernel (signalled_follows w.kernel sound.queues (calls_of w (numbered lives)) call state fatal)
      (signalled_moves w.kernel call state fatal)
  by_event e o after (by_tick ms timely) live = quiet live after.kernel refl refl (omega arith)
  by_event e o after (by_drop directory name bound lives there) live = quiet lives after.kernel refl refl (omega arith)
  by_event e o after (by_evict node counted lives there unused) live = quiet lives after.kernel refl refl (omega arith)
  by_event e o after (by_abort lives) live = absurd (true≢false (sym live))

-- What is on the link or held is what the kernel asks, whatever the event.
pub requests_stay_asked : (w : World) → WorldSound w → RequestsAskedWhileLive w
    → (e : Event) (o : Outcome) (after : World) → Happens w e o after → RequestsAskedWhileLive after
requests_stay_asked w sound before e o after h = by_event h.0 w sound before e o after (happened h.0 w o after e h.2)

pub first_asked : RequestsAskedWhileLive first_world
first_asked live = absurd (true≢false (sym live))
