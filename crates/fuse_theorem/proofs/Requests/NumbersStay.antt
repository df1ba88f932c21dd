-- The numbers of a live mount stay in order, whatever happens.
use Rattle.std.proofs.Common.{◌≡◌, ℕ, ◌+◌, ◌-◌, ◌≤◌, ◌<◌, Bool, true, false, true≢false, cond, List, [], ◌∷◌, ◌++◌, take, drop, Option, Some, None, Ok, nat_eq, slice_get, count_by, option_map, refl, ap, sym, subst, ◌∙◌, arith, inl, inr, All}
use Rattle.std.specs.Prelude.{◌%◌, nat_lt}
use Rattle.std.specs.List.{list_any, remove as without_at}
use Rattle.std.specs.Option.{option_map_or}
use Rattle.std.proofs.lemmas.Bool.Decides.{nat_tests}
use Rattle.std.proofs.lemmas.List.Elements.{All-push}
use Rattle.fuse_spec.specs.declared.InterruptReply.{InterruptReply}
use Rattle.fuse_spec.specs.declared.InterruptReplyEffect.{InterruptReplyEffect}
use Rattle.fuse_spec.specs.declared.InterruptReplyEffect.TheVariants.{QueuedAgain, TurnedOff, None as NoReplyEffect}
use Rattle.fuse_spec.specs.declared.Mark.{Mark}
use Rattle.fuse_spec.specs.declared.Mark.TheVariants as mark
use Rattle.fuse_spec.specs.declared.Phase.{Phase}
use Rattle.fuse_spec.specs.declared.Phase.TheVariants.{Down, Starting, Ready, Aborted}
use Rattle.fuse_spec.specs.declared.Purpose.{Purpose}
use Rattle.fuse_spec.specs.declared.Purpose.TheVariants as purpose
use Rattle.fuse_spec.specs.declared.QueuedRequest.{QueuedRequest}
use Rattle.fuse_spec.specs.declared.ReplyResult.{ReplyResult}
use Rattle.fuse_spec.specs.declared.WriteResult.{WriteResult}
use Rattle.fuse_spec.specs.declared.WriteResult.TheVariants.{Accepted, NoEntry, Invalid}
use Rattle.fuse_spec.specs.Calls.Calls.{Call, for_minor}
use Rattle.fuse_spec.specs.Values.Maps.{Map, get, put, remove}
use Rattle.fuse_spec.specs.Kernel.Messages.{Forget, Request, RequestBody, init, asks, release, forget, batch_forget, interrupt, WireReply}
use Rattle.fuse_spec.specs.Files.Operations.{done, failed}
use Rattle.fuse_spec.specs.Kernel.Uniques.{interrupt_number}
use Rattle.fuse_spec.specs.Kernel.Signals.{reply_effect}
use Rattle.fuse_spec.specs.Calls.Vfs.{begun, later}
use Rattle.fuse_spec.specs.Kernel.Queues.{QueueState, IsSound, empty_queues, is_unread, has_interrupt, pending, is_interrupted, request_under, mark_under}
use Rattle.fuse_spec.specs.Kernel.QueueCalls.{waiting, without, pending_at, can_read_forgets}
use Rattle.fuse_spec.specs.Kernel.QueueCalls as queues
use Rattle.fuse_spec.specs.Kernel.Kernel.{Kernel, is_live, is_aborted, is_for, kernel_aborted, advanced, closed_by, closing_of, call_signalled, call_put}
use Rattle.fuse_spec.specs.Server.Server.{Server, HeldRequest, Kept, Copy, without_unheld_files}
use Rattle.fuse_spec.specs.Server.Taking.{TakeResult, taking, interrupting}
use Rattle.fuse_spec.specs.Server.Performs.{performed, replying, served}
use Rattle.fuse_spec.specs.Server.Copies.{kept_after, sent_again, given_back, after_result}
use Rattle.fuse_spec.specs.Kernel.Replies.{is_agreement, ended_by, request_reply_written, interrupt_reply_written, interrupt_replied, reply_written, interrupt_reply_of, made_ready}
use Rattle.fuse_spec.specs.World.Worlds.{World, Sent, first_world, forget_body, after_call, world_after_read_interrupt, world_after_read_forgets, world_after_read_pending, after_take, after_perform, after_again, after_write, after_settle, after_drop, after_evict}
use Rattle.fuse_spec.specs.World.Worlds as worlds
use Rattle.fuse_spec.specs.World.Events.{Event, Outcome}
use Rattle.fuse_spec.specs.Kernel.Refusals.{is_ready}
use Rattle.fuse_spec.specs.World.Steps.{step}
use Rattle.fuse_spec.proofs.QueueCounts.{count_by-cons, key_count, key_count-found, lookup-no_key}
use Rattle.fuse_theorem.specs.Numbering.{IsNumbered, IsNumberedWhileLive}
use Rattle.fuse_theorem.proofs.Answers.Answered.{waiting_is}
use Rattle.fuse_theorem.proofs.Calls.CallNumbers.{none_left, without_numbered, read_numbered, interrupt_replied_numbered, begun_numbered, signalled_numbered, replied_numbered}
use Rattle.fuse_theorem.proofs.Calls.Finding.{same_is}
use Rattle.fuse_theorem.proofs.Requests.DrawnNumbers.{number_below, number_even}
use Rattle.fuse_theorem.proofs.Requests.AfterMount.{mounted_numbered}
use Rattle.fuse_theorem.proofs.Calls.CallsContinue.{GoesOn, begun_goes_on, signalled_goes_on, replied_goes_on}
use Rattle.fuse_theorem.proofs.RefusalCases.Happened.{Happened, by_mount, by_call, by_read_interrupt, by_read_forgets, by_read_pending, by_take, by_perform, by_again, by_write, by_settle, by_signal, by_tick, by_drop, by_evict, by_abort, happened}
use Rattle.fuse_theorem.proofs.Nodes.NodesSound.{put_found}
use Rattle.fuse_theorem.proofs.Requests.Numbered.{CallsNumbered}
use Rattle.fuse_theorem.proofs.Requests.PerformedRest.{performed_rest}
use Rattle.fuse_theorem.proofs.Refining.Queuing.{All-without, All-at}
use Rattle.fuse_theorem.proofs.Requests.QueuesSound.{stays_sound}
use Rattle.fuse_theorem.proofs.Refining.Settling.{kept_was, left_was}

-- ---- a kernel that goes on

pub calls_of : (w : World) → IsNumbered w → CallsNumbered w.kernel
calls_of w numbered = record { calls_below = numbered.calls_below; one_request = numbered.one_request }

-- The kernel moves, and its coming number does not fall.
kernel_numbered : (w : World) → IsNumbered w → is_live w.kernel.phase ≡ true → (k : Kernel)
    → w.kernel.queues.next ≤ k.queues.next → IsSound k.queues → CallsNumbered k → IsNumbered (record w { kernel = k })
kernel_numbered w numbered live k rises sound calls = record {
  queues = sound;
  calls_below = calls.calls_below;
  one_request = calls.one_request;
  sent_below = λ i r lt. let under = numbered.sent_below i r lt in omega (arith, under, rises);
  replies_below = λ i s lt. let under = numbered.replies_below i s lt in omega (arith, under, rises);
  held_below = λ _ u t at. let under = numbered.held_below live u t at in omega (arith, under, rises);
  kept_below = λ _ u k at. let under = numbered.kept_below live u k at in omega (arith, under, rises);
}

-- A live mount stays live.
still_live : (w : World) → is_live w.kernel.phase ≡ true → IsNumbered w → IsNumberedWhileLive w
still_live w live numbered = record { live = λ _. numbered; idle = λ dead. absurd (true≢false (sym live ∙ dead)) }

-- ---- requests are read

-- an INTERRUPT is queued for a request that stands
interrupted_stands : (q : QueueState Purpose) → IsSound q → (original : ℕ) (rest : List ℕ)
    → q.interrupts ≡ original ∷ rest → 1 ≤ key_count original q.requests
interrupted_stands q sound original rest there = by (nat_lt 0 (key_count original q.requests)) refl
  where
    few : count_by (nat_eq original) (original ∷ rest) ≤ cond (is_interrupted q original) 1 0
    few = subst (λ (xs : List ℕ). count_by (nat_eq original) xs ≤ cond (is_interrupted q original) 1 0) there
        (sound.interrupts original)

    counted : count_by (nat_eq original) (original ∷ rest)
        ≡ cond (nat_eq original original) 1 0 + count_by (nat_eq original) rest
    counted = count_by-cons (nat_eq original) original rest

    quiet : request_under q original ≡ None → is_interrupted q original ≡ false
    quiet none = ap (λ (o : Option (QueuedRequest Purpose)). option_map_or has_interrupt
        (option_map (λ (r : QueuedRequest Purpose). r.mark) o) false) none

    by : (b : Bool) → nat_lt 0 (key_count original q.requests) ≡ b → 1 ≤ key_count original q.requests
    by true e = grind (arith, nat_tests, e)
    by false e =
        let none = quiet (lookup-no_key original q.requests (grind (arith, nat_tests, e))) in
        let here = same_is original in
        absurd (grind (arith, few, counted, none, here))

module _ (w : World) (numbered : IsNumbered w) (live : is_live w.kernel.phase ≡ true) where
  read_interrupt : (original : ℕ) (rest : List ℕ) → w.kernel.queues.interrupts ≡ original ∷ rest
      → IsSound (world_after_read_interrupt w original).kernel.queues → IsNumbered (world_after_read_interrupt w original)
  read_interrupt original rest there sound = record {
    queues = sound;
    calls_below = numbered.calls_below;
    one_request = numbered.one_request;
    sent_below = All-push (λ (r : Request). r.unique < w.kernel.queues.next) w.requests
        (record { unique = interrupt_number original; body = interrupt original }) numbered.sent_below below;
    replies_below = numbered.replies_below;
    held_below = numbered.held_below;
    kept_below = numbered.kept_below;
  }
    where
      below : interrupt_number original < w.kernel.queues.next
      below =
          let stands = interrupted_stands w.kernel.queues numbered.queues original rest there in
          let low = number_below w.kernel.queues numbered.queues original stands in
          let even = number_even w.kernel.queues numbered.queues original stands in
          let coming = numbered.queues.next in
          let coming_even = coming.even in
          omega (arith, low, even, coming_even)

  read_forgets : (n : ℕ) (fs : List Forget) → can_read_forgets w.kernel.queues n ≡ true
      → IsSound (world_after_read_forgets w n fs).kernel.queues → IsNumbered (world_after_read_forgets w n fs)
  read_forgets n fs can = by (can_read_forgets w.kernel.queues n) can
    where
      by : (b : Bool) → b ≡ true → IsSound (cond b (record w.kernel.queues {
        forgets = drop n w.kernel.queues.forgets;
        next = w.kernel.queues.next + 2;
      }) w.kernel.queues)
          → IsNumbered (worlds.requesting (record w {
            kernel =
                record w.kernel {
                  queues = cond b (record w.kernel.queues {
                    forgets = drop n w.kernel.queues.forgets;
                    next = w.kernel.queues.next + 2;
                  }) w.kernel.queues;
                };
          }) w.kernel.queues.next (forget_body fs))
      by false e sound = absurd (true≢false (sym e))
      by true e sound = record {
        queues = sound;
        calls_below = numbered.calls_below;
        one_request = numbered.one_request;
        sent_below = All-push (λ (r : Request). r.unique < w.kernel.queues.next + 2) w.requests
            (record { unique = w.kernel.queues.next; body = forget_body fs })
            (λ i r lt. let under = numbered.sent_below i r lt in omega (arith, under)) (omega arith);
        replies_below = λ i s lt. let under = numbered.replies_below i s lt in omega (arith, under);
        held_below = λ _ u t at. let under = numbered.held_below live u t at in omega (arith, under);
        kept_below = λ _ u k at. let under = numbered.kept_below live u k at in omega (arith, under);
      }

  read_pending : (place unique : ℕ) (kept : Purpose) (body : RequestBody)
      → pending_at w.kernel.queues place ≡ Some (unique, kept)
      → IsSound (world_after_read_pending w place unique body).kernel.queues
      → IsNumbered (world_after_read_pending w place unique body)
  read_pending place unique kept body there sound =
      let calls = read_numbered w.kernel (calls_of w numbered) (slice_get (pending w.kernel.queues) place) in
      let next = read_next (slice_get (pending w.kernel.queues) place) in
      let moved = kernel_numbered w numbered live (record w.kernel {
        queues =
            queues.after_read_pending w.kernel.queues place;
      }) (omega (arith, next)) sound calls in
      record {
        queues = moved.queues;
        calls_below = moved.calls_below;
        one_request = moved.one_request;
        sent_below = All-push (λ (r : Request). r.unique <
            (queues.after_read_pending w.kernel.queues place).next) w.requests
            (record { unique = unique; body = body }) moved.sent_below
            (omega (arith, next, low (slice_get (pending w.kernel.queues) place) refl there));
        replies_below = moved.replies_below;
        held_below = moved.held_below;
        kept_below = moved.kept_below;
      }
    where
      marked_next : (u : ℕ) (m : Mark) → (queues.after_reading w.kernel.queues u m).next ≡ w.kernel.queues.next
      marked_next u mark.Unread = refl
      marked_next u mark.Flagged = refl
      marked_next u mark.Read = refl
      marked_next u mark.Interrupted = refl

      read_next : (o : Option (ℕ × QueuedRequest Purpose))
          → (option_map_or (λ e. queues.after_reading w.kernel.queues e.0 e.1.mark) o w.kernel.queues).next
          ≡ w.kernel.queues.next
      read_next None = refl
      read_next (Some e) = marked_next e.0 e.1.mark

      low : (o : Option (ℕ × QueuedRequest Purpose)) → slice_get (pending w.kernel.queues) place ≡ o
          → option_map {U = ℕ × Purpose} (λ (e : ℕ × QueuedRequest Purpose). (e.0, e.1.kept)) o ≡ Some (unique, kept)
          → unique < w.kernel.queues.next
      low None at e = absurd (cc)
      low (Some x) at e =
          let pair : (x.0, x.1.kept) ≡ (unique, kept) = cc in
          let same : x.0 ≡ unique = ap (λ (y : ℕ × Purpose). y.0) pair in
          subst (λ (n : ℕ). n < w.kernel.queues.next) same
          (number_below w.kernel.queues numbered.queues x.0
          (key_count-found (λ (y : ℕ
          × QueuedRequest Purpose). is_unread y.1.mark) w.kernel.queues.requests place x at))

-- ---- the links and the server

-- The links and the server change, and the kernel does not.
module _ (w : World) (numbered : IsNumbered w) where
  abbrev Below : ℕ → Type 0
  Below unique = unique < w.kernel.queues.next

  links_numbered : (requests : List Request) (server : Server) (replies : List Sent) (results : List ReplyResult)
      → All (λ (r : Request). Below r.unique) requests → All (λ (s : Sent). Below s.unique) replies
      → (is_live w.kernel.phase ≡ true → (u : ℕ) (t : HeldRequest) → get server.held u ≡ Some t → Below u)
      → (is_live w.kernel.phase ≡ true → (u : ℕ) (k : Kept) → get server.kept u ≡ Some k → Below u)
      → IsNumbered (record w { requests = requests; server = server; replies = replies; results = results })
  links_numbered requests server replies results sent copies held kept = record {
    queues = numbered.queues;
    calls_below = numbered.calls_below;
    one_request = numbered.one_request;
    sent_below = sent;
    replies_below = copies;
    held_below = held;
    kept_below = kept;
  }

  sent_after : (number unique : ℕ) → Below unique → (wire : Option WireReply) (requests : List Request)
      (server : Server) → All (λ (r : Request). Below r.unique) requests
      → (is_live w.kernel.phase ≡ true → (u : ℕ) (t : HeldRequest) → get server.held u ≡ Some t → Below u)
      → (is_live w.kernel.phase ≡ true → (u : ℕ) (k : Kept) → get server.kept u ≡ Some k → Below u)
      → IsNumbered (worlds.copy_put (record w { requests = requests; server = server }) number unique wire)
  sent_after number unique low None requests server sent held kept =
      links_numbered requests server w.replies w.results sent numbered.replies_below held kept
  sent_after number unique low (Some wire) requests server sent held kept =
      links_numbered requests server (w.replies ++ record {
        number = number;
        unique = unique;
        wire = wire;
      } ∷ []) w.results sent
      (All-push (λ (s : Sent). Below s.unique) w.replies
      (record { number = number; unique = unique; wire = wire }) numbered.replies_below low) held kept

  -- one more is held, or held otherwise
  put_below : {X : Type 0} (m : Map X) (unique : ℕ) (x : X) → Below unique
      → ((u : ℕ) (t : X) → get m u ≡ Some t → Below u) → (u : ℕ) (t : X) → get (put m unique x) u ≡ Some t → Below u
  put_below m unique x low old u t at = elim (put_found m unique x u t at) [
    | inl h ↦ subst Below
        (sym h.0) low
    | inr h ↦ old u t h
  ]

  taken_numbered : (k : ℕ) (r : Request) → slice_get w.requests k ≡ Some r
      → IsNumbered (after_take w k r.unique (taking w.server r.unique r.body))
  taken_numbered k r there = by r.body
    where
      low : Below r.unique
      low = All-at (λ (x : Request). Below x.unique) w.requests k r numbered.sent_below there

      goes : (took : TakeResult) → (is_live w.kernel.phase ≡ true → (u : ℕ) (t : HeldRequest)
          → get took.server.held u ≡ Some t → Below u) → (is_live w.kernel.phase ≡ true → (u : ℕ) (x : Kept)
          → get took.server.kept u ≡ Some x → Below u)
          → IsNumbered (after_take w k r.unique took)
      goes took held kept = sent_after w.server.next_copy r.unique low took.reply (without_at w.requests k) took.server
          (All-without (λ (x : Request). Below x.unique) w.requests k numbered.sent_below) held kept

      interrupts : (original : ℕ) (h : Option HeldRequest) → get w.server.held original ≡ h → (o : Option Kept)
          → IsNumbered (after_take w k r.unique (interrupting w.server r.unique original h o))
      interrupts original (Some t) at o = goes (interrupting w.server r.unique original (Some t) o)
          (λ live. put_below w.server.held original (record t { marked = true })
          (numbered.held_below live original t at) (numbered.held_below live)) numbered.kept_below
      interrupts original None at (Some x) = goes (interrupting w.server r.unique original None
          (Some x)) numbered.held_below numbered.kept_below
      interrupts original None at None =
          goes (interrupting w.server r.unique original None None) numbered.held_below numbered.kept_below

      by : (body : RequestBody) → IsNumbered (after_take w k r.unique (taking w.server r.unique body))
      by (init flags) = goes (taking w.server r.unique (init flags))
          (λ live. put_below w.server.held r.unique _ low (numbered.held_below live)) numbered.kept_below
      by (asks operation) = goes (taking w.server r.unique (asks operation))
          (λ live. put_below w.server.held r.unique _ low (numbered.held_below live)) numbered.kept_below
      by (release o) = goes (taking w.server r.unique (release o))
          (λ live. put_below w.server.held r.unique _ low (numbered.held_below live)) numbered.kept_below
      by (forget f) = goes (taking w.server r.unique (forget f)) numbered.held_below numbered.kept_below
      by (batch_forget fs) = goes (taking w.server r.unique (batch_forget fs)) numbered.held_below numbered.kept_below
      by (interrupt original) = interrupts original (get w.server.held original) refl (get w.server.kept original)

  performed_numbered : (choice : ℕ → ℕ) (unique : ℕ) (t : HeldRequest) → get w.server.held unique ≡ Some t
      → is_live w.kernel.phase ≡ true → IsNumbered (after_perform w unique (served choice w.server unique t))
  performed_numbered choice unique t there live =
      let less = record w.server { held = remove w.server.held unique } in
      let did = performed choice less t in
      let rest = performed_rest choice less t in
      sent_after w.server.next_copy unique low (cond w.server.aborted None (Some did.wire)) w.requests
      (replying (without_unheld_files did.server) unique did.wire) numbered.sent_below
      (λ _ u x at. numbered.held_below live u x (left_was w.server.held unique u x
      (sym (ap (λ (m : Map HeldRequest). get m u) rest.held) ∙ at)))
      (λ _. kept_after_reply did.server did.wire did.server.aborted rest.kept)
    where
      low : Below unique
      low = numbered.held_below live unique t there

      kept_after_reply : (s : Server) (wire : WireReply) (b : Bool) → s.kept ≡ w.server.kept → (u : ℕ) (x : Kept)
          → get (cond b s.kept (put s.kept unique (record { wire = wire; first = s.next_copy }))) u ≡ Some x → Below u
      kept_after_reply s wire true same u x at = numbered.kept_below live u x
          (sym (ap (λ (m : Map Kept). get m u) same) ∙ at)
      kept_after_reply s wire false same u x at = put_below s.kept unique
          (record { wire = wire; first = s.next_copy }) low
          (λ v y there. numbered.kept_below live v y (sym (ap (λ (m : Map Kept). get m v) same) ∙ there)) u x at

  again_numbered : (unique : ℕ) (kept : Kept) → get w.server.kept unique ≡ Some kept → is_live w.kernel.phase ≡ true
      → IsNumbered (after_again w unique kept)
  again_numbered unique kept there live =
      sent_after w.server.next_copy unique (numbered.kept_below live unique kept there) (Some kept.wire) w.requests
      (sent_again w.server unique kept) numbered.sent_below numbered.held_below numbered.kept_below

  settled_numbered : (k : ℕ) (result : ReplyResult) (o : Option Copy) → IsNumbered (after_settle w k result o)
  settled_numbered k result None = links_numbered w.requests w.server w.replies
      (without_at w.results k) numbered.sent_below numbered.replies_below numbered.held_below numbered.kept_below
  settled_numbered k result (Some copy) = by result.result
    where
      kept : is_live w.kernel.phase ≡ true → (u : ℕ) (x : Kept)
          → get (kept_after w.server.kept copy (get w.server.kept copy.unique)) u ≡ Some x → Below u
      kept live u x at = numbered.kept_below live u x (kept_was w.server.kept copy
          (get w.server.kept copy.unique) u x at)

      less : Server
      less = record w.server {
        copies = remove w.server.copies result.number;
        kept = kept_after w.server.kept copy (get w.server.kept copy.unique);
      }

      by : (r : WriteResult) → IsNumbered (record w {
        results = without_at w.results k;
        server = after_result less copy.wire r;
      })
      by Accepted = links_numbered w.requests less w.replies
          (without_at w.results k) numbered.sent_below numbered.replies_below numbered.held_below kept
      by NoEntry = links_numbered w.requests (given_back less copy.wire) w.replies
          (without_at w.results k) numbered.sent_below numbered.replies_below numbered.held_below kept
      by Invalid = links_numbered w.requests (given_back less copy.wire) w.replies
          (without_at w.results k) numbered.sent_below numbered.replies_below numbered.held_below kept

-- ---- replies

-- What a reply makes of a live kernel: it goes on, or the mount is aborted.
pub data ReceivesReply (k : Kernel) (l : Kernel) : Type 0 where
  goes_on : is_live l.phase ≡ true → k.queues.next ≤ l.queues.next → CallsNumbered l → ReceivesReply k l
  ends : is_live l.phase ≡ false → l.queues ≡ empty_queues → l.nodes ≡ [] → ReceivesReply k l

module _ (k : Kernel) (live : is_live k.phase ≡ true) (sound : IsSound k.queues) (numbered : CallsNumbered k)
    (unique : ℕ) (wire : WireReply) where
  went : (l : Kernel) → GoesOn k l → CallsNumbered l → ReceivesReply k l
  went l goes calls = goes_on (ap is_live goes.phase ∙ live) goes.rises calls

  ended_received : (kept : Purpose) → waiting k.queues unique ≡ Some kept
      → ReceivesReply k (ended_by (record k { queues = without k.queues unique }) kept wire).1
  ended_received purpose.Init waits = by (is_agreement wire)
    where
      k1 : Kernel
      k1 = record k { queues = without k.queues unique }

      by : (b : Bool) → ReceivesReply k (cond b (made_ready k1 wire) (kernel_aborted k1))
      by true = let calls = without_numbered k numbered unique in
          goes_on refl (omega arith) (record { calls_below = calls.calls_below; one_request = calls.one_request })
      by false = ends refl refl refl
  ended_received (purpose.Release o) waits = went _ (record {
    phase = refl;
    minor = refl;
    lists_files = refl;
    rises = omega arith;
  }) (without_numbered k numbered unique)
  ended_received (purpose.Call call) waits =
      let k1 = record k { queues = without k.queues unique } in
      let request = waiting_is k.queues unique (purpose.Call call) waits in
      let mine : is_for call request.request.kept ≡ true =
      subst (λ (x : Purpose). is_for call x ≡ true) (sym request.serves) (same_is call) in
      let goes = replied_goes_on k1 call wire (get k.vfs.calls call) in
      went _ (record { phase = goes.phase; minor = goes.minor; lists_files = goes.lists_files; rises = goes.rises })
      (replied_numbered k1 (without_numbered k numbered unique) call wire (get k.vfs.calls call) refl
      (none_left k numbered call unique request.request request.under mine))

  pub written_received : ReceivesReply k (reply_written k unique wire).1
  written_received = by (nat_eq (unique % 2) 1)
    where
      even : (o : Option Purpose) → waiting k.queues unique ≡ o
          → ReceivesReply k (request_reply_written k unique wire o).1
      even None waits = went k (record { phase = refl; minor = refl; lists_files = refl; rises = omega arith }) numbered
      even (Some kept) waits = ended_received kept waits

      reply_next : (original : ℕ) (reply : InterruptReply)
          → (queues.after_interrupt_reply k.queues original reply).next ≡ k.queues.next
      reply_next original reply = named (mark_under k.queues original)
        where
          effect : (x : InterruptReplyEffect) → (queues.after_reply_effect k.queues original x).next ≡ k.queues.next
          effect QueuedAgain = refl
          effect TurnedOff = refl
          effect NoReplyEffect = refl

          named : (o : Option Mark) → (option_map_or (λ m. queues.after_reply_effect k.queues original
              (reply_effect reply m (list_any
              (nat_eq original) k.queues.interrupts) k.queues.interrupts_off)) o k.queues).next ≡ k.queues.next
          named None = refl
          named (Some m) = effect (reply_effect reply m (list_any
              (nat_eq original) k.queues.interrupts) k.queues.interrupts_off)

      interrupts : (x : WireReply) → ReceivesReply k (interrupt_replied k (unique - 1) x).1
      interrupts (failed errno) =
          let next = reply_next (unique - 1) (interrupt_reply_of errno) in
          went _ (record { phase = refl; minor = refl; lists_files = refl; rises = omega (arith, next) })
          (interrupt_replied_numbered k numbered (unique - 1) (interrupt_reply_of errno))
      interrupts done = went k (record { phase = refl; minor = refl; lists_files = refl; rises = omega arith }) numbered
      interrupts x = went k (record { phase = refl; minor = refl; lists_files = refl; rises = omega arith }) numbered

      odd : (o : Option Purpose) → ReceivesReply k (interrupt_reply_written k unique wire o).1
      odd None = went k (record { phase = refl; minor = refl; lists_files = refl; rises = omega arith }) numbered
      odd (Some kept) = interrupts wire

      by : (b : Bool) → ReceivesReply k (cond b (interrupt_reply_written k unique wire (waiting k.queues (unique - 1)))
          (request_reply_written k unique wire (waiting k.queues unique))).1
      by true = odd (waiting k.queues (unique - 1))
      by false = even (waiting k.queues unique) refl

-- A kernel without requests receives nothing.
pub unreceived : (k : Kernel) → k.queues ≡ empty_queues → (unique : ℕ) (wire : WireReply)
    → (reply_written k unique wire).1 ≡ k
unreceived k idle unique wire = by (nat_eq (unique % 2) 1)
  where
    none : (u : ℕ) → waiting k.queues u ≡ None
    none u = ap (λ (q : QueueState Purpose). waiting q u) idle

    by : (b : Bool) → (cond b (interrupt_reply_written k unique wire (waiting k.queues (unique - 1)))
        (request_reply_written k unique wire (waiting k.queues unique))).1 ≡ k
    by true = ap (λ (o : Option Purpose). (interrupt_reply_written k unique wire o).1) (none (unique - 1))
    by false = ap (λ (o : Option Purpose). (request_reply_written k unique wire o).1) (none unique)

-- ---- events

pub aborted_if_ready : (phase : Phase) → is_ready phase ≡ true → is_live phase ≡ false → is_aborted phase ≡ true
aborted_if_ready Down ready dead = ready
aborted_if_ready Starting ready dead = sym dead
aborted_if_ready Ready ready dead = sym dead
aborted_if_ready Aborted ready dead = refl

pub replying_kernel : (w : World) (number unique : ℕ) (o : Option WireReply)
    → (worlds.copy_put w number unique o).kernel ≡ w.kernel
replying_kernel w number unique None = refl
replying_kernel w number unique (Some wire) = refl

-- The kernel does not move.
beside : (w v : World) → IsNumberedWhileLive w → v.kernel ≡ w.kernel → (is_live w.kernel.phase ≡ true → IsNumbered v)
    → IsNumberedWhileLive v
beside w v numbered same goes = record {
  live = λ live. goes (sym (ap (λ (k : Kernel). is_live k.phase) same) ∙ live);
  idle = λ dead. ap (λ (k : Kernel). k.queues) same ∙ numbered.idle
      (sym (ap (λ (k : Kernel). is_live k.phase) same) ∙ dead);
}

module _ (w : World) (numbered : IsNumberedWhileLive w) where
  written_numbered : (k : ℕ) (sent : Sent) → (is_live w.kernel.phase ≡ true
      → IsSound (reply_written w.kernel sent.unique sent.wire).1.queues)
      → IsNumberedWhileLive (after_write w k sent (reply_written w.kernel sent.unique sent.wire))
  written_numbered k sent sound = by (is_live w.kernel.phase) refl
    where
      after : World
      after = after_write w k sent (reply_written w.kernel sent.unique sent.wire)

      reply_received : is_live w.kernel.phase ≡ true → ReceivesReply w.kernel after.kernel → IsNumberedWhileLive after
      reply_received live (goes_on still rises calls) =
          let moved = kernel_numbered w (numbered.live live) live after.kernel rises (sound live) calls in
          still_live after still (links_numbered (record w { kernel = after.kernel }) moved w.requests w.server
          (without_at w.replies k) after.results moved.sent_below
          (All-without (λ (s : Sent). s.unique < after.kernel.queues.next) w.replies k moved.replies_below) moved.held_below moved.kept_below)
      reply_received live (ends dead idle uncounted) =
          record { live = λ still. absurd (true≢false (sym still ∙ dead)); idle = λ _. idle }

      by : (b : Bool) → is_live w.kernel.phase ≡ b → IsNumberedWhileLive after
      by true live = let old = numbered.live live in reply_received live
          (written_received w.kernel live old.queues (calls_of w old) sent.unique sent.wire)
      by false dead = beside w after numbered (unreceived w.kernel (numbered.idle dead) sent.unique sent.wire)
          (λ live. absurd (true≢false (sym live ∙ dead)))

  moved_numbered : (k : Kernel) → is_live w.kernel.phase ≡ true → GoesOn w.kernel k → IsSound k.queues
      → CallsNumbered k → IsNumberedWhileLive (record w { kernel = k })
  moved_numbered k live goes sound calls = still_live (record w { kernel = k }) (ap is_live goes.phase ∙ live)
      (kernel_numbered w (numbered.live live) live k goes.rises sound calls)

  -- After an abort a call is answered at once.
  call_numbered : (call : Call) → is_ready w.kernel.phase ≡ true
      → (is_live w.kernel.phase ≡ true → IsSound (call_put w.kernel call).queues)
      → IsNumberedWhileLive (after_call w call)
  call_numbered call ready sound = by (is_live w.kernel.phase) refl
    where
      at_once : (b : Bool) → b ≡ true → (closing_of (advanced w.kernel w.kernel.vfs.next_call
          (begun b w.kernel.vfs (for_minor w.kernel.lists_files call)))
          (cond b None (closed_by w.kernel.vfs.opens (for_minor w.kernel.lists_files call)))).queues ≡ w.kernel.queues
      at_once true e = refl
      at_once false e = absurd (true≢false (sym e))

      goes : GoesOn w.kernel (call_put w.kernel call)
      goes = begun_goes_on w.kernel (for_minor w.kernel.lists_files call)

      by : (b : Bool) → is_live w.kernel.phase ≡ b → IsNumberedWhileLive (after_call w call)
      by true live = moved_numbered (call_put w.kernel call) live goes (sound live)
          (begun_numbered w.kernel (calls_of w (numbered.live live)) (for_minor w.kernel.lists_files call))
      by false dead = record {
        live = λ still. absurd (true≢false (sym still ∙ ap is_live goes.phase ∙ dead));
        idle = λ _. at_once (is_aborted w.kernel.phase)
            (aborted_if_ready w.kernel.phase ready dead) ∙ numbered.idle dead;
      }

  stay : (choice : ℕ → ℕ) (e : Event) (o : Outcome) (after : World) → Happened choice w e o after
      → (is_live w.kernel.phase ≡ true → IsSound after.kernel.queues) → IsNumberedWhileLive after
  stay choice e o after (by_mount f m v idle) sound =
      record { live = λ _. mounted_numbered w f m v; idle = λ dead. absurd (true≢false dead) }
  stay choice e o after (by_call call ready room within) sound = call_numbered call ready sound
  stay choice e o after (by_read_interrupt original rest live there within) sound =
      still_live (world_after_read_interrupt w original) live
      (read_interrupt w (numbered.live live) live original rest there (sound live))
  stay choice e o after (by_read_forgets n live free can within few) sound =
      let fs = take n w.kernel.queues.forgets in still_live (world_after_read_forgets w n fs) live
      (read_forgets w (numbered.live live) live n fs can (sound live))
  stay choice e o after (by_read_pending k unique kept body live free there says within) sound =
      still_live (world_after_read_pending w k unique body) live
      (read_pending w (numbered.live live) live k unique kept body there (sound live))
  stay choice e o after (by_take k r there within) sound =
      let took = taking w.server r.unique r.body in
      beside w (after_take w k r.unique took) numbered
      (replying_kernel (record w {
        requests = without_at w.requests k;
        server = took.server;
      }) w.server.next_copy r.unique took.reply)
      (λ live. taken_numbered w (numbered.live live) k r there)
  stay choice e o after (by_perform unique t there within) sound =
      let did = served choice w.server unique t in
      beside w (after_perform w unique did) numbered (replying_kernel
      (record w { server = did.server }) w.server.next_copy unique (cond w.server.aborted None (Some did.wire)))
      (λ live. performed_numbered w (numbered.live live) choice unique t there live)
  stay choice e o after (by_again unique kept there current within) sound =
      beside w (after_again w unique kept) numbered refl
      (λ live. again_numbered w (numbered.live live) unique kept there live)
  stay choice e o after (by_write k sent there within) sound = written_numbered k sent sound
  stay choice e o after (by_settle k result there) sound =
      let copy = get w.server.copies result.number in beside w (after_settle w k result copy) numbered refl
      (λ live. settled_numbered w (numbered.live live) k result copy)
  stay choice e o after (by_signal call fatal state live there within) sound =
      let old = numbered.live live in
      moved_numbered (call_signalled w.kernel call state fatal).1 live (signalled_goes_on w.kernel call state fatal)
      (sound live) (signalled_numbered w.kernel old.queues (calls_of w old) call state fatal)
  stay choice e o after (by_tick ms timely) sound = record {
    live = λ live.
        let old = numbered.live live in
        kernel_numbered w old live (record w.kernel { vfs = later w.kernel.vfs ms }) (omega arith) old.queues
        (record { calls_below = old.calls_below; one_request = old.one_request });
    idle = numbered.idle;
  }
  stay choice e o after (by_drop directory name bound live there) sound =
      let old = numbered.live live in moved_numbered (after_drop w directory name).kernel live
      (record { phase = refl; minor = refl; lists_files = refl; rises = omega arith }) (sound live)
      (record { calls_below = old.calls_below; one_request = old.one_request })
  stay choice e o after (by_evict node counted live there unused) sound =
      let old = numbered.live live in moved_numbered (after_evict w node counted).kernel live
      (record { phase = refl; minor = refl; lists_files = refl; rises = omega arith }) (sound live)
      (record { calls_below = old.calls_below; one_request = old.one_request })
  stay choice e o after (by_abort live) sound = record {
    live = λ still. absurd (true≢false (sym still));
    idle = λ _. refl;
  }

-- The numbers of a live mount stay in order, whatever the event.
pub numbers_stay : (choice : ℕ → ℕ) (w : World) → IsNumberedWhileLive w → (e : Event) (o : Outcome) (after : World)
    → step choice w e ≡ Ok (o, after) → IsNumberedWhileLive after
numbers_stay choice w numbered e o after stepped =
    stay w numbered choice e o after (happened choice w o after e stepped)
    (λ live. let old = numbered.live live in stays_sound choice w old.queues o after e stepped)

pub first_numbers : IsNumberedWhileLive first_world
first_numbers = record { live = λ live. absurd (true≢false (sym live)); idle = λ _. refl }
