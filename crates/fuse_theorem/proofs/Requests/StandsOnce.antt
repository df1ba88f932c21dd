-- A request that is not performed stands once, whatever happens.
use Rattle.fuse_spec.specs.declared.Minor.{Minor}
use Rattle.std.proofs.Common.{◌≡◌, ℕ, ◌+◌, ◌≤◌, Bool, true, false, true≢false, cond, List, [], ◌∷◌, ◌++◌, take, drop, Option, Some, None, Ok, nat_eq, is_some, slice_get, get_or, count_by, option_map, refl, ap, sym, subst, ◌∙◌, arith, inl, inr}
use Rattle.std.specs.Prelude.{◌%◌, nat_lt}
use Rattle.std.specs.List.{remove as without_at}
use Rattle.std.proofs.lemmas.Bool.{cases_eq}
use Rattle.std.proofs.lemmas.Bool.Decides.{nat_tests}
use Rattle.fuse_spec.specs.declared.Purpose.{Purpose}
use Rattle.fuse_spec.specs.declared.QueuedRequest.{QueuedRequest}
use Rattle.fuse_spec.specs.declared.ReplyResult.{ReplyResult}
use Rattle.fuse_spec.specs.declared.WriteResult.{WriteResult}
use Rattle.fuse_spec.specs.declared.WriteResult.TheVariants.{Accepted, NoEntry, Invalid}
use Rattle.fuse_spec.specs.Calls.Calls.{Call, for_minor}
use Rattle.fuse_spec.specs.Server.Copies.{kept_after, after_result}
use Rattle.fuse_spec.specs.Values.Maps.{Map, get, put, remove}
use Rattle.fuse_spec.specs.Kernel.Messages.{Forget, Request, RequestBody, init, asks, release, forget, batch_forget, interrupt, WireReply}
use Rattle.fuse_spec.specs.Kernel.Uniques.{interrupt_number}
use Rattle.fuse_spec.specs.Calls.Vfs.{later}
use Rattle.fuse_spec.specs.Kernel.Queues.{QueueState, IsSound, pending}
use Rattle.fuse_spec.specs.Kernel.QueueCalls as queues
use Rattle.fuse_spec.specs.Kernel.Kernel.{Kernel, is_live, call_put}
use Rattle.fuse_spec.specs.Server.Server.{HeldRequest, Kept, Copy}
use Rattle.fuse_spec.specs.Server.Taking.{taking, interrupting}
use Rattle.fuse_spec.specs.Server.Performs.{served}
use Rattle.fuse_spec.specs.Kernel.Replies.{reply_written}
use Rattle.fuse_spec.specs.World.Worlds.{World, Sent, copy_put, first_world, forget_body, server_settled, after_mount, after_call, world_after_read_interrupt, world_after_read_forgets, world_after_read_pending, after_take, after_perform, after_write}
use Rattle.fuse_spec.specs.World.Events.{Event, Outcome}
use Rattle.fuse_spec.specs.World.Events as event
use Rattle.fuse_spec.specs.World.Steps.{step}
use Rattle.fuse_spec.proofs.QueueCounts.{key_count, count_by-push}
use Rattle.fuse_spec.proofs.QueueReadings.{pending-read_pending}
use Rattle.fuse_spec.proofs.Tables.{get_put_there, get_gone_here, get_gone_there}
use Rattle.fuse_theorem.specs.Conditions.{UnreadAreUnsent}
use Rattle.fuse_theorem.specs.Unperformed.{unperformed, StandsOnce}
use Rattle.fuse_theorem.specs.Numbering.{IsNumbered, IsNumberedWhileLive}
use Rattle.fuse_theorem.proofs.Calls.Finding.{same_is, other_is, none_passes, all_fail}
use Rattle.fuse_theorem.proofs.Requests.DrawnNumbers.{number_below, number_even}
use Rattle.fuse_theorem.proofs.Calls.CallsContinue.{begun_goes_on}
use Rattle.fuse_theorem.proofs.RefusalCases.Happened.{Happened, by_mount, by_call, by_read_interrupt, by_read_forgets, by_read_pending, by_take, by_perform, by_again, by_write, by_settle, by_signal, by_tick, by_drop, by_evict, by_abort, happened}
use Rattle.fuse_theorem.proofs.Lists.LinkSums.{sum_removed}
use Rattle.fuse_theorem.proofs.Requests.NumbersStay.{ReceivesReply, goes_on, ends, calls_of, written_received, unreceived, numbers_stay}
use Rattle.fuse_theorem.proofs.Requests.PendingCounts.{pending_under, pending_le, pending_once, unread_pending, Fewer, moves_fewer}
use Rattle.fuse_theorem.proofs.Requests.PerformedRest.{performed_rest}
use Rattle.fuse_theorem.proofs.Requests.QueueMoves.{begun_moves, signalled_moves, written_moves}
use Rattle.fuse_theorem.proofs.Requests.QueuesSound.{stays_sound}

abbrev sent_under : ℕ → List Request → ℕ
sent_under u requests = count_by (λ (r : Request). nat_eq u r.unique) requests

abbrev pub one_held : Option HeldRequest → ℕ
one_held o = cond (is_some o) 1 0

abbrev held_under : ℕ → Map HeldRequest → ℕ
held_under u held = one_held (get held u)

abbrev one_if : Bool → ℕ
one_if b = cond b 1 0

at_most_one : (b : Bool) → cond b 1 0 ≤ 1
at_most_one true = omega arith
at_most_one false = omega arith

-- ---- numbers that are not allocated yet

-- Nothing is pending under the coming number.
next_unpending : (q : QueueState Purpose) → IsSound q → pending_under q.next q ≡ 0
next_unpending q sound = by (nat_lt 0 (key_count q.next q.requests)) refl
  where
    by : (b : Bool) → nat_lt 0 (key_count q.next q.requests) ≡ b → pending_under q.next q ≡ 0
    by true e = let low = number_below q sound q.next (grind (arith, nat_tests, e)) in absurd (omega (arith, low))
    by false e =
        let few = pending_le q.next q in
        let none : key_count q.next q.requests ≡ 0 = grind (arith, nat_tests, e) in
        omega (arith, few, none)

-- Nothing is sent or held under them.
none_later : (w : World) → IsNumbered w → is_live w.kernel.phase ≡ true → (u : ℕ) → w.kernel.queues.next ≤ u
    → sent_under u w.requests + held_under u w.server.held ≡ 0
none_later w numbered live u later =
    let sent = all_fail (λ (r : Request). nat_eq u r.unique) w.requests
    (λ i r lt. let low = numbered.sent_below i r lt in
    other_is u (get_or w.requests i r).unique (λ e. absurd (omega (arith, e, low, later)))) in
    let held = none_held (get w.server.held u) refl in
    omega (arith, sent, held)
  where
    none_held : (o : Option HeldRequest) → get w.server.held u ≡ o → held_under u w.server.held ≡ 0
    none_held None at = ap one_held at
    none_held (Some t) at = let low = numbered.held_below live u t at in absurd (omega (arith, low, later))

abbrev pub is_mount : Event → Bool
is_mount (event.mount found_ms missing_ms minor) = true
is_mount e = false

-- A bound on how often a number that is not performed occurs, which leaves room for numbers that are not allocated yet.
abbrev pub AtMost : (ℕ → ℕ) → World → Type 0
AtMost b w = (u : ℕ) → u % 2 ≡ 0 → unperformed w u ≤ b u

abbrev pub HasRoom : (ℕ → ℕ) → World → Type 0
HasRoom b w = is_live w.kernel.phase ≡ true → (u : ℕ) → w.kernel.queues.next ≤ u → 1 ≤ b u

-- ---- the kernel moves

kernel_once : (b : ℕ → ℕ) (w : World) → HasRoom b w → AtMost b w → IsNumbered w → is_live w.kernel.phase ≡ true
    → (k : Kernel) → Fewer w.kernel.queues k.queues → IsSound k.queues → AtMost b (record w { kernel = k })
kernel_once b w room once numbered live k fewer sound u even = by (nat_lt u w.kernel.queues.next) refl
  where
    by : (c : Bool) → nat_lt u w.kernel.queues.next ≡ c → unperformed (record w { kernel = k }) u ≤ b u
    by true e =
        let few = fewer.fewer u (grind (arith, nat_tests, e)) in
        let old = once u even in
        omega (arith, few, old)
    by false e =
        let later : w.kernel.queues.next ≤ u = grind (arith, nat_tests, e) in
        let none = none_later w numbered live u later in
        let one = pending_once u k.queues sound in
        let enough = room live u later in
        omega (arith, none, one, enough)

-- ---- the links and the server

module _ (b : ℕ → ℕ) (w : World) (once : AtMost b w) where
  -- A request leaves the link, and may be held.
  taken_once : (k unique : ℕ) (body : RequestBody)
      → slice_get w.requests k ≡ Some (record { unique = unique; body = body }) → (v : World) → v.kernel ≡ w.kernel
      → v.requests ≡ without_at w.requests k
      → ((u : ℕ) → held_under u v.server.held ≤ held_under u w.server.held + cond (nat_eq u unique) 1 0) → AtMost b v
  taken_once k unique body there v kernel requests held u even =
      let old = once u even in
      let gone : sent_under u (without_at w.requests k) + cond (nat_eq u unique) 1 0 ≡ sent_under u w.requests =
      sum_removed (λ (r : Request). cond (nat_eq u r.unique) 1 0) w.requests k
      (record { unique = unique; body = body }) there in
      let sent = ap (sent_under u) requests in
      let pending_same = ap (λ (q : Kernel). pending_under u q.queues) kernel in
      let few = held u in
      omega (arith, old, gone, sent, pending_same, few)

  -- Nothing more is sent or held.
  fewer_once : (v : World) → v.kernel ≡ w.kernel → v.requests ≡ w.requests
      → ((u : ℕ) → held_under u v.server.held ≤ held_under u w.server.held) → AtMost b v
  fewer_once v kernel requests held u even =
      let old = once u even in
      let sent = ap (sent_under u) requests in
      let pending_same = ap (λ (q : Kernel). pending_under u q.queues) kernel in
      let few = held u in
      omega (arith, old, sent, pending_same, few)

-- one more is held under a number, or one that is held changes
put_held : (held : Map HeldRequest) (unique : ℕ) (t : HeldRequest) (u : ℕ)
    → held_under u (put held unique t) ≤ held_under u held + cond (nat_eq u unique) 1 0
put_held held unique t u = elim (cases_eq u unique) [
  | inl e ↦ let tie = same_if u unique e in rw tie (at_most (is_some (get (put held unique t) u)) (held_under u held))
  | inr ne ↦ let same = ap one_held (get_put_there held unique t u ne) in omega (arith, same)
]
  where
    same_if : (a b : ℕ) → a ≡ b → nat_eq a b ≡ true
    same_if a b e = subst (λ (n : ℕ). nat_eq a n ≡ true) e (same_is a)

    at_most : (b : Bool) (n : ℕ) → cond b 1 0 ≤ n + 1
    at_most true n = omega arith
    at_most false n = omega arith

put_held_again : (held : Map HeldRequest) (unique : ℕ) (old t : HeldRequest) → get held unique ≡ Some old → (u : ℕ)
    → held_under u (put held unique t) ≤ held_under u held
put_held_again held unique old t at u = elim (cases_eq u unique) [
  | inl e ↦
      let there : held_under u held ≡ 1 = ap (λ (n : ℕ). held_under n held) e ∙ ap one_held at in
      omega (arith, there, at_most (is_some (get (put held unique t) u)))
  | inr ne ↦ let same = ap one_held (get_put_there held unique t u ne) in omega (arith, same)
]
  where
    at_most : (b : Bool) → cond b 1 0 ≤ 1
    at_most true = omega arith
    at_most false = omega arith

gone_held : (held : Map HeldRequest) (unique u : ℕ) → held_under u (remove held unique) ≤ held_under u held
gone_held held unique u = elim (cases_eq u unique) [
  | inl e ↦ let none = ap one_held (ap (λ (n : ℕ). get (remove held unique) n) e ∙ get_gone_here held unique) in
      omega (arith, none)
  | inr ne ↦ let same = ap one_held (get_gone_there held unique u ne) in omega (arith, same)
]

-- ---- events

-- settling changes nothing that is held
settled_held : (w : World) (result : ReplyResult) (o : Option Copy) (u : ℕ)
    → held_under u (server_settled w.server result o).held ≤ held_under u w.server.held
settled_held w result None u = omega arith
settled_held w result (Some copy) u = by result.result
  where
    by : (r : WriteResult) → held_under u (after_result
        (record w.server {
          copies = remove w.server.copies result.number;
          kept = kept_after w.server.kept copy
              (get w.server.kept copy.unique);
        }) copy.wire r).held ≤ held_under u w.server.held
    by Accepted = omega arith
    by NoEntry = omega arith
    by Invalid = omega arith

module _ (b : ℕ → ℕ) (w : World) (room : HasRoom b w) (once : AtMost b w) (numbered : IsNumberedWhileLive w) where
  -- An INTERRUPT is read: its number is odd.
  interrupt_once : (original : ℕ) → AtMost b (world_after_read_interrupt w original)
  interrupt_once original u even =
      let old = once u even in
      let pushed = count_by-push (λ (r : Request). nat_eq u r.unique) w.requests
      (record { unique = interrupt_number original; body = interrupt original }) in
      let other = ap one_if (other_is u (interrupt_number original) (λ e. absurd (omega (arith, e, even)))) in
      omega (arith, old, pushed, other)

  -- Forgets are read: they have the coming number.
  forgets_once : is_live w.kernel.phase ≡ true → (n : ℕ) (fs : List Forget)
      → queues.can_read_forgets w.kernel.queues n ≡ true → AtMost b (world_after_read_forgets w n fs)
  forgets_once live n fs can u even = by (queues.can_read_forgets w.kernel.queues n) can
    where
      pushed : sent_under u (w.requests ++ record { unique = w.kernel.queues.next; body = forget_body fs } ∷ [])
          ≡ sent_under u w.requests + cond (nat_eq u w.kernel.queues.next) 1 0
      pushed = count_by-push (λ (r : Request). nat_eq u r.unique) w.requests
          (record { unique = w.kernel.queues.next; body = forget_body fs })

      none_pending : u ≡ w.kernel.queues.next → pending_under u w.kernel.queues ≡ 0
      none_pending e = let now = numbered.live live in
          subst (λ (m : ℕ). pending_under m w.kernel.queues ≡ 0) (sym e) (next_unpending w.kernel.queues now.queues)

      by : (c : Bool) → c ≡ true
          → unperformed (record w {
            kernel = record w.kernel {
              queues = cond c (record w.kernel.queues {
                forgets =
                    drop n w.kernel.queues.forgets;
                next = w.kernel.queues.next + 2;
              }) w.kernel.queues;
            };
            requests = w.requests ++ record { unique = w.kernel.queues.next; body = forget_body fs } ∷ [];
          }) u ≤ b u
      by false e = absurd (true≢false (sym e))
      by true e = elim (cases_eq u w.kernel.queues.next) [
        | inl same ↦
            let none = none_later w (numbered.live live) live u (omega (arith, same)) in
            let unread = none_pending same in
            let one = at_most_one (nat_eq u w.kernel.queues.next) in
            let enough = room live u (omega (arith, same)) in
            omega (arith, pushed, none, unread, one, enough)
        | inr ne ↦
            let old = once u even in
            let other = ap one_if (other_is u w.kernel.queues.next ne) in
            omega (arith, pushed, old, other)
      ]

  -- A pending request is read.
  read_once : is_live w.kernel.phase ≡ true → (k unique : ℕ) (kept : Purpose) (body : RequestBody)
      → queues.pending_at w.kernel.queues k ≡ Some (unique, kept) → AtMost b (world_after_read_pending w k unique body)
  read_once live k unique kept body there = by (slice_get (pending w.kernel.queues) k) refl there
    where
      by : (o : Option (ℕ × QueuedRequest Purpose)) → slice_get (pending w.kernel.queues) k ≡ o
          → option_map {U = ℕ × Purpose} (λ (e : ℕ × QueuedRequest Purpose). (e.0, e.1.kept)) o ≡ Some (unique, kept)
          → AtMost b (world_after_read_pending w k unique body)
      by None at e u even = absurd (cc)
      by (Some x) at e u even =
          let old = once u even in
          let now = numbered.live live in
          let first : Some x.0 ≡ Some unique = ap (λ (o : Option (ℕ × Purpose)). option_map
          (λ (y : ℕ × Purpose). y.0) o) e in
          let same : x.0 ≡ unique = cc (first) in
          let left = ap (λ (es : List (ℕ × QueuedRequest Purpose)). count_by
          (λ (y : ℕ × QueuedRequest Purpose). nat_eq u y.0) es)
          (pending-read_pending w.kernel.queues k x now.queues at) in
          let gone = sum_removed (λ (y : ℕ × QueuedRequest Purpose). cond (nat_eq u y.0) 1 0)
          (pending w.kernel.queues) k x at in
          let pushed = count_by-push (λ (r : Request). nat_eq u r.unique) w.requests
          (record { unique = unique; body = body }) in
          let tie = ap (λ (n : ℕ). one_if (nat_eq u n)) same in
          omega (arith, old, left, gone, pushed, tie)

  -- The server takes a request.
  taken : (k unique : ℕ) (body : RequestBody) → slice_get w.requests k ≡ Some (record { unique = unique; body = body })
      → AtMost b (after_take w k unique (taking w.server unique body))
  taken k unique body there = by body there
    where
      none_more : (held : Map HeldRequest) → ((u : ℕ) → held_under u held ≤ held_under u w.server.held) → (u : ℕ)
          → held_under u held ≤ held_under u w.server.held + cond (nat_eq u unique) 1 0
      none_more held few u = let le = few u in omega (arith, le)

      interrupts : (original : ℕ) → slice_get w.requests k
          ≡ Some (record { unique = unique; body = interrupt original }) → (h : Option HeldRequest)
          → get w.server.held original ≡ h → (o : Option Kept)
          → AtMost b (after_take w k unique (interrupting w.server unique original h o))
      interrupts original at (Some t) held o =
          taken_once b w once k unique (interrupt original) at
          (after_take w k unique (interrupting w.server unique original (Some t) o)) refl refl
          (none_more (put w.server.held original (record t { marked = true }))
          (put_held_again w.server.held original t (record t { marked = true }) held))
      interrupts original at None held (Some x) = taken_once b w once k unique (interrupt original) at
          (after_take w k unique (interrupting w.server unique original None (Some x))) refl refl
          (none_more w.server.held (λ u. omega arith))
      interrupts original at None held None = taken_once b w once k unique (interrupt original) at
          (after_take w k unique (interrupting w.server unique original None None)) refl refl
          (none_more w.server.held (λ u. omega arith))

      by : (x : RequestBody) → slice_get w.requests k ≡ Some (record { unique = unique; body = x })
          → AtMost b (after_take w k unique (taking w.server unique x))
      by (init flags) at = taken_once b w once k unique (init flags) at
          (after_take w k unique (taking w.server unique (init flags))) refl refl (put_held w.server.held unique _)
      by (asks operation) at = taken_once b w once k unique (asks operation) at
          (after_take w k unique (taking w.server unique (asks operation))) refl refl (put_held w.server.held unique _)
      by (release o) at = taken_once b w once k unique (release o) at
          (after_take w k unique (taking w.server unique (release o))) refl refl (put_held w.server.held unique _)
      by (forget f) at = taken_once b w once k unique (forget f) at
          (after_take w k unique (taking w.server unique (forget f))) refl refl
          (none_more w.server.held (λ u. omega arith))
      by (batch_forget fs) at = taken_once b w once k unique (batch_forget fs) at
          (after_take w k unique (taking w.server unique (batch_forget fs))) refl refl
          (none_more w.server.held (λ u. omega arith))
      by (interrupt original) at = interrupts original at (get w.server.held original) refl (get w.server.kept original)

  performed : (choice : ℕ → ℕ) (unique : ℕ) (t : HeldRequest)
      → AtMost b (after_perform w unique (served choice w.server unique t))
  performed choice unique t = by (cond w.server.aborted None (Some (served choice w.server unique t).wire))
    where
      held : (u : ℕ) → held_under u (served choice w.server unique t).server.held ≤ held_under u w.server.held
      held u =
          let rest = performed_rest choice (record w.server { held = remove w.server.held unique }) t in
          let same = ap (held_under u) rest.held in
          let few = gone_held w.server.held unique u in
          omega (arith, same, few)

      by : (o : Option WireReply) → AtMost b (copy_put
          (record w { server = (served choice w.server unique t).server }) w.server.next_copy unique o)
      by None = fewer_once b w once (copy_put (record w {
        server =
            (served choice w.server unique t).server;
      }) w.server.next_copy unique None) refl refl held
      by (Some wire) = fewer_once b w once (copy_put (record w {
        server =
            (served choice w.server unique t).server;
      }) w.server.next_copy unique (Some wire)) refl refl held

  -- The kernel takes a reply.
  written : (k : ℕ) (sent : Sent) → (is_live w.kernel.phase ≡ true
      → IsSound (reply_written w.kernel sent.unique sent.wire).1.queues)
      → AtMost b (after_write w k sent (reply_written w.kernel sent.unique sent.wire))
  written k sent sound = by (is_live w.kernel.phase) refl
    where
      reply_received : is_live w.kernel.phase ≡ true → ReceivesReply w.kernel
          (reply_written w.kernel sent.unique sent.wire).1
          → AtMost b (record w { kernel = (reply_written w.kernel sent.unique sent.wire).1 })
      reply_received live (goes_on still rises calls) u even =
          kernel_once b w room once (numbered.live live) live (reply_written w.kernel sent.unique sent.wire).1
          (moves_fewer w.kernel.queues (reply_written w.kernel sent.unique sent.wire).1.queues
          (written_moves w.kernel sent.unique sent.wire still)) (sound live) u even
      reply_received live (ends dead idle uncounted) u even =
          let old = once u even in
          let none : pending_under u (reply_written w.kernel sent.unique sent.wire).1.queues ≡ 0 =
          ap (pending_under u) idle in
          omega (arith, old, none)

      by : (c : Bool) → is_live w.kernel.phase ≡ c → AtMost b
          (record w { kernel = (reply_written w.kernel sent.unique sent.wire).1 })
      by true live = let now = numbered.live live in reply_received live
          (written_received w.kernel live now.queues (calls_of w now) sent.unique sent.wire)
      by false dead = fewer_once b w once (record w { kernel = (reply_written w.kernel sent.unique sent.wire).1 })
          (unreceived w.kernel (numbered.idle dead) sent.unique sent.wire) refl (λ u. omega arith)

  -- A call begins.
  called : (call : Call) → (is_live w.kernel.phase ≡ true → IsSound (call_put w.kernel call).queues)
      → IsNumberedWhileLive (after_call w call) → AtMost b (after_call w call)
  called call sound after = by (is_live w.kernel.phase) refl
    where
      by : (c : Bool) → is_live w.kernel.phase ≡ c → AtMost b (after_call w call)
      by true live u even = kernel_once b w room once (numbered.live live) live (call_put w.kernel call)
          (moves_fewer w.kernel.queues (call_put w.kernel call).queues
          (begun_moves w.kernel (for_minor w.kernel.lists_files call))) (sound live) u even
      by false dead u even =
          let old = once u even in
          let goes = begun_goes_on w.kernel (for_minor w.kernel.lists_files call) in
          let none : pending_under u (call_put w.kernel call).queues ≡ 0 =
          ap (pending_under u) (after.idle (ap is_live goes.phase ∙ dead)) in
          omega (arith, old, none)

  -- INIT is pending after a mount.
  mounted_once : (f m : ℕ) (v : Minor) → 1 ≤ b 2 → (u : ℕ) → unperformed (after_mount w f m v) u ≤ b u
  mounted_once f m v first u = elim (cases_eq u 2) [
    | inl e ↦ let one = at_most_one (nat_eq u 2) in let enough : 1 ≤ b u =
        subst (λ (n : ℕ). 1 ≤ b n) (sym e) first in omega (arith, one, enough)
    | inr ne ↦ let none = ap one_if (other_is u 2 ne) in omega (arith, none)
  ]

  stay : (choice : ℕ → ℕ) (e : Event) (o : Outcome) (after : World) → (is_mount e ≡ true → 1 ≤ b 2)
      → IsNumberedWhileLive after → (is_live w.kernel.phase ≡ true → IsSound after.kernel.queues)
      → Happened choice w e o after → AtMost b after
  stay choice e o after first coming sound (by_mount f m v idle) = λ u even. mounted_once f m v (first refl) u
  stay choice e o after first coming sound (by_call call ready room within) = called call sound coming
  stay choice e o after first coming sound (by_read_interrupt original rest live there within) = interrupt_once original
  stay choice e o after first coming sound (by_read_forgets n live free can within few) =
      forgets_once live n (take n w.kernel.queues.forgets) can
  stay choice e o after first coming sound (by_read_pending k unique kept body live free there says within) =
      read_once live k unique kept body there
  stay choice e o after first coming sound (by_take k r there within) = taken k r.unique r.body there
  stay choice e o after first coming sound (by_perform unique t there within) = performed choice unique t
  stay choice e o after first coming sound (by_again unique kept there current within) =
      fewer_once b w once after refl refl (λ u. omega arith)
  stay choice e o after first coming sound (by_write k sent there within) = written k sent sound
  stay choice e o after first coming sound (by_settle k result there) =
      fewer_once b w once after refl refl (λ u. settled_held w result (get w.server.copies result.number) u)
  stay choice e o after first coming sound (by_signal call fatal state live there within) =
      kernel_once b w room once (numbered.live live) live after.kernel
      (moves_fewer w.kernel.queues after.kernel.queues (signalled_moves w.kernel call state fatal)) (sound live)
  stay choice e o after first coming sound (by_tick ms timely) = once
  stay choice e o after first coming sound (by_drop directory name bound live there) = once
  stay choice e o after first coming sound (by_evict node counted live there unused) = once
  stay choice e o after first coming sound (by_abort live) = λ u even. let old = once u even in omega (arith, old)

-- A bound that leaves room stays one, whatever the event.
pub bounded_stays : (b : ℕ → ℕ) (choice : ℕ → ℕ) (w : World) → HasRoom b w → AtMost b w → IsNumberedWhileLive w
    → (e : Event) (o : Outcome) (after : World) → (is_mount e ≡ true → 1 ≤ b 2) → step choice w e ≡ Ok (o, after)
    → AtMost b after
bounded_stays b choice w room once numbered e o after first stepped =
    stay b w room once numbered choice e o after first (numbers_stay choice w numbered e o after stepped)
    (λ live. let now = numbered.live live in stays_sound choice w now.queues o after e stepped)
    (happened choice w o after e stepped)

-- A request that is not performed stands once, whatever the event.
pub stands_once : (choice : ℕ → ℕ) (w : World) → StandsOnce w → IsNumberedWhileLive w
    → (e : Event) (o : Outcome) (after : World) → step choice w e ≡ Ok (o, after) → StandsOnce after
stands_once choice w once numbered e o after stepped =
    bounded_stays (λ u. 1) choice w (λ live u later. omega arith) once numbered e o after (λ mount. omega arith) stepped

pub first_once : StandsOnce first_world
first_once u even = omega arith

-- What is unread is neither on the link nor held.
pub unread_unsent : (w : World) → StandsOnce w → IsSound w.kernel.queues → UnreadAreUnsent w
unread_unsent w once sound unique r under unread =
    let there = unread_pending unique w.kernel.queues r under unread in
    let le = pending_le unique w.kernel.queues in
    let even = number_even w.kernel.queues sound unique (omega (arith, there, le)) in
    let one = once unique even in
    let none_sent : sent_under unique w.requests ≡ 0 = omega (arith, there, one) in
    let none_held : held_under unique w.server.held ≡ 0 = omega (arith, there, one) in (
      λ i s lt e. true≢false (sym (same_is unique) ∙ ap (nat_eq unique) (sym e) ∙ none_passes
          (λ (x : Request). nat_eq unique x.unique) w.requests none_sent i s lt),
      unheld (get w.server.held unique) none_held,
    )
  where
    unheld : (o : Option HeldRequest) → one_held o ≡ 0 → o ≡ None
    unheld None e = refl
    unheld (Some t) e = absurd (omega (arith, e))
