-- A request that is not performed has no reply, whatever happens.
use Rattle.fuse_spec.specs.Values.Numbers.{init_flags}
use Rattle.std.proofs.Common.{◌≡◌, ◌≢◌, ℕ, ◌≤◌, Bool, true, false, true≢false, ◌&&◌, cond, List, [], ◌∷◌, ◌++◌, take, Option, Some, None, Ok, nat_eq, slice_get, option_map, refl, ap, sym, subst, ◌∙◌, arith, All}
use Rattle.std.specs.Prelude.{◌%◌, nat_le}
use Rattle.std.specs.List.{remove as without_at}
use Rattle.std.proofs.lemmas.Bool.Decides.{nat_tests}
use Rattle.std.proofs.lemmas.List.Elements.{All-nil, All-push}
use Rattle.fuse_spec.specs.declared.Opened.{Opened}
use Rattle.fuse_spec.specs.declared.Purpose.{Purpose}
use Rattle.fuse_spec.specs.declared.Purpose.TheVariants as purpose
use Rattle.fuse_spec.specs.declared.QueuedRequest.{QueuedRequest}
use Rattle.fuse_spec.specs.declared.ReplyResult.{ReplyResult}
use Rattle.fuse_spec.specs.declared.WriteResult.{WriteResult}
use Rattle.fuse_spec.specs.declared.WriteResult.TheVariants.{Accepted, NoEntry, Invalid}
use Rattle.fuse_spec.specs.Server.Copies.{kept_after, after_result}
use Rattle.fuse_spec.specs.Values.Maps.{Map, get, put, remove}
use Rattle.fuse_spec.specs.Kernel.Messages.{Forget, Request, RequestBody, init, asks, release, forget, batch_forget, interrupt, WireReply}
use Rattle.fuse_spec.specs.Files.Operations.{failed}
use Rattle.fuse_spec.specs.Kernel.Uniques.{interrupt_number}
use Rattle.fuse_spec.specs.Calls.Vfs.{CallState, asked}
use Rattle.fuse_spec.specs.Kernel.Queues.{is_unread, pending}
use Rattle.fuse_spec.specs.Kernel.QueueCalls.{pending_at}
use Rattle.fuse_spec.specs.Kernel.Kernel.{Kernel, is_live, asked_by, body_of}
use Rattle.fuse_spec.specs.Server.Server.{HeldRequest, Kept, Copy}
use Rattle.fuse_spec.specs.Server.Taking.{taking, interrupting}
use Rattle.fuse_spec.specs.Server.Performs.{performed, served}
use Rattle.fuse_spec.specs.World.Worlds.{World, Sent, copy_put, first_world, forget_body, after_take, after_perform, after_settle}
use Rattle.fuse_spec.specs.World.Events.{Event, Outcome}
use Rattle.fuse_spec.specs.World.Steps.{step}
use Rattle.fuse_spec.proofs.QueueCounts.{key_count-found}
use Rattle.fuse_spec.proofs.Tables.{get_put_there, get_gone_here}
use Rattle.fuse_theorem.specs.Unperformed.{unperformed, BearsNumber, IsUnanswered, RequestsSound}
use Rattle.fuse_theorem.specs.Numbering.{IsNumberedWhileLive}
use Rattle.fuse_theorem.proofs.Requests.DrawnNumbers.{number_even}
use Rattle.fuse_theorem.proofs.RefusalCases.Happened.{Happened, by_mount, by_call, by_read_interrupt, by_read_forgets, by_read_pending, by_take, by_perform, by_again, by_write, by_settle, by_signal, by_tick, by_drop, by_evict, by_abort, happened}
use Rattle.fuse_theorem.proofs.Nodes.NodesSound.{left_none}
use Rattle.fuse_theorem.proofs.Requests.PerformedRest.{performed_rest}
use Rattle.fuse_theorem.proofs.Refining.Queuing.{All-without, All-at}
use Rattle.fuse_theorem.proofs.Requests.StandsOnce.{is_mount, one_held, bounded_stays, stands_once, first_once}

-- ---- the numbers on the request link

-- what the kernel asks has an even number
asked_even : (k : Kernel) (kept : Purpose) (body : RequestBody) (unique : ℕ) → body_of k kept ≡ Some body
    → unique % 2 ≡ 0 → BearsNumber unique body
asked_even k purpose.Init body unique says even = let is : init init_flags ≡ body =
    cc in subst (BearsNumber unique) is even
asked_even k (purpose.Release o) body unique says even = let is : release o ≡ body =
    cc in subst (BearsNumber unique) is even
asked_even k (purpose.Call call) body unique says even = by (get k.vfs.calls call) says
  where
    by : (o : Option (CallState Opened)) → asked_by o ≡ Some body → BearsNumber unique body
    by None e = absurd (cc)
    by (Some state) e = let is : asks (asked state) ≡ body = cc in subst (BearsNumber unique) is even

forgets_even : (fs : List Forget) (unique : ℕ) → unique % 2 ≡ 0 → BearsNumber unique (forget_body fs)
forgets_even [] unique even = even
forgets_even (f ∷ []) unique even = even
forgets_even (f ∷ g ∷ fs) unique even = even

abbrev Bears : Request → Type 0
Bears r = BearsNumber r.unique r.body

replying_requests : (w : World) (number unique : ℕ) (o : Option WireReply)
    → (copy_put w number unique o).requests ≡ w.requests
replying_requests w number unique None = refl
replying_requests w number unique (Some wire) = refl

-- There is no reply at all.
nothing_sent : (v : World) (u : ℕ) → v.replies ≡ [] → v.server.kept ≡ [] → IsUnanswered v u
nothing_sent v u replies kept = record {
  copies = subst (λ (xs : List Sent). All (λ (s : Sent). s.unique ≢ u) xs) (sym replies)
      (All-nil (λ (s : Sent). s.unique ≢ u));
  kept = ap (λ (m : Map Kept). get m u) kept;
}

module _ (choice : ℕ → ℕ) (w : World) (sound : RequestsSound w) (numbered : IsNumberedWhileLive w) where
  pending_even : is_live w.kernel.phase ≡ true → (k unique : ℕ) (kept : Purpose)
      → pending_at w.kernel.queues k ≡ Some (unique, kept) → unique % 2 ≡ 0
  pending_even live k unique kept there = by (slice_get (pending w.kernel.queues) k) refl there
    where
      by : (o : Option (ℕ × QueuedRequest Purpose)) → slice_get (pending w.kernel.queues) k ≡ o
          → option_map {U = ℕ × Purpose} (λ (e : ℕ × QueuedRequest Purpose). (e.0, e.1.kept)) o ≡ Some (unique, kept)
          → unique % 2 ≡ 0
      by None at e = absurd (cc)
      by (Some x) at e =
          let first : Some x.0 ≡ Some unique = ap (λ (o : Option (ℕ × Purpose)). option_map
          (λ (y : ℕ × Purpose). y.0) o) e in
          let same : x.0 ≡ unique = cc (first) in
          let now = numbered.live live in
          subst (λ (n : ℕ). n % 2 ≡ 0) same (number_even w.kernel.queues now.queues x.0
          (key_count-found (λ (y : ℕ × QueuedRequest Purpose). is_unread y.1.mark) w.kernel.queues.requests k x at))

  numbers_after : (e : Event) (o : Outcome) (after : World) → Happened choice w e o after → All Bears after.requests
  numbers_after e o after (by_mount f m v idle) = All-nil Bears
  numbers_after e o after (by_call call ready room within) = sound.numbers
  numbers_after e o after (by_read_interrupt original rest live there within) =
      All-push Bears w.requests (record {
        unique = interrupt_number original;
        body = interrupt original;
      }) sound.numbers refl
  numbers_after e o after (by_read_forgets n live free can within few) =
      let now = numbered.live live in
      let coming = now.queues.next in
      All-push Bears w.requests (record {
        unique = w.kernel.queues.next;
        body = forget_body (take n w.kernel.queues.forgets);
      }) sound.numbers
      (forgets_even (take n w.kernel.queues.forgets) w.kernel.queues.next coming.even)
  numbers_after e o after (by_read_pending k unique kept body live free there says within) =
      All-push Bears w.requests (record { unique = unique; body = body }) sound.numbers
      (asked_even w.kernel kept body unique says (pending_even live k unique kept there))
  numbers_after e o after (by_take k r there within) =
      let took = taking w.server r.unique r.body in
      subst (All Bears) (sym (replying_requests (record w {
        requests = without_at w.requests k;
        server = took.server;
      }) w.server.next_copy r.unique took.reply))
      (All-without Bears w.requests k sound.numbers)
  numbers_after e o after (by_perform unique t there within) =
      let did = served choice w.server unique t in
      subst (All Bears) (sym (replying_requests (record w { server = did.server }) w.server.next_copy unique
      (cond w.server.aborted None (Some did.wire)))) sound.numbers
  numbers_after e o after (by_again unique kept there current within) = sound.numbers
  numbers_after e o after (by_write k sent there within) = sound.numbers
  numbers_after e o after (by_settle k result there) = sound.numbers
  numbers_after e o after (by_signal call fatal state live there within) = sound.numbers
  numbers_after e o after (by_tick ms timely) = sound.numbers
  numbers_after e o after (by_drop directory name bound live there) = sound.numbers
  numbers_after e o after (by_evict node counted live there unused) = sound.numbers
  numbers_after e o after (by_abort live) = All-nil Bears

  -- ---- what has no reply

  -- whether the number is not allocated yet
  abbrev is_coming : ℕ → Bool
  is_coming u = is_live w.kernel.phase && nat_le w.kernel.queues.next u

  -- numbers that were allocated occur no more often
  abbrev bound : ℕ → ℕ
  bound u = cond (is_coming u) 1 (unperformed w u)

  bound_holds : (u : ℕ) → u % 2 ≡ 0 → unperformed w u ≤ bound u
  bound_holds u even = by (is_coming u)
    where
      by : (b : Bool) → unperformed w u ≤ cond b 1 (unperformed w u)
      by true = sound.once u even
      by false = omega arith

  bound_room : is_live w.kernel.phase ≡ true → (u : ℕ) → w.kernel.queues.next ≤ u → 1 ≤ bound u
  bound_room live u later =
      let le : nat_le w.kernel.queues.next u ≡ true = grind (arith, nat_tests, later) in
      let coming : is_coming u ≡ true = λ i. live i && le i in
      subst (λ (b : Bool). 1 ≤ cond b 1 (unperformed w u)) (sym coming) (omega arith)

  -- What will not be performed before is not answered now.
  was_unanswered : (e : Event) (o : Outcome) (after : World) → is_mount e ≡ false → step choice w e ≡ Ok (o, after)
      → (u : ℕ) → u % 2 ≡ 0 → 1 ≤ unperformed after u → IsUnanswered w u
  was_unanswered e o after no_mount stepped u even stands =
      by (is_coming u) refl (bounded_stays bound choice w bound_room bound_holds numbered e o after
      (λ mount. absurd (true≢false (sym mount ∙ no_mount))) stepped u even)
    where
      both : (a b : Bool) → (a && b) ≡ true → (a ≡ true) × (b ≡ true)
      both true b e = (refl, e)
      both false b e = absurd (true≢false (sym e))

      by : (b : Bool) → is_coming u ≡ b → unperformed after u ≤ cond b 1 (unperformed w u) → IsUnanswered w u
      by true coming few =
          let parts = both (is_live w.kernel.phase) (nat_le w.kernel.queues.next u) coming in
          let now = numbered.live parts.0 in
          let later : w.kernel.queues.next ≤ u = grind (arith, nat_tests, parts.1) in
          record {
            copies = λ i s lt same. let low = now.replies_below i s lt in
                absurd (omega (arith, low, later, same));
            kept = none_kept parts.0 later (get w.server.kept u) refl;
          }
        where
          none_kept : is_live w.kernel.phase ≡ true → w.kernel.queues.next ≤ u → (o : Option Kept)
              → get w.server.kept u ≡ o → o ≡ None
          none_kept live later None at = refl
          none_kept live later (Some k) at = let now = numbered.live live in let low =
              now.kept_below live u k at in absurd (omega (arith, low, later))
      by false coming few = sound.unanswered u even (omega (arith, stands, few))

  -- the same replies
  unanswered_same : (v : World) (u : ℕ) → v.replies ≡ w.replies → v.server.kept ≡ w.server.kept → IsUnanswered w u
      → IsUnanswered v u
  unanswered_same v u replies kept old = record {
    copies = subst (λ (xs : List Sent). All (λ (s : Sent). s.unique ≢ u) xs) (sym replies) old.copies;
    kept = ap (λ (m : Map Kept). get m u) kept ∙ old.kept;
  }

  -- one more copy, under another number
  unanswered_push : (v : World) (u number unique : ℕ) (wire : WireReply)
      → v.replies ≡ w.replies ++ record { number = number; unique = unique; wire = wire } ∷ []
      → get v.server.kept u ≡ None → unique ≢ u → IsUnanswered w u → IsUnanswered v u
  unanswered_push v u number unique wire replies kept other old = record {
    copies = subst (λ (xs : List Sent). All (λ (s : Sent). s.unique ≢ u) xs) (sym replies)
        (All-push (λ (s : Sent). s.unique ≢ u) w.replies
        (record { number = number; unique = unique; wire = wire }) old.copies other);
    kept = kept;
  }

  taken_unanswered : (k : ℕ) (r : Request) → slice_get w.requests k ≡ Some r → (u : ℕ) → u % 2 ≡ 0 → IsUnanswered w u
      → IsUnanswered (after_take w k r.unique (taking w.server r.unique r.body)) u
  taken_unanswered k r there u even old = by r.body (All-at Bears w.requests k r sound.numbers there)
    where
      interrupts : (original : ℕ) → r.unique ≡ interrupt_number original → (h : Option HeldRequest) (x : Option Kept)
          → IsUnanswered (after_take w k r.unique (interrupting w.server r.unique original h x)) u
      interrupts original bears (Some t) x = unanswered_same
          (after_take w k r.unique (interrupting w.server r.unique original (Some t) x)) u refl refl old
      interrupts original bears None (Some x) = unanswered_same
          (after_take w k r.unique (interrupting w.server r.unique original None (Some x))) u refl refl old
      interrupts original bears None None =
          unanswered_push (after_take w k r.unique
          (interrupting w.server r.unique original None None)) u w.server.next_copy r.unique (failed 11) refl old.kept
          (λ e. absurd (omega (arith, e, even, bears))) old

      by : (body : RequestBody) → BearsNumber r.unique body
          → IsUnanswered (after_take w k r.unique (taking w.server r.unique body)) u
      by (init flags) bears = unanswered_same (after_take w k r.unique
          (taking w.server r.unique (init flags))) u refl refl old
      by (asks operation) bears = unanswered_same (after_take w k r.unique
          (taking w.server r.unique (asks operation))) u refl refl old
      by (release o) bears = unanswered_same (after_take w k r.unique
          (taking w.server r.unique (release o))) u refl refl old
      by (forget f) bears = unanswered_same (after_take w k r.unique
          (taking w.server r.unique (forget f))) u refl refl old
      by (batch_forget fs) bears = unanswered_same (after_take w k r.unique
          (taking w.server r.unique (batch_forget fs))) u refl refl old
      by (interrupt original) bears = interrupts original bears (get w.server.held original)
          (get w.server.kept original)

  -- What is performed stands no more.
  performed_gone : (unique : ℕ) (t : HeldRequest) → get w.server.held unique ≡ Some t → unique % 2 ≡ 0
      → unperformed (after_perform w unique (served choice w.server unique t)) unique ≡ 0
  performed_gone unique t there even = by (cond w.server.aborted None (Some (served choice w.server unique t).wire))
    where
      was_held : one_held (get w.server.held unique) ≡ 1
      was_held = ap one_held there

      now_held : one_held (get (served choice w.server unique t).server.held unique) ≡ 0
      now_held = let rest = performed_rest choice (record w.server { held = remove w.server.held unique }) t in
          ap one_held (ap (λ (m : Map HeldRequest). get m unique) rest.held ∙ get_gone_here w.server.held unique)

      by : (o : Option WireReply) → unperformed (copy_put
          (record w { server = (served choice w.server unique t).server }) w.server.next_copy unique o) unique ≡ 0
      by None = let old = sound.once unique even in omega (arith, was_held, now_held, old)
      by (Some wire) = let old = sound.once unique even in omega (arith, was_held, now_held, old)

  performed_unanswered : (unique : ℕ) (t : HeldRequest) → get w.server.held unique ≡ Some t → (u : ℕ) → u % 2 ≡ 0
      → 1 ≤ unperformed (after_perform w unique (served choice w.server unique t)) u → IsUnanswered w u
      → IsUnanswered (after_perform w unique (served choice w.server unique t)) u
  performed_unanswered unique t there u even stands old =
      by (cond w.server.aborted None (Some (served choice w.server unique t).wire))
    where
      other : unique ≢ u
      other e =
          let gone = performed_gone unique t there (subst (λ (n : ℕ). n % 2 ≡ 0) (sym e) even) in
          let none = subst (λ (n : ℕ). unperformed (after_perform w unique (served choice w.server unique t)) n
          ≡ 0) e gone in
          absurd (omega (arith, none, stands))

      kept_other : get (served choice w.server unique t).server.kept u ≡ None
      kept_other =
          let rest = performed_rest choice (record w.server { held = remove w.server.held unique }) t in
          none (performed choice (record w.server { held = remove w.server.held unique }) t).server.aborted
          (ap (λ (m : Map Kept). get m u) rest.kept ∙ old.kept)
        where
          none : (b : Bool) → get (performed choice (record w.server {
            held =
                remove w.server.held unique;
          }) t).server.kept u ≡ None
              → get (cond b (performed choice (record w.server { held = remove w.server.held unique }) t).server.kept
              (put (performed choice (record w.server { held = remove w.server.held unique }) t).server.kept unique
              (record {
                wire = (performed choice (record w.server { held = remove w.server.held unique }) t).wire;
                first = (performed choice (record w.server {
                  held =
                      remove w.server.held unique;
                }) t).server.next_copy;
              }))) u ≡ None
          none true at = at
          none false at = get_put_there (performed choice (record w.server {
            held =
                remove w.server.held unique;
          }) t).server.kept unique _ u (λ e. other (sym e)) ∙ at

      by : (o : Option WireReply) → IsUnanswered (copy_put
          (record w { server = (served choice w.server unique t).server }) w.server.next_copy unique o) u
      by None = record { copies = old.copies; kept = kept_other }
      by (Some wire) = unanswered_push (copy_put (record w {
        server =
            (served choice w.server unique t).server;
      }) w.server.next_copy unique
          (Some wire)) u w.server.next_copy unique wire refl kept_other other old

  settled_unanswered : (k : ℕ) (result : ReplyResult) (o : Option Copy) (u : ℕ) → IsUnanswered w u
      → IsUnanswered (after_settle w k result o) u
  settled_unanswered k result None u old = record { copies = old.copies; kept = old.kept }
  settled_unanswered k result (Some copy) u old = by result.result
    where
      left : (x : Option Kept) → get (kept_after w.server.kept copy x) u ≡ None
      left None = old.kept
      left (Some x) = unless (nat_eq x.first copy.first)
        where
          unless : (b : Bool) → get (cond b (remove w.server.kept copy.unique) w.server.kept) u ≡ None
          unless true = left_none w.server.kept copy.unique u old.kept
          unless false = old.kept

      by : (r : WriteResult) → IsUnanswered (record w {
        results = without_at w.results k;
        server = after_result (record w.server {
          copies = remove w.server.copies result.number;
          kept = kept_after w.server.kept copy (get w.server.kept copy.unique);
        }) copy.wire r;
      }) u
      by Accepted = record { copies = old.copies; kept = left (get w.server.kept copy.unique) }
      by NoEntry = record { copies = old.copies; kept = left (get w.server.kept copy.unique) }
      by Invalid = record { copies = old.copies; kept = left (get w.server.kept copy.unique) }

  mounted_unanswered : (e : Event) (o : Outcome) (after : World) → Happened choice w e o after → is_mount e ≡ true
      → (u : ℕ) → IsUnanswered after u
  mounted_unanswered e o after (by_mount f m v idle) is u = nothing_sent after u refl refl
  mounted_unanswered e o after did is u = absurd (true≢false (sym is))

  -- Unanswered before is unanswered now.
  stays_unanswered : (e : Event) (o : Outcome) (after : World) → Happened choice w e o after → (u : ℕ) → u % 2 ≡ 0
      → 1 ≤ unperformed after u → IsUnanswered w u → IsUnanswered after u
  stays_unanswered e o after (by_mount f m v idle) u even stands old = nothing_sent after u refl refl
  stays_unanswered e o after (by_call call ready room within) u even stands old = unanswered_same after u refl refl old
  stays_unanswered e o after (by_read_interrupt original rest live there within) u even stands old =
      unanswered_same after u refl refl old
  stays_unanswered e o after (by_read_forgets n live free can within few) u even stands old =
      unanswered_same after u refl refl old
  stays_unanswered e o after (by_read_pending k unique kept body live free there says within) u even stands old =
      unanswered_same after u refl refl old
  stays_unanswered e o after (by_take k r there within) u even stands old = taken_unanswered k r there u even old
  stays_unanswered e o after (by_perform unique t there within) u even stands old =
      performed_unanswered unique t there u even stands old
  stays_unanswered e o after (by_again unique kept there current within) u even stands old =
      unanswered_push after u w.server.next_copy unique kept.wire refl old.kept
      (λ same. let none = old.kept in absurd (cc (
        there,
        subst (λ (n : ℕ). get w.server.kept n ≡ None) (sym same) none,
      ))) old
  stays_unanswered e o after (by_write k sent there within) u even stands old =
      record { copies = All-without (λ (s : Sent). s.unique ≢ u) w.replies k old.copies; kept = old.kept }
  stays_unanswered e o after (by_settle k result there) u even stands old =
      settled_unanswered k result (get w.server.copies result.number) u old
  stays_unanswered e o after (by_signal call fatal state live there within) u even stands old =
      unanswered_same after u refl refl old
  stays_unanswered e o after (by_tick ms timely) u even stands old = unanswered_same after u refl refl old
  stays_unanswered e o after (by_drop directory name bound live there) u even stands old =
      unanswered_same after u refl refl old
  stays_unanswered e o after (by_evict node counted live there unused) u even stands old =
      unanswered_same after u refl refl old
  stays_unanswered e o after (by_abort live) u even stands old = nothing_sent after u refl refl

  -- A mount leaves no reply, and any other event uses what was there before.
  unanswered_after : (e : Event) (o : Outcome) (after : World) → step choice w e ≡ Ok (o, after)
      → Happened choice w e o after → (u : ℕ) → u % 2 ≡ 0 → 1 ≤ unperformed after u → IsUnanswered after u
  unanswered_after e o after stepped did u even stands = by (is_mount e) refl
    where
      by : (b : Bool) → is_mount e ≡ b → IsUnanswered after u
      by true is = mounted_unanswered e o after did is u
      by false is = stays_unanswered e o after did u even stands (was_unanswered e o after is stepped u even stands)

pub requests_stay : (choice : ℕ → ℕ) (w : World) → RequestsSound w → IsNumberedWhileLive w
    → (e : Event) (o : Outcome) (after : World) → step choice w e ≡ Ok (o, after) → RequestsSound after
requests_stay choice w sound numbered e o after stepped =
    let did = happened choice w o after e stepped in
    record {
      once = stands_once choice w sound.once numbered e o after stepped;
      numbers = numbers_after choice w sound numbered e o after did;
      unanswered = unanswered_after choice w sound numbered e o after stepped did;
    }

pub first_requests : RequestsSound first_world
first_requests = record {
  once = first_once;
  numbers = All-nil Bears;
  unanswered = λ u even stands. nothing_sent first_world u refl refl;
}
