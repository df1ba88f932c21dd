-- A kept reply whose request is unanswered has a copy on the link, whatever happens.
use Rattle.std.proofs.Common.{◌≡◌, ◌≢◌, ℕ, ◌+◌, ◌-◌, ◌<◌, Bool, true, false, true≢false, cond, List, [], ◌∷◌, ◌++◌, Option, Some, None, ◌⊎◌, nat_eq, slice_get, drop, zero, suc, refl, ap, sym, subst, ◌∙◌, arith, inl, inr}
use Rattle.std.specs.Prelude.{◌%◌, nat_lt}
use Rattle.std.specs.List.{remove as without_at}
use Rattle.std.specs.Map.{lookup, remove_entry}
use Rattle.fuse_spec.specs.declared.Mark.{Mark}
use Rattle.fuse_spec.specs.declared.Mark.TheVariants.{Unread}
use Rattle.fuse_spec.specs.declared.Purpose.{Purpose}
use Rattle.fuse_spec.specs.declared.QueuedRequest.{QueuedRequest}
use Rattle.fuse_spec.specs.Kernel.Queues.{QueueState, IsSound, is_unread, request_under}
use Rattle.fuse_spec.specs.Kernel.QueueCalls.{set_mark, can_read_forgets, waiting, without}
use Rattle.fuse_spec.proofs.QueueCounts.{lookup-no_key, key_count}
use Rattle.fuse_spec.proofs.QueueReadings.{request_under-without}
use Rattle.fuse_spec.specs.declared.ReplyResult.{ReplyResult}
use Rattle.fuse_spec.specs.declared.WriteResult.{WriteResult}
use Rattle.fuse_spec.specs.declared.WriteResult.TheVariants.{Accepted, NoEntry, Invalid}
use Rattle.fuse_spec.specs.Values.Maps.{Map, get, put, remove}
use Rattle.fuse_spec.specs.Kernel.Messages.{Request, RequestBody, init, asks, release, forget, batch_forget, interrupt, WireReply}
use Rattle.fuse_spec.specs.declared.Purpose.TheVariants as purpose
use Rattle.std.specs.Option.{option_map_or}
use Rattle.std.proofs.lemmas.Bool.Decides.{nat_tests}
use Rattle.fuse_spec.specs.Kernel.Kernel.{Kernel, is_live, kernel_aborted, call_begun, call_signalled}
use Rattle.fuse_spec.specs.Kernel.Replies.{is_agreement, ended_by, request_reply_written, interrupt_reply_written, replied_to_call, reply_written, made_ready}
use Rattle.fuse_spec.specs.Server.Server.{HeldRequest, Kept, Copy}
use Rattle.fuse_spec.specs.Server.Taking.{taking, interrupting}
use Rattle.fuse_spec.specs.Server.Performs.{served}
use Rattle.fuse_spec.specs.Server.Copies.{kept_after, after_result}
use Rattle.fuse_spec.specs.Calls.Calls.{Call, for_minor}
use Rattle.fuse_spec.specs.World.Events.{Event, Outcome}
use Rattle.fuse_spec.specs.World.Steps.{Happens}
use Rattle.fuse_theorem.specs.Numbering.{IsNumberedWhileLive}
use Rattle.fuse_theorem.proofs.Calls.CallsContinue.{begun_goes_on}
use Rattle.fuse_theorem.proofs.RefusalCases.Happened.{Happened, by_mount, by_call, by_read_interrupt, by_read_forgets, by_read_pending, by_take, by_perform, by_again, by_write, by_settle, by_signal, by_tick, by_drop, by_evict, by_abort, happened}
use Rattle.fuse_spec.specs.World.Worlds.{World, Sent, first_world, world_after_read_pending, copy_put, after_take, after_perform, after_write, after_settle}
use Rattle.fuse_theorem.specs.Copies.{SomeHas, here, there, KeptAreSent}
use Rattle.fuse_theorem.specs.WorldSound.{WorldSound}
use Rattle.fuse_theorem.proofs.Requests.DrawnNumbers.{number_even}
use Rattle.fuse_theorem.proofs.Requests.NumbersStay.{ReceivesReply, goes_on, ends as received_ends, calls_of, written_received, unreceived, numbers_stay}
use Rattle.fuse_theorem.proofs.Nodes.NodesSound.{put_found}
use Rattle.fuse_theorem.proofs.Requests.PerformedRest.{performed_rest}
use Rattle.fuse_theorem.proofs.Refining.Settling.{kept_was}
use Rattle.fuse_theorem.proofs.Calls.Finding.{other_is}
use Rattle.fuse_theorem.proofs.Requests.PendingCounts.{moves_fewer, unread_pending}
use Rattle.fuse_theorem.proofs.Requests.QueueMoves.{QueueMoves, stays, queues, ends, marks, moves_on, read_moves, begun_moves, signalled_moves, replied_moves, written_moves}

-- ---- a number without a request stays without one

lookup_pushed : {X : Type 0} (u : ℕ) (es : List (ℕ × X)) (e : ℕ × X) → nat_eq u e.0 ≡ false
    → lookup (nat_eq u) es ≡ None → lookup (nat_eq u) (es ++ e ∷ []) ≡ None
lookup_pushed u [] e other none = rw other refl
lookup_pushed u (x ∷ es) e other none = by (nat_eq u x.0) none (λ f. lookup_pushed u es e other f)
  where
    by : (b : Bool) → cond b (Some x.1) (lookup (nat_eq u) es) ≡ None
        → (lookup (nat_eq u) es ≡ None → lookup (nat_eq u) (es ++ e ∷ []) ≡ None)
        → cond b (Some x.1) (lookup (nat_eq u) (es ++ e ∷ [])) ≡ None
    by true f rest = absurd (cc)
    by false f rest = rest f

lookup_left : {X : Type 0} (u v : ℕ) (es : List (ℕ × X)) → lookup (nat_eq u) es ≡ None
    → lookup (nat_eq u) (remove_entry (nat_eq v) es) ≡ None
lookup_left u v [] none = none
lookup_left u v (e ∷ es) none = by (nat_eq u e.0) refl none (λ f. lookup_left u v es f)
  where
    by : (b : Bool) → nat_eq u e.0 ≡ b → cond b (Some e.1) (lookup (nat_eq u) es) ≡ None
        → (lookup (nat_eq u) es ≡ None → lookup (nat_eq u) (remove_entry (nat_eq v) es) ≡ None)
        → lookup (nat_eq u) (remove_entry (nat_eq v) (e ∷ es)) ≡ None
    by true is f left = absurd (cc)
    by false is f left = gone (nat_eq v e.0) (left f)
      where
        gone : (c : Bool) → lookup (nat_eq u) (remove_entry (nat_eq v) es) ≡ None
            → lookup (nat_eq u) (cond c es (e ∷ remove_entry (nat_eq v) es)) ≡ None
        gone true rest = f
        gone false rest = rw is rest

lookup_marked : (u v : ℕ) (m : Mark) (es : List (ℕ × QueuedRequest Purpose)) → lookup (nat_eq u) es ≡ None
    → lookup (nat_eq u) (set_mark v es m) ≡ None
lookup_marked u v m [] none = none
lookup_marked u v m (e ∷ es) none = by (nat_eq u e.0) refl none (λ f. lookup_marked u v m es f)
  where
    by : (b : Bool) → nat_eq u e.0 ≡ b → cond b (Some e.1) (lookup (nat_eq u) es) ≡ None
        → (lookup (nat_eq u) es ≡ None → lookup (nat_eq u) (set_mark v es m) ≡ None)
        → lookup (nat_eq u) (set_mark v (e ∷ es) m) ≡ None
    by true is f left = absurd (cc)
    by false is f left = gone (nat_eq v e.0)
      where
        gone : (c : Bool) → lookup (nat_eq u) (cond c ((e.0, record { mark = m; kept = e.1.kept }) ∷ es)
            (e ∷ set_mark v es m)) ≡ None
        gone true = rw is f
        gone false = rw is (left f)

pub stays_absent : (q r : QueueState Purpose) → QueueMoves q r → (u : ℕ) → u < q.next → request_under q u ≡ None
    → request_under r u ≡ None
stays_absent q r (stays a b same next) u low none = ap (lookup (nat_eq u)) same ∙ none
stays_absent q r (queues a kept) u low none = lookup_pushed u q.requests
    (q.next, record { mark = Unread; kept = kept }) (other_is u q.next (λ e. absurd (omega (arith, e, low)))) none
stays_absent q r (ends a b v same next) u low none = ap (lookup (nat_eq u)) same ∙ lookup_left u v q.requests none
stays_absent q r (marks a b v old m found kept same next) u low none =
    ap (lookup (nat_eq u)) same ∙ lookup_marked u v m q.requests none
stays_absent q r (moves_on a b c first rest) u low none =
    let x = moves_fewer q b first in
    let rises = x.rises in
    stays_absent b r rest u (omega (arith, low, rises)) (stays_absent q b first u low none)

-- ---- an element that has a property

module _ {X : Type 0} (P : X → Type 0) where
  pub has_pushed : (xs : List X) (y : X) → SomeHas P xs → SomeHas P (xs ++ y ∷ [])
  has_pushed xs y (here x rest p) = here x (rest ++ y ∷ []) p
  has_pushed xs y (there x rest h) = there x (rest ++ y ∷ []) (has_pushed rest y h)

  pub has_last : (xs : List X) (y : X) → P y → SomeHas P (xs ++ y ∷ [])
  has_last [] y p = here y [] p
  has_last (x ∷ xs) y p = there x (xs ++ y ∷ []) (has_last xs y p)

  -- it is the one that goes, or there still
  pub has_removed : (xs : List X) (k : ℕ) (y : X) → slice_get xs k ≡ Some y → SomeHas P xs
      → P y ⊎ SomeHas P (without_at xs k)
  has_removed xs zero y at (here x rest p) = let same : x ≡ y = cc in inl (subst P same p)
  has_removed xs zero y at (there x rest h) = inr h
  has_removed xs (suc k) y at (here x rest p) = inr (here x (without_at rest k) p)
  has_removed xs (suc k) y at (there x rest h) = elim
      (has_removed rest k y at h) [ inl p ↦ inl p | inr g ↦ inr (there x (without_at rest k) g) ]

-- ---- events

abbrev is_unread_in : Option (QueuedRequest Purpose) → Bool
is_unread_in None = false
is_unread_in (Some r) = is_unread r.mark

abbrev CopyOf : ℕ → Kept → Sent → Type 0
CopyOf unique k s = (s.unique ≡ unique) × (s.wire ≡ k.wire)

-- A request that waits ends with the reply under its number.
pub ended_absent : (k : Kernel) (u : ℕ) (kept : Purpose) (wire : WireReply) → IsSound k.queues → u < k.queues.next
    → is_live (ended_by (record k { queues = without k.queues u }) kept wire).1.phase ≡ true
    → request_under (ended_by (record k { queues = without k.queues u }) kept wire).1.queues u ≡ None
ended_absent k u purpose.Init wire queues_sound low live = by (is_agreement wire) live
  where
    by : (b : Bool) → is_live (cond b (made_ready (record k { queues = without k.queues u }) wire)
        (kernel_aborted (record k { queues = without k.queues u }))).phase ≡ true
        → request_under (cond b (made_ready (record k { queues = without k.queues u }) wire)
        (kernel_aborted (record k { queues = without k.queues u }))).queues u ≡ None
    by true alive = request_under-without k.queues u queues_sound
    by false alive = absurd (true≢false (sym alive))
ended_absent k u (purpose.Release o) wire queues_sound low live = request_under-without k.queues u queues_sound
ended_absent k u (purpose.Call call) wire queues_sound low live =
    let k1 = record k { queues = without k.queues u } in
    stays_absent k1.queues (replied_to_call k1 call wire (get k.vfs.calls call)).1.queues
    (replied_moves k1 call wire (get k.vfs.calls call)) u low (request_under-without k.queues u queues_sound)

module _ (choice : ℕ → ℕ) (w : World) (sound : WorldSound w) (old : KeptAreSent w) where
  -- The requests are the same, no more is kept, and the copies are on the link still.
  quiet : (v : World) → ((u : ℕ) → request_under v.kernel.queues u ≡ request_under w.kernel.queues u)
      → ((u : ℕ) (k : Kept) → get v.server.kept u ≡ Some k → get w.server.kept u ≡ Some k)
      → ((P : Sent → Type 0) → SomeHas P w.replies → SomeHas P v.replies) → KeptAreSent v
  quiet v same kept sent u k at stands = sent (CopyOf u k) (old u k (kept u k at) (λ none. stands (same u ∙ none)))

  -- The kernel moves its requests.
  moved : (k : Kernel) → is_live w.kernel.phase ≡ true → QueueMoves w.kernel.queues k.queues
      → (requests : List Request) → KeptAreSent (record w { kernel = k; requests = requests })
  moved k live moves requests u x at stands =
      let lookups = sound.lookups in
      let numbers = lookups.numbers in
      let now = numbers.live live in
      old u x at (λ none. stands (stays_absent w.kernel.queues k.queues moves u (now.kept_below live u x at) none))

  taken : (k : ℕ) (r : Request) → KeptAreSent (after_take w k r.unique (taking w.server r.unique r.body))
  taken k r = by r.body
    where
      interrupts : (original : ℕ) (h : Option HeldRequest) (o : Option Kept)
          → KeptAreSent (after_take w k r.unique (interrupting w.server r.unique original h o))
      interrupts original (Some t) o = quiet (after_take w k r.unique
          (interrupting w.server r.unique original (Some t) o)) (λ u. refl) (λ u x at. at) (λ P h. h)
      interrupts original None (Some x) = quiet (after_take w k r.unique
          (interrupting w.server r.unique original None (Some x))) (λ u. refl) (λ u x at. at) (λ P h. h)
      interrupts original None None = quiet (after_take w k r.unique
          (interrupting w.server r.unique original None None)) (λ u. refl) (λ u x at. at)
          (λ P h. has_pushed P w.replies _ h)

      by : (body : RequestBody) → KeptAreSent (after_take w k r.unique (taking w.server r.unique body))
      by (init flags) = quiet (after_take w k r.unique (taking w.server r.unique (init flags))) (λ u. refl)
          (λ u x at. at) (λ P h. h)
      by (asks operation) = quiet (after_take w k r.unique (taking w.server r.unique (asks operation))) (λ u. refl)
          (λ u x at. at) (λ P h. h)
      by (release o) = quiet (after_take w k r.unique (taking w.server r.unique (release o))) (λ u. refl)
          (λ u x at. at) (λ P h. h)
      by (forget f) = quiet (after_take w k r.unique (taking w.server r.unique (forget f))) (λ u. refl) (λ u x at. at)
          (λ P h. h)
      by (batch_forget fs) = quiet (after_take w k r.unique (taking w.server r.unique (batch_forget fs))) (λ u. refl)
          (λ u x at. at) (λ P h. h)
      by (interrupt original) = interrupts original (get w.server.held original) (get w.server.kept original)

  performs : (unique : ℕ) (t : HeldRequest) → KeptAreSent (after_perform w unique (served choice w.server unique t))
  performs unique t = by w.server.aborted kept_is
    where
      kept_is : (served choice w.server unique t).server.kept
          ≡ cond w.server.aborted w.server.kept (put w.server.kept unique
          (record { wire = (served choice w.server unique t).wire; first = w.server.next_copy }))
      kept_is =
          let rest = performed_rest choice (record w.server { held = remove w.server.held unique }) t in
          λ i. cond (rest.aborted i) (rest.kept i) (put (rest.kept i) unique
          (record { wire = (served choice w.server unique t).wire; first = rest.next_copy i }))

      by : (b : Bool) → (served choice w.server unique t).server.kept
          ≡ cond b w.server.kept (put w.server.kept unique
          (record { wire = (served choice w.server unique t).wire; first = w.server.next_copy }))
          → KeptAreSent (copy_put (record w {
            server =
                (served choice w.server unique t).server;
          }) w.server.next_copy unique
          (cond b None (Some (served choice w.server unique t).wire)))
      by true is u x at stands = old u x (sym (ap (λ (m : Map Kept). get m u) is) ∙ at) stands
      by false is u x at stands = elim (put_found w.server.kept unique
          (record { wire = (served choice w.server unique t).wire; first = w.server.next_copy }) u x
          (sym (ap (λ (m : Map Kept). get m u) is) ∙ at)) [
            | inl h ↦ has_last (CopyOf u x) w.replies (record {
              number = w.server.next_copy;
              unique = unique;
              wire = (served choice w.server unique t).wire;
            }) (sym h.0, ap (λ (k : Kept). k.wire) h.1)
            | inr h ↦ has_pushed (CopyOf u x) w.replies _ (old u x h stands)
          ]

  settles : (k : ℕ) (result : ReplyResult) (o : Option Copy) → KeptAreSent (after_settle w k result o)
  settles k result None = quiet (after_settle w k result None) (λ u. refl) (λ u x at. at) (λ P h. h)
  settles k result (Some copy) = by result.result
    where
      by : (r : WriteResult) → KeptAreSent (record w {
        results = without_at w.results k;
        server = after_result (record w.server {
          copies = remove w.server.copies result.number;
          kept = kept_after w.server.kept copy (get w.server.kept copy.unique);
        }) copy.wire r;
      })
      by Accepted u x at stands = old u x (kept_was w.server.kept copy (get w.server.kept copy.unique) u x at) stands
      by NoEntry u x at stands = old u x (kept_was w.server.kept copy (get w.server.kept copy.unique) u x at) stands
      by Invalid u x at stands = old u x (kept_was w.server.kept copy (get w.server.kept copy.unique) u x at) stands

  -- where a kept reply's copy is written, its request waits, and ends
  answered_absent : (u : ℕ) (x : Kept) (wire : WireReply) → get w.server.kept u ≡ Some x → u % 2 ≡ 0
      → u < w.kernel.queues.next → is_live (reply_written w.kernel u wire).1.phase ≡ true
      → request_under (reply_written w.kernel u wire).1.queues u ≡ None
  answered_absent u x wire at even low = by (nat_eq (u % 2) 1) refl
    where
      unread_never : (r : QueuedRequest Purpose) → request_under w.kernel.queues u ≡ Some r → is_unread r.mark ≡ true
          → ⊥
      unread_never r under unread =
          let requests = sound.requests in
          let pends = unread_pending u w.kernel.queues r under unread in
          let none = requests.unanswered u even (omega (arith, pends)) in
          let no_kept = none.kept in
          absurd (cc (at, no_kept))

      taken_even : (o : Option (QueuedRequest Purpose)) → request_under w.kernel.queues u ≡ o → (b : Bool)
          → is_unread_in o ≡ b → is_live (request_reply_written w.kernel u wire
          (option_map_or (λ r. cond (is_unread r.mark) None (Some r.kept)) o None)).1.phase ≡ true
          → request_under (request_reply_written w.kernel u wire
          (option_map_or (λ r. cond (is_unread r.mark) None (Some r.kept)) o None)).1.queues u ≡ None
      taken_even None under b is live = under
      taken_even (Some r) under true is live = absurd (unread_never r under is)
      taken_even (Some r) under false is live =
          subst (λ (c : Bool). is_live (request_reply_written w.kernel u wire (cond c None (Some r.kept))).1.phase
          ≡ true → request_under (request_reply_written w.kernel u wire (cond c None (Some r.kept))).1.queues u
          ≡ None) (sym is)
          (λ alive. ended_absent w.kernel u r.kept wire sound.queues low alive) live

      by : (b : Bool) → nat_eq (u % 2) 1 ≡ b → is_live
          (cond b (interrupt_reply_written w.kernel u wire (waiting w.kernel.queues (u - 1)))
          (request_reply_written w.kernel u wire (waiting w.kernel.queues u))).1.phase ≡ true
          → request_under (cond b (interrupt_reply_written w.kernel u wire (waiting w.kernel.queues (u - 1)))
          (request_reply_written w.kernel u wire (waiting w.kernel.queues u))).1.queues u ≡ None
      by true odd live = absurd (true≢false (sym odd ∙ other_is (u % 2) 1 (λ e. absurd (omega (arith, e, even)))))
      by false _ live = taken_even (request_under w.kernel.queues u) refl
          (is_unread_in (request_under w.kernel.queues u)) refl live

  -- a number that has a request is even
  request_even : (u : ℕ) → request_under w.kernel.queues u ≢ None → u % 2 ≡ 0
  request_even u stands = by (nat_lt 0 (key_count u w.kernel.queues.requests)) refl
    where
      by : (b : Bool) → nat_lt 0 (key_count u w.kernel.queues.requests) ≡ b → u % 2 ≡ 0
      by true e = number_even w.kernel.queues sound.queues u (grind (arith, nat_tests, e))
      by false e = absurd (stands (lookup-no_key u w.kernel.queues.requests (grind (arith, nat_tests, e))))

  written : (k : ℕ) (sent : Sent) → slice_get w.replies k ≡ Some sent
      → KeptAreSent (after_write w k sent (reply_written w.kernel sent.unique sent.wire))
  written k sent at_k = by (is_live w.kernel.phase) refl
    where
      reply_received : is_live w.kernel.phase ≡ true → ReceivesReply w.kernel
          (reply_written w.kernel sent.unique sent.wire).1
          → KeptAreSent (after_write w k sent (reply_written w.kernel sent.unique sent.wire))
      reply_received live (received_ends dead idle uncounted) u x at stands =
          absurd (stands (ap (λ (q : QueueState Purpose). request_under q u) idle))
      reply_received live (goes_on alive rises calls) u x at stands =
          let lookups = sound.lookups in
          let numbers = lookups.numbers in
          let now = numbers.live live in
          let low = now.kept_below live u x at in
          let was : request_under w.kernel.queues u ≢ None =
          λ none. stands (stays_absent w.kernel.queues (reply_written w.kernel sent.unique sent.wire).1.queues
          (written_moves w.kernel sent.unique sent.wire alive) u low none) in
          elim (has_removed (CopyOf u x) w.replies k sent at_k (old u x at was)) [
            | inl p ↦
                absurd (stands (subst (λ (n : ℕ). is_live (reply_written w.kernel n sent.wire).1.phase ≡ true
                → request_under (reply_written w.kernel n sent.wire).1.queues u ≡ None) (sym p.0)
                (answered_absent u x sent.wire at (request_even u was) low) alive))
            | inr h ↦ h
          ]

      by : (b : Bool) → is_live w.kernel.phase ≡ b → KeptAreSent
          (after_write w k sent (reply_written w.kernel sent.unique sent.wire))
      by true live u x at stands =
          let lookups = sound.lookups in
          let numbers = lookups.numbers in
          let now = numbers.live live in
          reply_received live (written_received w.kernel live now.queues
          (calls_of w now) sent.unique sent.wire) u x at stands
      by false dead u x at stands =
          let lookups = sound.lookups in
          let numbers = lookups.numbers in
          absurd (stands (ap (λ (q : Kernel). request_under q.queues u)
          (unreceived w.kernel (numbers.idle dead) sent.unique sent.wire) ∙ ap
          (λ (q : QueueState Purpose). request_under q u) (numbers.idle dead)))

  -- A call begins, live or after an abort.
  called : (call : Call) → IsNumberedWhileLive (record w { kernel = call_begun w.kernel call })
      → KeptAreSent (record w { kernel = call_begun w.kernel call })
  called call coming = by (is_live w.kernel.phase) refl
    where
      by : (b : Bool) → is_live w.kernel.phase ≡ b → KeptAreSent (record w { kernel = call_begun w.kernel call })
      by true live u x at stands = moved (call_begun w.kernel call) live
          (begun_moves w.kernel call) w.requests u x at stands
      by false dead u x at stands =
          let goes = begun_goes_on w.kernel call in
          absurd (stands (ap (λ (q : QueueState Purpose). request_under q u)
          (coming.idle (ap is_live goes.phase ∙ dead))))

  -- forgets are read
  forgets_same : (n u : ℕ) (b : Bool) → request_under
      (cond b (record w.kernel.queues {
        forgets = drop n w.kernel.queues.forgets;
        next = w.kernel.queues.next + 2;
      }) w.kernel.queues) u ≡ request_under w.kernel.queues u
  forgets_same n u true = refl
  forgets_same n u false = refl

  by_event : (e : Event) (o : Outcome) (after : World) → IsNumberedWhileLive after → Happened choice w e o after
      → KeptAreSent after
  by_event e o after coming (by_mount f m v idle) u x at stands = absurd (cc)
  by_event e o after coming (by_call call ready room within) u x at stands =
      called (for_minor w.kernel.lists_files call) coming u x at stands
  by_event e o after coming (by_read_interrupt original rest live found within) u x at stands = old u x at stands
  by_event e o after coming (by_read_forgets n live free can within few) u x at stands =
      old u x at (λ none. stands (forgets_same n u (can_read_forgets w.kernel.queues n) ∙ none))
  by_event e o after coming (by_read_pending k unique kept body live free found says within) u x at stands =
      moved (world_after_read_pending w k unique body).kernel live (read_moves w.kernel.queues sound.queues k)
      (world_after_read_pending w k unique body).requests u x at stands
  by_event e o after coming (by_take k r found within) u x at stands = taken k r u x at stands
  by_event e o after coming (by_perform unique t found within) u x at stands = performs unique t u x at stands
  by_event e o after coming (by_again unique kept found current within) u x at stands =
      has_pushed (CopyOf u x) w.replies _ (old u x at stands)
  by_event e o after coming (by_write k sent found within) u x at stands = written k sent found u x at stands
  by_event e o after coming (by_settle k result found) u x at stands =
      settles k result (get w.server.copies result.number) u x at stands
  by_event e o after coming (by_signal call fatal state live found within) u x at stands =
      moved (call_signalled w.kernel call state fatal).1 live
      (signalled_moves w.kernel call state fatal) w.requests u x at stands
  by_event e o after coming (by_tick ms timely) u x at stands = old u x at stands
  by_event e o after coming (by_drop directory name bound live found) u x at stands = old u x at stands
  by_event e o after coming (by_evict node counted live found unused) u x at stands = old u x at stands
  by_event e o after coming (by_abort live) u x at stands = absurd (cc)

-- A kept reply whose request is unanswered has a copy on the link, whatever the event.
pub kept_stay_sent : (w : World) → WorldSound w → KeptAreSent w → (e : Event) (o : Outcome) (after : World)
    → Happens w e o after → KeptAreSent after
kept_stay_sent w sound old e o after h =
    let lookups = sound.lookups in
    by_event h.0 w sound old e o after (numbers_stay h.0 w lookups.numbers e o after h.2) (happened h.0 w o after e h.2)

pub first_kept : KeptAreSent first_world
first_kept u x at stands = absurd (cc)
