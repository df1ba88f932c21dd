-- Replies to RELEASEs and INTERRUPTs say only whether the request failed, and no copy is refused for its body, whatever
-- the event.
use Rattle.fuse_spec.specs.Calls.Calls.{for_minor}
use Rattle.std.proofs.Common.{◌≡◌, ◌≢◌, ◌⊎◌, ℕ, ◌+◌, ◌≤◌, ◌<◌, Bool, true, false, true≢false, cond, List, [], ◌∷◌, ◌++◌, drop, length, Option, Some, None, slice_get, get_or, refl, ap, sym, subst, ◌∙◌, arith, inl, inr, All}
use Rattle.std.specs.Prelude.{◌%◌}
use Rattle.std.specs.List.{remove as without_at}
use Rattle.std.proofs.lemmas.List.Elements.{All-nil, All-cons, All-push}
use Rattle.fuse_spec.specs.declared.Mark.{Mark}
use Rattle.fuse_spec.specs.declared.Mark.TheVariants as mark
use Rattle.fuse_spec.specs.declared.Opened.{Opened}
use Rattle.fuse_spec.specs.declared.Purpose.{Purpose}
use Rattle.fuse_spec.specs.declared.Purpose.TheVariants as purpose
use Rattle.fuse_spec.specs.declared.QueuedRequest.{QueuedRequest}
use Rattle.fuse_spec.specs.declared.ReplyResult.{ReplyResult}
use Rattle.fuse_spec.specs.declared.WriteResult.TheVariants.{Invalid}
use Rattle.fuse_spec.specs.Kernel.Kernel.{Kernel, is_live, body_of, call_begun, call_signalled}
use Rattle.fuse_spec.specs.Values.Maps.{Map, get, remove}
use Rattle.fuse_spec.specs.Kernel.Messages.{RequestBody, Request, init, asks, release, forget, batch_forget, interrupt, WireReply}
use Rattle.fuse_spec.specs.Server.Nodes.{file_of, is_open, handle_back}
use Rattle.fuse_spec.specs.Files.Operations.{done, failed}
use Rattle.fuse_spec.specs.Server.Performs.{is_still_held, refusing, performing, performed, served}
use Rattle.fuse_spec.specs.Kernel.QueueCalls.{can_read_forgets, after_read_pending}
use Rattle.fuse_spec.specs.Kernel.Queues.{QueueState, request_under}
use Rattle.fuse_spec.specs.Kernel.Replies.{is_empty_reply, reply_written}
use Rattle.fuse_spec.specs.Server.Server.{Server, HeldRequest, Kept, Copy}
use Rattle.fuse_spec.specs.Server.Taking.{taking, interrupting}
use Rattle.fuse_spec.specs.World.Worlds.{World, Sent, first_world, copy_put, server_settled, after_take, after_perform, after_again, after_write, after_settle}
use Rattle.fuse_spec.specs.World.Events.{Event, Outcome}
use Rattle.fuse_spec.specs.Reference.Plain.{Plain}
use Rattle.fuse_spec.specs.World.Steps.{Happens}
use Rattle.fuse_spec.proofs.QueueReadings.{key_count-le-one}
use Rattle.fuse_theorem.specs.AskedRequests.{IsAsked}
use Rattle.fuse_theorem.specs.EveryList.{BothSound}
use Rattle.fuse_theorem.specs.Faultless.{Faultless}
use Rattle.fuse_theorem.specs.Numbering.{IsNumbered}
use Rattle.fuse_theorem.specs.RepliesFit.{IsEmptyUnder, FitsPurpose, RepliesFit, RepliesFitWhileLive}
use Rattle.fuse_theorem.proofs.Calls.Finding.{All-removed}
use Rattle.fuse_theorem.proofs.Lists.SetMarks.{All-marked}
use Rattle.fuse_theorem.proofs.Calls.CallsContinue.{begun_goes_on}
use Rattle.fuse_theorem.proofs.RefusalCases.Happened.{Happened, by_mount, by_call, by_read_interrupt, by_read_forgets, by_read_pending, by_take, by_perform, by_again, by_write, by_settle, by_signal, by_tick, by_drop, by_evict, by_abort, happened}
use Rattle.fuse_theorem.proofs.Replies.KeptReplies.{taken_kept, served_kept, settled_kept}
use Rattle.fuse_theorem.proofs.Requests.LinksSound.{none_at}
use Rattle.fuse_theorem.proofs.Replies.NoWrongBody.{none_invalid}
use Rattle.fuse_theorem.proofs.Requests.NumbersStay.{replying_kernel}
use Rattle.fuse_theorem.proofs.Requests.PendingCounts.{moves_fewer}
use Rattle.fuse_theorem.proofs.Requests.QueueMoves.{QueueMoves, stays, queues, ends, marks, moves_on, read_moves, begun_moves, signalled_moves, written_moves}
use Rattle.fuse_theorem.proofs.Refining.Queuing.{All-without}
use Rattle.fuse_theorem.proofs.Requests.RequestsAsked.{request_even}
use Rattle.fuse_theorem.proofs.Lists.UnderNumber.{of_entries}

-- ---- the kernel moves its requests

-- What holds of each request, whatever its mark, and of each that is queued later.
moved_all : (P : ℕ × QueuedRequest Purpose → Type 0)
    → ((x : ℕ × QueuedRequest Purpose) (m : Mark) → P x → P (x.0, record { mark = m; kept = x.1.kept }))
    → (q r : QueueState Purpose) → QueueMoves q r
    → ((n : ℕ) (new : QueuedRequest Purpose) → q.next ≤ n → P (n, new)) → All P q.requests → All P r.requests
moved_all P again q r (stays a b same next) new h = subst (All P) (sym same) h
moved_all P again q r (queues a kept) new h = All-push P q.requests
    (q.next, record { mark = mark.Unread; kept = kept }) h (new q.next _ (omega arith))
moved_all P again q r (ends a b unique same next) new h = subst (All P) (sym same) (All-removed P unique q.requests h)
moved_all P again q r (marks a b unique old m at unread same next) new h =
    subst (All P) (sym same) (All-marked P unique m q.requests h (λ x p. again x m p))
moved_all P again q r (moves_on a b c first second) new h =
    let few = moves_fewer q b first in
    let rises = few.rises in
    moved_all P again b r second (λ n x le. new n x (omega (arith, rises, le))) (moved_all P again q b first new h)

-- ---- replies that say only whether the request failed

-- A request that is performed as a RELEASE is.
release_empty : (choice : ℕ → ℕ) (s : Server) (t : HeldRequest) (o : Opened) → t.body ≡ release o
    → is_empty_reply (performed choice s t).wire ≡ true
release_empty choice s t o is = by_mark t.marked
  where
    by_open : (b : Bool) → is_empty_reply (cond b (record {
      server = record s { handles = handle_back s.handles o.fh };
      wire = done;
    }) (refusing s 9)).wire ≡ true
    by_open true = refl
    by_open false = refl

    by_held : (b : Bool) → is_empty_reply (cond b (performing choice s t.body) (refusing s 5)).wire ≡ true
    by_held true = subst (λ (x : RequestBody). is_empty_reply (performing choice s x).wire ≡ true) (sym is)
        (by_open (is_open s.handles o.fh (file_of s.nodes o.nodeid)))
    by_held false = refl

    by_mark : (b : Bool) → is_empty_reply (cond b (refusing s 4)
        (cond (is_still_held s.nodes t.generations) (performing choice s t.body) (refusing s 5))).wire ≡ true
    by_mark true = refl
    by_mark false = by_held (is_still_held s.nodes t.generations)

-- What the server says as it takes a request.
taken_empty : (s : Server) (unique : ℕ) (body : RequestBody) (wire : WireReply)
    → (taking s unique body).reply ≡ Some wire → is_empty_reply wire ≡ true
taken_empty s unique (init flags) wire e = absurd (cc (e))
taken_empty s unique (asks operation) wire e = absurd (cc (e))
taken_empty s unique (release o) wire e = absurd (cc (e))
taken_empty s unique (forget f) wire e = absurd (cc (e))
taken_empty s unique (batch_forget fs) wire e = absurd (cc (e))
taken_empty s unique (interrupt original) wire e = by (get s.held original) (get s.kept original) e
  where
    by : (h : Option HeldRequest) (o : Option Kept) → (interrupting s unique original h o).reply ≡ Some wire
        → is_empty_reply wire ≡ true
    by (Some t) o f = absurd (cc (f))
    by None (Some k) f = absurd (cc (f))
    by None None f = let same : failed 11 ≡ wire = cc (f) in
        subst (λ (x : WireReply). is_empty_reply x ≡ true) same refl

-- The same, or fewer, replies and kept replies.
fits_fewer : (replies replies' : List Sent) (kept kept' : Map Kept)
    → ((u : ℕ) → All (λ (s : Sent). s.unique ≡ u → is_empty_reply s.wire ≡ true) replies
    → All (λ (s : Sent). s.unique ≡ u → is_empty_reply s.wire ≡ true) replies')
    → ((u : ℕ) (k : Kept) → get kept' u ≡ Some k → get kept u ≡ Some k) → (e : ℕ × QueuedRequest Purpose)
    → FitsPurpose replies kept e.0 e.1.kept → FitsPurpose replies' kept' e.0 e.1.kept
fits_fewer replies replies' kept kept' copies keeps e = by e.1.kept
  where
    by : (p : Purpose) → FitsPurpose replies kept e.0 p → FitsPurpose replies' kept' e.0 p
    by purpose.Init h = tt
    by (purpose.Release o) h = record {
      of_copies = copies e.0 h.of_copies;
      of_kept = λ k at. h.of_kept k (keeps e.0 k at);
    }
    by (purpose.Call call) h = tt

-- One more copy, and perhaps its kept reply: each request that it answers as a RELEASE is answered only whether it
-- failed.
fits_more : (replies : List Sent) (new : Sent) (kept kept' : Map Kept) (e : ℕ × QueuedRequest Purpose)
    → ((o : Opened) → e.1.kept ≡ purpose.Release o → IsEmptyUnder replies kept e.0 → new.unique ≡ e.0
    → is_empty_reply new.wire ≡ true)
    → ((k : Kept) → get kept' e.0 ≡ Some k → ((new.unique ≡ e.0) × (k.wire ≡ new.wire)) ⊎ (get kept e.0 ≡ Some k))
    → FitsPurpose replies kept e.0 e.1.kept → FitsPurpose (replies ++ new ∷ []) kept' e.0 e.1.kept
fits_more replies new kept kept' e empties keeps = by e.1.kept refl
  where
    by : (p : Purpose) → e.1.kept ≡ p → FitsPurpose replies kept e.0 p → FitsPurpose (replies ++ new ∷ []) kept' e.0 p
    by purpose.Init is h = tt
    by (purpose.Release o) is h = record {
      of_copies = All-push (λ (s : Sent). s.unique ≡ e.0 → is_empty_reply s.wire ≡ true) replies new h.of_copies
          (λ mine. empties o is h mine);
      of_kept = λ k at. elim (keeps k at) [
        | inl x ↦ ap is_empty_reply x.1 ∙ empties o is h x.0
        | inr there ↦ h.of_kept k there
      ];
    }
    by (purpose.Call call) is h = tt

-- ---- every event

abbrev Fits : List Sent → Map Kept → ℕ × QueuedRequest Purpose → Type 0
Fits replies kept e = FitsPurpose replies kept e.0 e.1.kept

abbrev FitsOdd : Sent → Type 0
FitsOdd s = s.unique % 2 ≡ 1 → is_empty_reply s.wire ≡ true

module _ (choice : ℕ → ℕ) (w : World) (p : Plain) (both : BothSound w p) (faultless : Faultless w)
    (old : RepliesFitWhileLive w) where
  -- nothing replies to a request that is not queued yet
  coming_fits : is_live w.kernel.phase ≡ true → (n : ℕ) (new : QueuedRequest Purpose) → w.kernel.queues.next ≤ n
      → FitsPurpose w.replies w.server.kept n new.kept
  coming_fits live n new high = by new.kept
    where
      numbered : IsNumbered w
      numbered = let world = both.world in let lookups = world.lookups in let numbers =
          lookups.numbers in numbers.live live

      by : (x : Purpose) → FitsPurpose w.replies w.server.kept n x
      by purpose.Init = tt
      by (purpose.Release o) = record {
        of_copies = λ i d lt e. let low = numbered.replies_below i d lt in absurd (omega (arith, low, e, high));
        of_kept = λ k at. let low = numbered.kept_below live n k at in absurd (omega (arith, low, high));
      }
      by (purpose.Call call) = tt

  moved : is_live w.kernel.phase ≡ true → (q : QueueState Purpose) → QueueMoves w.kernel.queues q
      → All (λ (e : ℕ × QueuedRequest Purpose). FitsPurpose w.replies w.server.kept e.0 e.1.kept) q.requests
  moved live q moves = moved_all (Fits w.replies w.server.kept) (λ x m h. h) w.kernel.queues q moves (coming_fits live)
      (old live).released

  goes_on : is_live w.kernel.phase ≡ true → (k : Kernel) → QueueMoves w.kernel.queues k.queues
      → (requests : List Request) → RepliesFit (record w { kernel = k; requests = requests })
  goes_on live k moves requests = record {
    released = moved live k.queues moves;
    interrupted = (old live).interrupted;
    results = (old live).results;
  }

  -- ---- the server takes, performs and sends again

  one_more : is_live w.kernel.phase ≡ true → (v : World) (new : Sent) → v.kernel ≡ w.kernel
      → v.replies ≡ w.replies ++ new ∷ [] → v.results ≡ w.results
      → All (λ (e : ℕ × QueuedRequest Purpose). FitsPurpose
      (w.replies ++ new ∷ []) v.server.kept e.0 e.1.kept) w.kernel.queues.requests
      → (new.unique % 2 ≡ 1 → is_empty_reply new.wire ≡ true) → RepliesFit v
  one_more live v new kernel replies results released odd = record {
    released = subst (λ (k : Kernel). All (Fits v.replies v.server.kept) k.queues.requests) (sym kernel)
        (subst (λ (xs : List Sent). All (Fits xs v.server.kept) w.kernel.queues.requests) (sym replies) released);
    interrupted = subst (All FitsOdd) (sym replies) (All-push FitsOdd w.replies new (old live).interrupted odd);
    results = subst (All (λ (r : ReplyResult). r.result ≢ Invalid)) (sym results) (old live).results;
  }

  takes : is_live w.kernel.phase ≡ true → (k : ℕ) (r : Request)
      → RepliesFit (after_take w k r.unique (taking w.server r.unique r.body))
  takes live k r = by (taking w.server r.unique r.body).reply refl
    where
      s : Server
      s = (taking w.server r.unique r.body).server

      kept_was : (u : ℕ) (x : Kept) → get (taking w.server r.unique r.body).server.kept u ≡ Some x
          → get w.server.kept u ≡ Some x
      kept_was u x at = ap (λ (m : Map Kept). get m u) (sym (taken_kept w.server r.unique r.body)) ∙ at

      by : (o : Option WireReply) → (taking w.server r.unique r.body).reply ≡ o
          → RepliesFit (copy_put (record w {
            requests = without_at w.requests k;
            server = (taking w.server r.unique r.body).server;
          }) w.server.next_copy r.unique o)
      by None none = record {
        released = λ i d lt. fits_fewer w.replies w.replies w.server.kept (taking w.server r.unique r.body).server.kept
            (λ u h. h) kept_was (get_or w.kernel.queues.requests i d) ((old live).released i d lt);
        interrupted = (old live).interrupted;
        results = (old live).results;
      }
      by (Some wire) says =
          let new : Sent = record { number = w.server.next_copy; unique = r.unique; wire = wire } in
          let empty = taken_empty w.server r.unique r.body wire says in
          one_more live _ new refl refl refl
          (λ i d lt. fits_more w.replies new w.server.kept (taking w.server r.unique r.body).server.kept
          (get_or w.kernel.queues.requests i d) (λ o is h mine. empty) (λ x at. inr (kept_was _ x at))
          ((old live).released i d lt)) (λ odd. empty)

  performs : is_live w.kernel.phase ≡ true → (unique : ℕ) (t : HeldRequest) → get w.server.held unique ≡ Some t
      → RepliesFit (after_perform w unique (served choice w.server unique t))
  performs live unique t there = by w.server.aborted (both.links.serving live)
    where
      asked : IsAsked w.kernel unique t.body
      asked = ((both.asked live).held unique t there).is_asked

      new : Sent
      new = record { number = w.server.next_copy; unique = unique; wire = (served choice w.server unique t).wire }

      is_asked : (y : QueuedRequest Purpose) → request_under w.kernel.queues unique ≡ Some y → y ≡ asked.request
      is_asked y found = let there_too = asked.under in cc (found, there_too)

      -- the request of this number is a RELEASE just where it is held as one
      held_so : (x : QueuedRequest Purpose) (o : Opened) → x ≡ asked.request → x.kept ≡ purpose.Release o
          → t.body ≡ release o
      held_so x o same is =
          let says : body_of w.kernel (purpose.Release o) ≡ Some t.body =
          ap (body_of w.kernel) (sym is ∙ ap (λ (y : QueuedRequest Purpose). y.kept) same) ∙ asked.asks in
          let spelled : Some (release o) ≡ Some t.body = says in
          cc (spelled)

      reply_matches : (i : ℕ) (d : ℕ × QueuedRequest Purpose) → i < length w.kernel.queues.requests
          → FitsPurpose (w.replies ++ new ∷ []) (served choice w.server unique t).server.kept
          (get_or w.kernel.queues.requests i d).0 (get_or w.kernel.queues.requests i d).1.kept
      reply_matches i d lt =
          let e = get_or w.kernel.queues.requests i d in
          let world = both.world in
          let only = of_entries (λ (y : QueuedRequest Purpose). y ≡ asked.request) unique w.kernel.queues.requests
          (key_count-le-one w.kernel.queues unique world.queues) (λ y found. is_asked y found) i d lt in
          fits_more w.replies new w.server.kept (served choice w.server unique t).server.kept e
          (λ o is h mine. release_empty choice (record w.server { held = remove w.server.held unique }) t o
          (held_so e.1 o (only (sym mine)) is))
          (λ k at. elim (served_kept w.server choice unique t e.0 k at) [ inl h ↦ inl (sym h.0, h.1) | inr h ↦ inr h ])
          ((old live).released i d lt)

      by : (b : Bool) → b ≡ false → RepliesFit (copy_put
          (record w { server = (served choice w.server unique t).server }) w.server.next_copy unique
          (cond b None (Some (served choice w.server unique t).wire)))
      by true e = absurd (true≢false e)
      by false e = one_more live _ new refl refl refl reply_matches
          (λ odd. let world = both.world in
          let even = request_even w.kernel.queues world.queues unique asked.request asked.under in
          absurd (omega (arith, even, odd)))

  agains : is_live w.kernel.phase ≡ true → (unique : ℕ) (k : Kept) → get w.server.kept unique ≡ Some k
      → RepliesFit (after_again w unique k)
  agains live unique k there =
      let new : Sent = record { number = w.server.next_copy; unique = unique; wire = k.wire } in
      one_more live (after_again w unique k) new refl refl refl
      (λ i d lt. fits_more w.replies new w.server.kept w.server.kept (get_or w.kernel.queues.requests i d)
      (λ o is h mine. h.of_kept k (subst (λ (n : ℕ). get w.server.kept n ≡ Some k) mine there)) (λ x at. inr at)
      ((old live).released i d lt))
      (λ odd. let even = faultless.kept unique k there in absurd (omega (arith, even, odd)))

  -- ---- the kernel takes a copy, and the server settles one

  writes : is_live w.kernel.phase ≡ true → (k : ℕ) (sent : Sent) → slice_get w.replies k ≡ Some sent
      → is_live (reply_written w.kernel sent.unique sent.wire).1.phase ≡ true
      → RepliesFit (after_write w k sent (reply_written w.kernel sent.unique sent.wire))
  writes live k sent there alive =
      let took = reply_written w.kernel sent.unique sent.wire in
      let all_moved = moved live took.1.queues (written_moves w.kernel sent.unique sent.wire alive) in
      record {
        released = λ i d lt. fits_fewer w.replies (without_at w.replies k) w.server.kept w.server.kept
            (λ u h. All-without (λ (s : Sent). s.unique ≡ u → is_empty_reply s.wire ≡ true) w.replies k h)
            (λ u x at. at) (get_or took.1.queues.requests i d) (all_moved i d lt);
        interrupted = All-without FitsOdd w.replies k (old live).interrupted;
        results = All-push (λ (r : ReplyResult). r.result ≢ Invalid) w.results
            (record { number = sent.number; unique = sent.unique; result = took.0 }) (old live).results
            (none_invalid w p both (old live) k sent there);
      }

  settles : is_live w.kernel.phase ≡ true → (k : ℕ) (result : ReplyResult) (o : Option Copy)
      → RepliesFit (after_settle w k result o)
  settles live k result o = record {
    released = λ i d lt. fits_fewer w.replies w.replies w.server.kept (server_settled w.server result o).kept
        (λ u h. h) (settled_kept w.server result o) (get_or w.kernel.queues.requests i d) ((old live).released i d lt);
    interrupted = (old live).interrupted;
    results = All-without (λ (r : ReplyResult). r.result ≢ Invalid) w.results k (old live).results;
  }

  by_event : (e : Event) (o : Outcome) (after : World) → Happened choice w e o after → RepliesFitWhileLive after
  by_event e o after (by_mount f m v idle) live = record {
    released = All-cons (Fits [] []) _ [] tt (All-nil (Fits [] []));
    interrupted = All-nil FitsOdd;
    results = All-nil (λ (r : ReplyResult). r.result ≢ Invalid);
  }
  by_event e o after (by_call call ready room within) live = let goes =
      begun_goes_on w.kernel (for_minor w.kernel.lists_files call) in
      goes_on (ap is_live (sym goes.phase) ∙ live) (call_begun w.kernel (for_minor w.kernel.lists_files call))
      (begun_moves w.kernel (for_minor w.kernel.lists_files call)) w.requests
  by_event e o after (by_read_interrupt original rest lives there within) live =
      record { released = (old lives).released; interrupted = (old lives).interrupted; results = (old lives).results }
  by_event e o after (by_read_forgets n lives free can within few) live =
      record {
        released = by (can_read_forgets w.kernel.queues n);
        interrupted = (old lives).interrupted;
        results = (old lives).results;
      }
    where
      by : (b : Bool) → All (λ (x : ℕ × QueuedRequest Purpose). FitsPurpose w.replies w.server.kept x.0 x.1.kept)
          (cond b (record w.kernel.queues {
            forgets = drop n w.kernel.queues.forgets;
            next = w.kernel.queues.next + 2;
          }) w.kernel.queues).requests
      by true = (old lives).released
      by false = (old lives).released
  by_event e o after (by_read_pending k unique kept body lives free there says within) live =
      let world = both.world in goes_on lives (record w.kernel { queues = after_read_pending w.kernel.queues k })
      (read_moves w.kernel.queues world.queues k) after.requests
  by_event e o after (by_take k r there within) live =
      let took = taking w.server r.unique r.body in
      takes (subst (λ (q : Kernel). is_live q.phase ≡ true)
      (replying_kernel (record w {
        requests = without_at w.requests k;
        server = took.server;
      }) w.server.next_copy r.unique took.reply) live) k r
  by_event e o after (by_perform unique t there within) live =
      let did = served choice w.server unique t in
      performs (subst (λ (q : Kernel). is_live q.phase ≡ true)
      (replying_kernel (record w { server = did.server }) w.server.next_copy unique
      (cond w.server.aborted None (Some did.wire))) live) unique t there
  by_event e o after (by_again unique kept there current within) live = agains live unique kept there
  by_event e o after (by_write k sent there within) live = by (is_live w.kernel.phase) refl
    where
      by : (b : Bool) → is_live w.kernel.phase ≡ b → RepliesFit
          (after_write w k sent (reply_written w.kernel sent.unique sent.wire))
      by true lives = writes lives k sent there live
      by false dead = none_at w.replies k sent (both.links.idle dead).replies there
  by_event e o after (by_settle k result there) live = settles live k result (get w.server.copies result.number)
  by_event e o after (by_signal call fatal state lives there within) live =
      goes_on lives (call_signalled w.kernel call state fatal).1 (signalled_moves w.kernel call state fatal) w.requests
  by_event e o after (by_tick ms timely) live = goes_on live after.kernel
      (stays w.kernel.queues w.kernel.queues refl refl) w.requests
  by_event e o after (by_drop directory name bound lives there) live =
      goes_on lives after.kernel (stays w.kernel.queues w.kernel.queues refl refl) w.requests
  by_event e o after (by_evict node counted lives there unused) live =
      goes_on lives after.kernel (stays w.kernel.queues after.kernel.queues refl refl) w.requests
  by_event e o after (by_abort lives) live = absurd (true≢false (sym live))

-- Replies stay fit for their requests, whatever the event.
pub replies_stay_fit : (w : World) (p : Plain) → BothSound w p → Faultless w → RepliesFitWhileLive w
    → (e : Event) (o : Outcome) (after : World) → Happens w e o after → RepliesFitWhileLive after
replies_stay_fit w p both faultless old e o after h =
    by_event h.0 w p both faultless old e o after (happened h.0 w o after e h.2)

pub first_fit : RepliesFitWhileLive first_world
first_fit live = absurd (true≢false (sym live))

-- No result says that a body was wrong.
pub no_wrong_body : (w : World) (p : Plain) → BothSound w p → RepliesFitWhileLive w
    → All (λ (r : ReplyResult). r.result ≢ Invalid) w.results
no_wrong_body w p both fit = by (is_live w.kernel.phase) refl
  where
    by : (b : Bool) → is_live w.kernel.phase ≡ b → All (λ (r : ReplyResult). r.result ≢ Invalid) w.results
    by true live = (fit live).results
    by false dead = subst (All (λ (r : ReplyResult). r.result ≢ Invalid)) (sym (both.links.idle dead).results)
        (All-nil (λ (r : ReplyResult). r.result ≢ Invalid))
