-- Each forget that is queued or sent is of a node from 2 up and of one lookup at least, and no reply is kept under the
-- number of an INTERRUPT.
use Rattle.fuse_theorem.proofs.Refining.SpokenStay.{spoken_after}
use Rattle.fuse_spec.specs.Calls.Calls.{for_minor}
use Rattle.std.proofs.Common.{◌≡◌, ℕ, ◌+◌, ◌-◌, ◌≤◌, Bool, true, false, true≢false, cond, List, [], ◌∷◌, ◌++◌, take, drop, Option, Some, None, nat_eq, slice_get, refl, ap, sym, subst, ◌∙◌, arith, inl, inr, All}
use Rattle.std.specs.Prelude.{◌%◌, nat_lt}
use Rattle.std.specs.List.{remove as without_at}
use Rattle.std.proofs.lemmas.Bool.Decides.{nat_tests}
use Rattle.std.proofs.lemmas.List.Elements.{All-nil, All-cons, All-head, All-tail, All-append, All-push, All-take, All-drop}
use Rattle.fuse_spec.specs.declared.Counted.{Counted}
use Rattle.fuse_spec.specs.declared.Entry.{Entry}
use Rattle.fuse_spec.specs.declared.Purpose.{Purpose}
use Rattle.fuse_spec.specs.declared.Purpose.TheVariants as purpose
use Rattle.fuse_spec.specs.declared.Opened.{Opened}
use Rattle.fuse_spec.specs.Calls.Answers as answer
use Rattle.fuse_spec.specs.Calls.CallReplies.{call_replied}
use Rattle.fuse_spec.specs.Kernel.Kernel.{Kernel, is_live, kernel_aborted}
use Rattle.fuse_spec.specs.Values.Maps.{Map, get, put, remove}
use Rattle.fuse_spec.specs.Kernel.Messages.{Forget, Request, RequestBody, init, asks, release, forget, batch_forget, interrupt, WireReply}
use Rattle.fuse_spec.specs.Files.Operations.{DirentPlus, listed_by, listed_plus, done, failed, files_in_reply}
use Rattle.fuse_spec.specs.Server.Performs.{performed, served}
use Rattle.fuse_spec.specs.Kernel.QueueCalls.{can_read_forgets, waiting, without}
use Rattle.fuse_spec.specs.Kernel.Queues.{pending}
use Rattle.fuse_spec.specs.Kernel.Replies.{kernel_reply, looked_up, Use, usable, unusable, stale, use_counted, first_use, use_of_all, goes_with, is_agreement, judged, replied, replied_to_call, request_reply_written, interrupt_reply_written, interrupt_replied, interrupt_reply_of, reply_written, reply_received, without_stale, reply_judged, use_of_reply, use_of, use_of_listed, looked_up_by, stale_in, stale_among, forgets_with, stale_in_reply, made_ready}
use Rattle.fuse_spec.specs.Server.Server.{Server, HeldRequest, Kept, forgets_of}
use Rattle.fuse_spec.specs.Server.Taking.{taking}
use Rattle.fuse_spec.specs.Calls.Vfs.{CallState, asked, answered}
use Rattle.fuse_spec.specs.Kernel.Uniques.{interrupt_number}
use Rattle.fuse_spec.specs.World.Worlds.{World, first_world, forget_body, copy_put}
use Rattle.fuse_spec.specs.World.Events.{Event, Outcome}
use Rattle.fuse_spec.specs.World.Steps.{Happens}
use Rattle.fuse_theorem.specs.AskedRequests.{RequestsAskedWhileLive}
use Rattle.fuse_theorem.specs.Faultless.{IsForget, Faultless}
use Rattle.fuse_theorem.specs.Links.{LinksSound}
use Rattle.fuse_theorem.specs.WorldSound.{WorldSound}
use Rattle.fuse_theorem.proofs.Lookups.CountsStay.{advanced_same, used_same, begun_same, signalled_same, read_same, interrupt_reply_same}
use Rattle.fuse_theorem.proofs.Nodes.HoldsAll.{AwaitsReply, of_init, of_call, of_release, asks_reply}
use Rattle.fuse_theorem.proofs.Requests.RequestsAsked.{request_even}
use Rattle.fuse_theorem.proofs.RefusalCases.Happened.{Happened, by_mount, by_call, by_read_interrupt, by_read_forgets, by_read_pending, by_take, by_perform, by_again, by_write, by_settle, by_signal, by_tick, by_drop, by_evict, by_abort, happened}
use Rattle.fuse_theorem.proofs.Replies.KeptReplies.{taken_kept, settled_kept}
use Rattle.fuse_theorem.proofs.Requests.LinksSound.{none_in}
use Rattle.fuse_theorem.proofs.Nodes.NodesSound.{put_found}
use Rattle.fuse_theorem.proofs.Requests.NumbersStay.{replying_kernel}
use Rattle.fuse_theorem.proofs.Requests.PerformedRest.{performed_rest}
use Rattle.fuse_theorem.proofs.Refining.Queuing.{All-without}

same_forgets : (fs gs : List Forget) → gs ≡ fs → All IsForget fs → All IsForget gs
same_forgets fs gs same h = subst (All IsForget) (sym same) h

-- ---- what the kernel queues

abbrev Low : ℕ → Type 0
Low node = 2 ≤ node

-- An entry that is stale names a node from 2 up.
stale_low : (nodes : Map Counted) (gs : List Entry) (node : ℕ) → use_of_all nodes gs ≡ stale node → 2 ≤ node
stale_low nodes [] node e = absurd (cc (e))
stale_low nodes (g ∷ gs) node e = by (nat_lt g.nodeid 2) refl (get nodes g.nodeid) e (stale_low nodes gs node)
  where
    of_counted : (o : Option Counted) → 2 ≤ g.nodeid → first_use (use_counted g o) (use_of_all nodes gs) ≡ stale node
        → (use_of_all nodes gs ≡ stale node → 2 ≤ node) → 2 ≤ node
    of_counted None low f rest = rest f
    of_counted (Some c) low f rest = generation (nat_eq c.generation g.generation) f
      where
        generation : (b : Bool) → first_use (cond b usable (stale g.nodeid)) (use_of_all nodes gs) ≡ stale node
            → 2 ≤ node
        generation true h = rest h
        generation false h = let same : g.nodeid ≡ node = cc (h) in subst (λ (n : ℕ). 2 ≤ n) same low

    by : (b : Bool) → nat_lt g.nodeid 2 ≡ b → (o : Option Counted)
        → first_use (cond b unusable (use_counted g o)) (use_of_all nodes gs) ≡ stale node
        → (use_of_all nodes gs ≡ stale node → 2 ≤ node) → 2 ≤ node
    by true is o f rest = absurd (cc (f))
    by false is o f rest = of_counted o (grind (arith, nat_tests, is)) f rest

-- .. so does one of a list
stale_listed_low : (nodes : Map Counted) (o : Option Entry) → All Low (stale_in (use_of_listed nodes o))
stale_listed_low nodes None = All-nil Low
stale_listed_low nodes (Some g) = by (use_of nodes g) refl
  where
    by : (u : Use) → use_of nodes g ≡ u → All Low (stale_in u)
    by usable e = All-nil Low
    by unusable e = All-nil Low
    by (stale node) e = All-cons Low node [] (stale_low nodes (g ∷ []) node (ap (λ (u : Use). first_use u usable) e))
        (All-nil Low)

among_low : (pairs : List (DirentPlus Entry)) (nodes : Map Counted) → All Low (stale_among nodes pairs)
among_low [] nodes = All-nil Low
among_low (pair ∷ pairs) nodes = All-append Low (stale_in (use_of_listed nodes (listed_by pair)))
    (stale_among (looked_up_by nodes pair) pairs) (stale_listed_low nodes (listed_by pair)) (among_low pairs (looked_up_by nodes pair))

in_reply_low : (nodes : Map Counted) (wire : WireReply) → All Low (stale_in_reply nodes wire)
in_reply_low nodes (listed_plus pairs) = among_low pairs nodes
in_reply_low nodes wire = All-nil Low

of_reply_low : (nodes : Map Counted) (wire : WireReply) (node : ℕ) → use_of_reply nodes wire ≡ stale node → 2 ≤ node
of_reply_low nodes (listed_plus pairs) node e = absurd (cc (e))
of_reply_low nodes wire node e = stale_low nodes (files_in_reply wire) node e

each_forget : (nodes : List ℕ) (forgets : List Forget) → All IsForget forgets → All Low nodes
    → All IsForget (forgets_with forgets nodes)
each_forget [] forgets old h = old
each_forget (node ∷ nodes) forgets old h =
    each_forget nodes (forgets ++ (node, 1) ∷ []) (All-push IsForget forgets (node, 1) old
    (All-head Low node nodes h, omega arith)) (All-tail Low node nodes h)

received_forgets : (k : Kernel) → All IsForget k.queues.forgets
    → (call : ℕ) (wire : WireReply) (o : Option (CallState Opened))
    → All IsForget (replied_to_call k call wire o).1.queues.forgets
received_forgets k old call wire None = old
received_forgets k old call wire (Some state) = by (goes_with (asked state) wire)
  where
    stale_old : All IsForget (without_stale k wire).queues.forgets
    stale_old = each_forget (stale_in_reply k.nodes wire) k.queues.forgets old (in_reply_low k.nodes wire)

    judged_forgets : (x : WireReply) (u : Use) → ((node : ℕ) → u ≡ stale node → 2 ≤ node)
        → All IsForget (judged (without_stale k wire) call state x u).queues.forgets
    judged_forgets x usable low =
        let k1 = record (without_stale k wire) { nodes = looked_up k.nodes (files_in_reply x) } in
        let same = advanced_same k1 call (call_replied k.vfs call state (kernel_reply (asked state) x)) in
        same_forgets (without_stale k wire).queues.forgets _ same.forgets stale_old
    judged_forgets x unusable low = stale_old
    judged_forgets x (stale node) low = All-push IsForget (without_stale k wire).queues.forgets (node, 1) stale_old
        (low node refl, omega arith)

    by : (b : Bool) → All IsForget (replied k call state b wire).1.queues.forgets
    by true =
        let l = reply_received k call state wire in
        let same = used_same l state in
        same_forgets l.queues.forgets _ same.forgets (judged_forgets (reply_judged k.nodes wire)
        (use_of_reply k.nodes wire) (of_reply_low k.nodes wire))
    by false = let l = record k { vfs = answered k.vfs call (answer.failed 5) } in let same =
        used_same l state in same_forgets k.queues.forgets _ same.forgets old

written_forgets : (k : Kernel) → All IsForget k.queues.forgets → (unique : ℕ) (wire : WireReply)
    → All IsForget (reply_written k unique wire).1.queues.forgets
written_forgets k old unique wire = by (nat_eq (unique % 2) 1)
  where
    interrupts : (x : WireReply) → All IsForget (interrupt_replied k (unique - 1) x).1.queues.forgets
    interrupts (failed errno) = same_forgets k.queues.forgets _
        (interrupt_reply_same k.queues (unique - 1) (interrupt_reply_of errno)) old
    interrupts done = old
    interrupts x = old

    odd : (o : Option Purpose) → All IsForget (interrupt_reply_written k unique wire o).1.queues.forgets
    odd None = old
    odd (Some kept) = interrupts wire

    agrees : (b : Bool) → All IsForget (cond b (made_ready (record k { queues = without k.queues unique }) wire)
        (kernel_aborted (record k { queues = without k.queues unique }))).queues.forgets
    agrees true = old
    agrees false = All-nil IsForget

    even : (o : Option Purpose) → All IsForget (request_reply_written k unique wire o).1.queues.forgets
    even None = old
    even (Some purpose.Init) = agrees (is_agreement wire)
    even (Some (purpose.Release o)) = old
    even (Some (purpose.Call call)) = received_forgets (record k { queues = without k.queues unique }) old call wire
        (get k.vfs.calls call)

    by : (b : Bool) → All IsForget (cond b (interrupt_reply_written k unique wire (waiting k.queues (unique - 1)))
        (request_reply_written k unique wire (waiting k.queues unique))).1.queues.forgets
    by true = odd (waiting k.queues (unique - 1))
    by false = even (waiting k.queues unique)

-- ---- what goes onto the request link

gives_nothing_back : (body : RequestBody) → AwaitsReply body → All IsForget (forgets_of body)
gives_nothing_back (init flags) (of_init _) = All-nil IsForget
gives_nothing_back (asks operation) (of_call x) = All-nil IsForget
gives_nothing_back (release o) (of_release x) = All-nil IsForget
gives_nothing_back (forget f) awaits = elim awaits [ ]
gives_nothing_back (batch_forget fs) awaits = elim awaits [ ]
gives_nothing_back (interrupt original) awaits = elim awaits [ ]

forgets_spelled : (fs : List Forget) → forgets_of (forget_body fs) ≡ fs
forgets_spelled [] = refl
forgets_spelled (f ∷ []) = refl
forgets_spelled (f ∷ g ∷ fs) = refl

-- ---- every event

module _ (choice : ℕ → ℕ) (w : World) (sound : WorldSound w) (requests : RequestsAskedWhileLive w)
    (links : LinksSound w) (old : Faultless w) where
  queued_after : (e : Event) (o : Outcome) (after : World) → Happened choice w e o after
      → All IsForget after.kernel.queues.forgets
  queued_after e o after (by_mount f m v idle) = All-nil IsForget
  queued_after e o after (by_call call ready room within) = let same =
      begun_same w.kernel (for_minor w.kernel.lists_files call) in
      same_forgets w.kernel.queues.forgets _ same.forgets old.queued
  queued_after e o after (by_read_interrupt original rest live there within) = old.queued
  queued_after e o after (by_read_forgets n live free can within few) = by (can_read_forgets w.kernel.queues n)
    where
      by : (b : Bool) → All IsForget (cond b (record w.kernel.queues {
        forgets = drop n w.kernel.queues.forgets;
        next = w.kernel.queues.next + 2;
      }) w.kernel.queues).forgets
      by true = All-drop IsForget n w.kernel.queues.forgets old.queued
      by false = old.queued
  queued_after e o after (by_read_pending k unique kept body live free there says within) =
      same_forgets w.kernel.queues.forgets _ (read_same w.kernel.queues
      (slice_get (pending w.kernel.queues) k)) old.queued
  queued_after e o after (by_take k r there within) =
      let took = taking w.server r.unique r.body in
      let v = record w { requests = without_at w.requests k; server = took.server } in
      subst (λ (q : Kernel). All IsForget q.queues.forgets)
      (sym (replying_kernel v w.server.next_copy r.unique took.reply)) old.queued
  queued_after e o after (by_perform unique t there within) =
      let did = served choice w.server unique t in
      let v = record w { server = did.server } in
      subst (λ (q : Kernel). All IsForget q.queues.forgets)
      (sym (replying_kernel v w.server.next_copy unique (cond w.server.aborted None (Some did.wire)))) old.queued
  queued_after e o after (by_again unique kept there current within) = old.queued
  queued_after e o after (by_write k sent there within) = written_forgets w.kernel old.queued sent.unique sent.wire
  queued_after e o after (by_settle k result there) = old.queued
  queued_after e o after (by_signal call fatal state live there within) = let same =
      signalled_same w.kernel call state fatal in same_forgets w.kernel.queues.forgets _ same.forgets old.queued
  queued_after e o after (by_tick ms timely) = old.queued
  queued_after e o after (by_drop directory name bound live there) = old.queued
  queued_after e o after (by_evict node counted live there unused) =
      let lookups = sound.lookups in
      let balanced = lookups.balanced live in
      let known = balanced.known node counted there in
      All-push IsForget w.kernel.queues.forgets (node, counted.count) old.queued (known.0, known.1)
  queued_after e o after (by_abort live) = All-nil IsForget

  abbrev SentFine : Request → Type 0
  SentFine r = All IsForget (forgets_of r.body)

  replying_requests : (v : World) (number unique : ℕ) (o : Option WireReply)
      → (copy_put v number unique o).requests ≡ v.requests
  replying_requests v number unique None = refl
  replying_requests v number unique (Some wire) = refl

  sent_after : (e : Event) (o : Outcome) (after : World) → Happened choice w e o after
      → All (λ (r : Request). All IsForget (forgets_of r.body)) after.requests
  sent_after e o after (by_mount f m v idle) = All-nil SentFine
  sent_after e o after (by_call call ready room within) = old.sent
  sent_after e o after (by_read_interrupt original rest live there within) =
      All-push SentFine w.requests (record { unique = interrupt_number original; body = interrupt original }) old.sent
      (All-nil IsForget)
  sent_after e o after (by_read_forgets n live free can within few) =
      let fs = take n w.kernel.queues.forgets in
      All-push SentFine w.requests (record { unique = w.kernel.queues.next; body = forget_body fs }) old.sent
      (same_forgets fs (forgets_of (forget_body fs)) (forgets_spelled fs)
      (All-take IsForget n w.kernel.queues.forgets old.queued))
  sent_after e o after (by_read_pending k unique kept body live free there says within) =
      All-push SentFine w.requests (record { unique = unique; body = body }) old.sent
      (gives_nothing_back body (asks_reply w.kernel kept body says))
  sent_after e o after (by_take k r there within) =
      let took = taking w.server r.unique r.body in
      subst (All SentFine) (sym (replying_requests (record w {
        requests = without_at w.requests k;
        server = took.server;
      }) w.server.next_copy r.unique took.reply)) (All-without SentFine w.requests k old.sent)
  sent_after e o after (by_perform unique t there within) =
      let did = served choice w.server unique t in
      subst (All SentFine) (sym (replying_requests (record w { server = did.server }) w.server.next_copy unique
      (cond w.server.aborted None (Some did.wire)))) old.sent
  sent_after e o after (by_again unique kept there current within) = old.sent
  sent_after e o after (by_write k sent there within) = old.sent
  sent_after e o after (by_settle k result there) = old.sent
  sent_after e o after (by_signal call fatal state live there within) = old.sent
  sent_after e o after (by_tick ms timely) = old.sent
  sent_after e o after (by_drop directory name bound live there) = old.sent
  sent_after e o after (by_evict node counted live there unused) = old.sent
  sent_after e o after (by_abort live) = All-nil SentFine

  -- ---- kept replies

  abbrev KeptEven : Map Kept → Type 0
  KeptEven kept = (unique : ℕ) (k : Kept) → get kept unique ≡ Some k → unique % 2 ≡ 0

  performed_kept : (unique : ℕ) (t : HeldRequest) → get w.server.held unique ≡ Some t
      → KeptEven (served choice w.server unique t).server.kept
  performed_kept unique t there = by (is_live w.kernel.phase) refl
    where
      did : Server
      did = (performed choice (record w.server { held = remove w.server.held unique }) t).server

      kept_same : did.kept ≡ w.server.kept
      kept_same = let rest = performed_rest choice (record w.server { held = remove w.server.held unique }) t in
          rest.kept

      was : KeptEven did.kept
      was u k at = old.kept u k (sym (ap (λ (m : Map Kept). get m u) kept_same) ∙ at)

      put_even : unique % 2 ≡ 0 → (new : Kept) (b : Bool) → KeptEven (cond b did.kept (put did.kept unique new))
      put_even even new true u k at = was u k at
      put_even even new false u k at = elim (put_found did.kept unique new u k at) [
        | inl h ↦ subst
            (λ (n : ℕ). n % 2 ≡ 0) (sym h.0) even
        | inr h ↦ was u k h
      ]

      keeps_none : did.aborted ≡ true → (new : Kept) (b : Bool) → did.aborted ≡ b
          → KeptEven (cond b did.kept (put did.kept unique new))
      keeps_none aborted new true is u k at = was u k at
      keeps_none aborted new false is u k at = absurd (true≢false (sym aborted ∙ is))

      by : (b : Bool) → is_live w.kernel.phase ≡ b → KeptEven (served choice w.server unique t).server.kept
      by true live =
          let asked = ((requests live).held unique t there).is_asked in
          put_even (request_even w.kernel.queues sound.queues unique asked.request asked.under) _ did.aborted
      by false dead = elim (links.idle dead).server [
        | inl none ↦ none_in w.server.held unique t none there
        | inr aborted ↦ let rest = performed_rest choice (record w.server { held = remove w.server.held unique }) t in
            keeps_none (rest.aborted ∙ aborted) _ did.aborted refl
      ]

  sent_off : (v : World) (number unique : ℕ) (o : Option WireReply) → KeptEven v.server.kept
      → KeptEven (copy_put v number unique o).server.kept
  sent_off v number unique None h = h
  sent_off v number unique (Some wire) h = h

  kept_even : (e : Event) (o : Outcome) (after : World) → Happened choice w e o after → KeptEven after.server.kept
  kept_even e o after (by_mount f m v idle) = λ u k at. absurd (cc)
  kept_even e o after (by_call call ready room within) = old.kept
  kept_even e o after (by_read_interrupt original rest live there within) = old.kept
  kept_even e o after (by_read_forgets n live free can within few) = old.kept
  kept_even e o after (by_read_pending k unique kept body live free there says within) = old.kept
  kept_even e o after (by_take k r there within) =
      let took = taking w.server r.unique r.body in
      sent_off (record w {
        requests = without_at w.requests k;
        server = took.server;
      }) w.server.next_copy r.unique took.reply
      (subst KeptEven (sym (taken_kept w.server r.unique r.body)) old.kept)
  kept_even e o after (by_perform unique t there within) =
      let did = served choice w.server unique t in sent_off
      (record w { server = did.server }) w.server.next_copy unique (cond w.server.aborted None (Some did.wire))
      (performed_kept unique t there)
  kept_even e o after (by_again unique kept there current within) = old.kept
  kept_even e o after (by_write k sent there within) = old.kept
  kept_even e o after (by_settle k result there) =
      λ u x at. old.kept u x (settled_kept w.server result (get w.server.copies result.number) u x at)
  kept_even e o after (by_signal call fatal state live there within) = old.kept
  kept_even e o after (by_tick ms timely) = old.kept
  kept_even e o after (by_drop directory name bound live there) = old.kept
  kept_even e o after (by_evict node counted live there unused) = old.kept
  kept_even e o after (by_abort live) = λ u k at. absurd (cc)

-- All that is kept, whatever the event.
pub faultless_stay : (w : World) → WorldSound w → RequestsAskedWhileLive w → LinksSound w → Faultless w
    → (e : Event) (o : Outcome) (after : World) → Happens w e o after → Faultless after
faultless_stay w sound requests links old e o after h =
    let did = happened h.0 w o after e h.2 in
    record {
      queued = queued_after h.0 w sound requests links old e o after did;
      sent = sent_after h.0 w sound requests links old e o after did;
      kept =
          kept_even h.0 w sound requests links old e o after did;
      for_minor =
          spoken_after h.0 w requests links old.for_minor e o after did;
    }

pub first_faultless : Faultless first_world
first_faultless = record {
  queued = All-nil IsForget;
  sent = All-nil (λ (r : Request). All IsForget (forgets_of r.body));
  kept = λ u k at. absurd (cc);
  for_minor = λ live. absurd (true≢false (sym live));
}
