-- The kernel knows each node that it uses, whatever happens.
use Rattle.std.proofs.Common.{◌≡◌, ◌≢◌, ℕ, ◌-◌, ◌≤◌, Bool, true, false, true≢false, ◌||◌, cond, List, [], ◌∷◌, Option, Some, None, nat_eq, option_map, get_or, arith, refl, ap, sym, subst, ◌∙◌, All}
use Rattle.std.specs.Prelude.{◌%◌}
use Rattle.std.specs.List.{list_any, remove as without_at}
use Rattle.std.proofs.lemmas.List.Elements.{All-nil, All-cons}
use Rattle.fuse_spec.specs.declared.Counted.{Counted}
use Rattle.fuse_spec.specs.declared.Entry.{Entry}
use Rattle.fuse_spec.specs.declared.IntrEffect.{IntrEffect}
use Rattle.fuse_spec.specs.declared.IntrEffect.TheVariants.{Dequeued, Flagged, Queued, None as NoEffect}
use Rattle.fuse_spec.specs.declared.Opened.{Opened}
use Rattle.fuse_spec.specs.declared.Purpose.{Purpose}
use Rattle.fuse_spec.specs.declared.Purpose.TheVariants as purpose
use Rattle.fuse_spec.specs.declared.QueuedRequest.{QueuedRequest}
use Rattle.fuse_spec.specs.Calls.Answers as answer
use Rattle.fuse_spec.specs.Calls.Calls.{Call, for_minor}
use Rattle.fuse_spec.specs.Calls.CallReplies.{call_replied}
use Rattle.fuse_spec.specs.Values.Maps.{Map, get, put, remove, values}
use Rattle.fuse_spec.specs.Kernel.Messages.{WireReply}
use Rattle.fuse_spec.specs.Files.Operations.{Operation, done, failed, files_in_reply}
use Rattle.fuse_spec.specs.Kernel.QueueCalls.{after_effect, interrupt_effect, waiting, without}
use Rattle.fuse_spec.specs.Calls.Vfs.{CallState, walking, doing, using, asked, Vfs, Advance, answered, begun, abandoned}
use Rattle.fuse_spec.specs.Kernel.Kernel.{Kernel, is_aborted, request_of, nodes_of_state, is_released_by, is_pinned, is_bound, kernel_aborted, asking_for, advanced, released, released_if_idle, after_use, closed_by, closing_of, call_begun, after_signal, signalled_at, call_signalled}
use Rattle.fuse_spec.specs.Kernel.Replies.{kernel_reply, looked_up, counted_more, Use, usable, unusable, stale, goes_with, is_agreement, judged, replied, replied_to_call, request_reply_written, interrupt_reply_written, interrupt_replied, reply_written, reply_received, without_stale, reply_judged, use_of_reply, made_ready}
use Rattle.fuse_spec.specs.Claim.Denotes.{generation_known}
use Rattle.fuse_spec.proofs.Tables.{get_put_here}
use Rattle.fuse_spec.specs.Server.Taking.{taking}
use Rattle.fuse_spec.specs.Server.Performs.{served}
use Rattle.fuse_spec.specs.World.Worlds.{World, first_world, copy_put}
use Rattle.fuse_spec.specs.World.Events.{Event, Outcome}
use Rattle.fuse_spec.specs.World.Steps.{Happens}
use Rattle.fuse_theorem.specs.WorldSound.{WorldSound}
use Rattle.fuse_theorem.proofs.Calls.Finding.{same_is}
use Rattle.fuse_theorem.proofs.RefusalCases.Happened.{Happened, by_mount, by_call, by_read_interrupt, by_read_forgets, by_read_pending, by_take, by_perform, by_again, by_write, by_settle, by_signal, by_tick, by_drop, by_evict, by_abort, happened}
use Rattle.fuse_theorem.specs.KnownNodes.{IsKnown, VfsKnown, NodesKnown}
use Rattle.fuse_theorem.proofs.Refining.Evicting.{or_false, unbound, not_target, known_still}
use Rattle.fuse_theorem.proofs.Calls.KnownReplies.{begun_known, replied_known}
use Rattle.fuse_theorem.proofs.Calls.KnownWalks.{StateKnown, OpenKnown, answered_known, unbound_known}
use Rattle.fuse_theorem.proofs.Refining.LookedUp.{looked_up_known}
use Rattle.fuse_theorem.proofs.Nodes.UnsentNodes.{each_fails}
use Rattle.fuse_theorem.proofs.Lists.Values.{All-get}

-- ---- more nodes, or fewer

pub All-more : {X : Type 0} {P Q : X → Type 0} (xs : List X) → ((x : X) → P x → Q x) → All P xs → All Q xs
All-more xs more h = λ i d lt. more _ (h i d lt)

-- What is known stays so where more is known.
known_more : (nodes nodes' : Map Counted) → ((id : ℕ) → IsKnown nodes id → IsKnown nodes' id) → (c : Vfs Opened)
    → VfsKnown nodes c → VfsKnown nodes' c
known_more nodes nodes' more c old = record {
  root = more c.root old.root;
  names = record {
    directories = λ id name b at. more id (old.names.directories id name b at);
    targets = λ id name b at target is. more target (old.names.targets id name b at target is);
  };
  calls = All-more (values c.calls) (λ state h. All-more (nodes_of_state state) more h) old.calls;
  opens = All-more (values c.opens) (λ o h. more o.nodeid h) old.opens;
}

some_known : (nodes : Map Counted) (id generation : ℕ) → generation_known nodes id ≡ Some generation → IsKnown nodes id
some_known nodes id generation e none = absurd (cc (e, none))

pub known_some : (nodes : Map Counted) (id : ℕ) → IsKnown nodes id
    → (generation : ℕ) × (generation_known nodes id ≡ Some generation)
known_some nodes id known = by (generation_known nodes id) refl
  where
    by : (o : Option ℕ) → generation_known nodes id ≡ o
        → (generation : ℕ) × (generation_known nodes id ≡ Some generation)
    by None e = absurd (known e)
    by (Some g) e = (g, e)

pub looked_up_more : (gs : List Entry) (nodes : Map Counted) (id : ℕ) → IsKnown nodes id → IsKnown (looked_up nodes gs) id
looked_up_more gs nodes id known = let some = known_some nodes id known in
    some_known (looked_up nodes gs) id some.0 (looked_up_known gs nodes id some.0 some.1)

-- what a reply names is known from then on
entries_known : (gs : List Entry) (nodes : Map Counted) → All (λ (g : Entry). IsKnown (looked_up nodes gs) g.nodeid) gs
entries_known [] nodes = All-nil (λ (g : Entry). IsKnown nodes g.nodeid)
entries_known (g ∷ gs) nodes =
    let next = put nodes g.nodeid (counted_more g (get nodes g.nodeid)) in
    All-cons (λ (x : Entry). IsKnown (looked_up nodes (g ∷ gs)) x.nodeid) g gs
    (looked_up_more gs next g.nodeid (put_known (counted_more g (get nodes g.nodeid)))) (entries_known gs next)
  where
    put_known : (x : Counted) → IsKnown (put nodes g.nodeid x) g.nodeid
    put_known x = by (nat_eq g.nodeid 1)
      where
        by : (b : Bool) → cond b (Some 0) (option_map (λ (c : Counted). c.generation)
            (get (put nodes g.nodeid x) g.nodeid)) ≢ None
        by true e = absurd (cc (e))
        by false e = let here = get_put_here nodes g.nodeid x in let is : Some x.generation ≡ None =
            sym (ap (option_map (λ (c : Counted). c.generation)) here) ∙ e in absurd (cc (is))

-- ---- the kernel goes on

-- The same nodes, names, calls and open files.
same_known : (k l : Kernel) → l.nodes ≡ k.nodes → l.vfs ≡ k.vfs → NodesKnown k → NodesKnown l
same_known k l nodes vfs old = subst (λ (n : Map Counted). VfsKnown n l.vfs) (sym nodes)
    (subst (λ (c : Vfs Opened). VfsKnown k.nodes c) (sym vfs) old)

advanced_known : (k : Kernel) (call : ℕ) (next : Advance Opened) → VfsKnown k.nodes next.vfs
    → NodesKnown (advanced k call next)
advanced_known k call next new = by next.operation
  where
    by : (o : Option (Operation ℕ Opened)) → NodesKnown (asking_for (record k { vfs = next.vfs }) call o)
    by None = new
    by (Some operation) = new

idle_known : (k : Kernel) (open_call : ℕ) → NodesKnown k → NodesKnown (released_if_idle k open_call)
idle_known k open_call old = by (get k.closing open_call)
  where
    by : (o : Option Opened) → NodesKnown (released k open_call o)
    by None = old
    by (Some o) = old

used_known : (k : Kernel) (state : CallState Opened) → NodesKnown k → NodesKnown (after_use k state)
used_known k (walking d word words plan) old = old
used_known k (doing operation) old = old
used_known k (using open_call operation) old = idle_known k open_call old

pub call_known : (k : Kernel) → NodesKnown k → (call : Call) → NodesKnown (call_begun k call)
call_known k old call =
    let next = begun (is_aborted k.phase) k.vfs call in
    closes_one (advanced k k.vfs.next_call next) (advanced_known k k.vfs.next_call next
    (begun_known k.nodes (is_aborted k.phase) k.vfs old call))
    (cond (is_aborted k.phase) None (closed_by k.vfs.opens call))
  where
    closes_one : (q : Kernel) → NodesKnown q → (file : Option (ℕ × Opened)) → NodesKnown (closing_of q file)
    closes_one q h None = h
    closes_one q h (Some file) = idle_known (record q { closing = put q.closing file.0 file.1 }) file.0 h

pub signal_known : (k : Kernel) → NodesKnown k → (call : ℕ) (state : CallState Opened) (fatal : Bool)
    → NodesKnown (call_signalled k call state fatal).1
signal_known k old call state fatal = by (request_of k call)
  where
    effect : (unique : ℕ) (x : IntrEffect) → NodesKnown
        (after_signal (record k { queues = after_effect k.queues unique x }) call state x)
    effect unique Dequeued = used_known (record k {
      queues = after_effect k.queues unique Dequeued;
      vfs = answered k.vfs call (answer.failed 4);
    }) state (answered_known k.nodes k.vfs old call (answer.failed 4))
    effect unique Flagged = old
    effect unique Queued = old
    effect unique NoEffect = old

    by : (o : Option ℕ) → NodesKnown (signalled_at k call state fatal o).1
    by None = old
    by (Some unique) = effect unique (interrupt_effect k.queues unique fatal)

received_known : (k : Kernel) → NodesKnown k → (call : ℕ) (wire : WireReply) (o : Option (CallState Opened))
    → get k.vfs.calls call ≡ o → NodesKnown (replied_to_call k call wire o).1
received_known k old call wire None there = old
received_known k old call wire (Some state) there = by (goes_with (asked state) wire)
  where
    judged_known : (x : WireReply) (u : Use) → NodesKnown (judged (without_stale k wire) call state x u)
    judged_known x usable =
        let gs = files_in_reply x in
        let more = known_more k.nodes (looked_up k.nodes gs) (looked_up_more gs k.nodes) k.vfs old in
        advanced_known (record (without_stale k wire) { nodes = looked_up k.nodes gs }) call
        (call_replied k.vfs call state (kernel_reply (asked state) x))
        (replied_known (looked_up k.nodes gs) k.vfs more call state x
        (All-get (StateKnown (looked_up k.nodes gs)) k.vfs.calls call state more.calls there)
        (entries_known gs k.nodes))
    judged_known x unusable = answered_known k.nodes k.vfs old call (answer.failed 5)
    judged_known x (stale node) = answered_known k.nodes k.vfs old call (answer.failed 5)

    by : (b : Bool) → NodesKnown (replied k call state b wire).1
    by true = used_known (reply_received k call state wire) state
        (judged_known (reply_judged k.nodes wire) (use_of_reply k.nodes wire))
    by false = used_known (record k { vfs = answered k.vfs call (answer.failed 5) }) state
        (answered_known k.nodes k.vfs old call (answer.failed 5))

-- Everything is abandoned, and the root is known still.
pub empty_known : (c : Vfs Opened) → c.root ≡ 1 → VfsKnown [] (abandoned c)
empty_known c root = record {
  root = subst (IsKnown []) (sym root) (λ e. absurd (cc (e)));
  names = record { directories = λ id name b at. absurd (cc); targets = λ id name b at. absurd (cc) };
  calls = All-nil (StateKnown []);
  opens = All-nil (OpenKnown []);
}

pub write_known : (k : Kernel) → NodesKnown k → k.vfs.root ≡ 1 → (unique : ℕ) (wire : WireReply)
    → NodesKnown (reply_written k unique wire).1
write_known k old root unique wire = by (nat_eq (unique % 2) 1)
  where
    interrupts : (x : WireReply) → NodesKnown (interrupt_replied k (unique - 1) x).1
    interrupts (failed errno) = old
    interrupts done = old
    interrupts x = old

    odd : (o : Option Purpose) → NodesKnown (interrupt_reply_written k unique wire o).1
    odd None = old
    odd (Some kept) = interrupts wire

    agrees : (b : Bool) → NodesKnown (cond b (made_ready (record k { queues = without k.queues unique }) wire)
        (kernel_aborted (record k { queues = without k.queues unique })))
    agrees true = old
    agrees false = empty_known k.vfs root

    even : (o : Option Purpose) → NodesKnown (request_reply_written k unique wire o).1
    even None = old
    even (Some purpose.Init) = agrees (is_agreement wire)
    even (Some (purpose.Release o)) = old
    even (Some (purpose.Call call)) = received_known (record k { queues = without k.queues unique }) old call wire
        (get k.vfs.calls call) refl

    by : (b : Bool) → NodesKnown (cond b (interrupt_reply_written k unique wire (waiting k.queues (unique - 1)))
        (request_reply_written k unique wire (waiting k.queues unique))).1
    by true = odd (waiting k.queues (unique - 1))
    by false = even (waiting k.queues unique)

-- ---- a node is evicted

-- Another node is known still.
pub still_known : (nodes : Map Counted) (node id : ℕ) → id ≢ node → IsKnown nodes id → IsKnown (remove nodes node) id
still_known nodes node id ne known = let some = known_some nodes id known in
    some_known (remove nodes node) id some.0 (known_still nodes node id some.0 ne some.1)

module _ (k : Kernel) (old : NodesKnown k) (root : k.vfs.root ≡ 1) (node : ℕ) (counted : Counted)
    (there : get k.nodes node ≡ Some counted) (low : 2 ≤ node) (unpinned : is_pinned k node ≡ false)
    (free : is_bound k node ≡ false) where
  still : (id : ℕ) → id ≢ node → IsKnown k.nodes id → IsKnown (remove k.nodes node) id
  still id ne known = still_known k.nodes node id ne known

  abbrev OfCalls : CallState Opened → Bool
  OfCalls state = list_any (nat_eq node) (nodes_of_state state)

  abbrev OfOpens : Opened → Bool
  OfOpens o = nat_eq o.nodeid node

  first : (list_any OfCalls (values k.vfs.calls) ≡ false)
      × ((list_any OfOpens (values k.vfs.opens) || list_any
      (λ (e : ℕ × QueuedRequest Purpose). is_released_by node e.1.kept) k.queues.requests) ≡ false)
  first = or_false (list_any OfCalls (values k.vfs.calls)) _ unpinned

  -- those of a list that the node is not among
  others : (ids : List ℕ) → list_any (nat_eq node) ids ≡ false → All (IsKnown k.nodes) ids
      → All (IsKnown (remove k.nodes node)) ids
  others ids none h = λ i d lt. still _ (λ e. true≢false
      (sym (subst (λ (n : ℕ). nat_eq node n ≡ true) (sym e) (same_is node)) ∙ each_fails
      (nat_eq node) ids none i d lt)) (h i d lt)

  pub evict_known : VfsKnown (remove k.nodes node) k.vfs
  evict_known = record {
    root = still k.vfs.root (λ e. absurd (omega (arith, e, root, low))) old.root;
    names = record {
      directories = λ id name b at. still id (unbound node k.vfs.names id name b free at).0
          (old.names.directories id name b at);
      targets = λ id name b at target is. still target
          (not_target node b.target target (unbound node k.vfs.names id name b free at).1 is)
          (old.names.targets id name b at target is);
    };
    calls = λ i d lt. others _ (each_fails OfCalls (values k.vfs.calls) first.0 i d lt) (old.calls i d lt);
    opens = λ i d lt.
        let fails = each_fails OfOpens (values k.vfs.opens)
        (or_false (list_any OfOpens (values k.vfs.opens)) _ first.1).0 i d lt in
        let o = get_or (values k.vfs.opens) i d in
        still o.nodeid (λ e. true≢false (sym (subst (λ (n : ℕ). nat_eq n node ≡ true) (sym e) (same_is node)) ∙ fails))
        (old.opens i d lt);
  }

-- ---- every event

module _ (choice : ℕ → ℕ) (w : World) (sound : WorldSound w) (old : NodesKnown w.kernel) where
  root_is : w.kernel.vfs.root ≡ 1
  root_is = sound.rooted.root

  replying_same : (v : World) (number unique : ℕ) (o : Option WireReply) → NodesKnown v.kernel
      → NodesKnown (copy_put v number unique o).kernel
  replying_same v number unique None h = h
  replying_same v number unique (Some wire) h = h

  by_event : (e : Event) (o : Outcome) (after : World) → Happened choice w e o after → NodesKnown after.kernel
  by_event e o after (by_mount f m v idle) = empty_known w.kernel.vfs root_is
  by_event e o after (by_call call ready room within) = call_known w.kernel old (for_minor w.kernel.lists_files call)
  by_event e o after (by_read_interrupt original rest live there within) = old
  by_event e o after (by_read_forgets n live free can within few) = old
  by_event e o after (by_read_pending k unique kept body live free there says within) = old
  by_event e o after (by_take k r there within) = replying_same
      (record w {
        requests = without_at w.requests k;
        server =
            (taking w.server r.unique r.body).server;
      }) w.server.next_copy r.unique
      (taking w.server r.unique r.body).reply old
  by_event e o after (by_perform unique t there within) =
      replying_same (record w { server = (served choice w.server unique t).server }) w.server.next_copy unique
      (cond w.server.aborted None (Some (served choice w.server unique t).wire)) old
  by_event e o after (by_again unique kept there current within) = old
  by_event e o after (by_write k sent there within) = write_known w.kernel old root_is sent.unique sent.wire
  by_event e o after (by_settle k result there) = old
  by_event e o after (by_signal call fatal state live there within) = signal_known w.kernel old call state fatal
  by_event e o after (by_tick ms timely) = record {
    root = old.root;
    names = old.names;
    calls = old.calls;
    opens = old.opens;
  }
  by_event e o after (by_drop directory name bound live there) =
      let gone = unbound_known w.kernel.nodes w.kernel.vfs old directory name in
      record { root = gone.root; names = gone.names; calls = gone.calls; opens = gone.opens }
  by_event e o after (by_evict node counted live there unused) =
      let lookups = sound.lookups in
      let balanced = lookups.balanced live in
      let parts = or_false (is_pinned w.kernel node) (is_bound w.kernel node) unused in
      evict_known w.kernel old root_is node counted there (balanced.known node counted there).0 parts.0 parts.1
  by_event e o after (by_abort live) = empty_known w.kernel.vfs root_is

-- The kernel knows each node that it uses, whatever the event.
pub nodes_stay_known : (w : World) → WorldSound w → NodesKnown w.kernel → (e : Event) (o : Outcome) (after : World)
    → Happens w e o after → NodesKnown after.kernel
nodes_stay_known w sound old e o after h = by_event h.0 w sound old e o after (happened h.0 w o after e h.2)

pub first_known : NodesKnown first_world.kernel
first_known = record {
  root = λ e. absurd (cc (e));
  names = record { directories = λ id name b at. absurd (cc); targets = λ id name b at. absurd (cc) };
  calls = All-nil (StateKnown []);
  opens = All-nil (OpenKnown []);
}
