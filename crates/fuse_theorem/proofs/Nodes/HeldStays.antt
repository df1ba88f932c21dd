-- What the server holds of calls is named as the kernel knows it, whatever the event.
use Rattle.fuse_spec.specs.Calls.Calls.{for_minor}
use Rattle.std.proofs.Common.{◌≡◌, ◌≢◌, ℕ, ◌-◌, Bool, true, false, true≢false, cond, List, [], ◌∷◌, map, Option, Some, None, nat_eq, slice_get, refl, ap, sym, subst, ◌∙◌, inl, inr, All}
use Rattle.std.specs.Prelude.{◌%◌}
use Rattle.std.specs.List.{list_any}
use Rattle.std.proofs.lemmas.List.Elements.{All-nil, All-cons, All-head, All-tail}
use Rattle.fuse_spec.specs.declared.Counted.{Counted}
use Rattle.fuse_spec.specs.declared.Opened.{Opened}
use Rattle.fuse_spec.specs.declared.Purpose.{Purpose}
use Rattle.fuse_spec.specs.declared.Purpose.TheVariants as purpose
use Rattle.fuse_spec.specs.declared.ReplyResult.{ReplyResult}
use Rattle.fuse_spec.specs.declared.WriteResult.{WriteResult}
use Rattle.fuse_spec.specs.declared.WriteResult.TheVariants.{Accepted, NoEntry, Invalid}
use Rattle.fuse_spec.specs.Calls.Answers as answer
use Rattle.fuse_spec.specs.Calls.CallReplies.{call_replied}
use Rattle.fuse_spec.specs.Server.Copies.{kept_after, after_result}
use Rattle.fuse_spec.specs.Values.Maps.{Map, get, put, remove}
use Rattle.fuse_spec.specs.Kernel.Messages.{RequestBody, Request, init, asks, release, forget, batch_forget, interrupt, WireReply}
use Rattle.fuse_spec.specs.Files.Operations.{Operation, files_in_reply, done, failed}
use Rattle.fuse_spec.specs.Kernel.QueueCalls.{waiting, without}
use Rattle.fuse_spec.specs.Calls.Vfs.{CallState, asked, answered}
use Rattle.fuse_spec.specs.Kernel.Kernel.{Kernel, is_live, is_pinned, is_bound, kernel_aborted, after_use}
use Rattle.fuse_spec.specs.Server.Performs.{served}
use Rattle.fuse_spec.specs.Kernel.Replies.{kernel_reply, looked_up, Use, usable, unusable, stale, goes_with, is_agreement, judged, replied, replied_to_call, request_reply_written, interrupt_reply_written, interrupt_replied, reply_written, reply_received, without_stale, reply_judged, use_of_reply, made_ready}
use Rattle.fuse_spec.specs.Server.Server.{HeldRequest, Kept, Copy, nodes_of_body}
use Rattle.fuse_spec.specs.Server.Taking.{taking, interrupting}
use Rattle.fuse_spec.specs.Claim.Denotes.{generation_known}
use Rattle.fuse_spec.specs.World.Worlds.{World, first_world, copy_put, after_take, after_perform, after_settle}
use Rattle.fuse_spec.specs.World.Events.{Event, Outcome}
use Rattle.fuse_spec.specs.World.Steps.{Happens}
use Rattle.fuse_theorem.specs.AskedRequests.{IsAsked, SentAsked, RequestsAskedWhileLive}
use Rattle.fuse_theorem.specs.HeldKnown.{HeldKnownWhileLive}
use Rattle.fuse_theorem.specs.KnownNodes.{IsKnown, NodesKnown}
use Rattle.fuse_theorem.specs.Links.{LinksSound}
use Rattle.fuse_theorem.specs.WorldSound.{WorldSound}
use Rattle.fuse_theorem.proofs.Lookups.CountsStay.{advanced_same, used_same, begun_same, signalled_same}
use Rattle.fuse_theorem.proofs.Refining.Evicting.{or_false, known_still}
use Rattle.fuse_theorem.proofs.Calls.Finding.{same_is}
use Rattle.fuse_theorem.proofs.Calls.CallsContinue.{begun_goes_on}
use Rattle.fuse_theorem.proofs.RefusalCases.Happened.{Happened, by_mount, by_call, by_read_interrupt, by_read_forgets, by_read_pending, by_take, by_perform, by_again, by_write, by_settle, by_signal, by_tick, by_drop, by_evict, by_abort, happened}
use Rattle.fuse_theorem.proofs.Nodes.HeldKnown.{HeldOf, names_known, taken_held}
use Rattle.fuse_theorem.proofs.Refining.LookedUp.{looked_up_known}
use Rattle.fuse_theorem.proofs.Requests.LinksSound.{none_at}
use Rattle.fuse_theorem.proofs.Lookups.LookupsStay.{known_held}
use Rattle.fuse_theorem.proofs.Nodes.NodesKnown.{All-more}
use Rattle.fuse_theorem.proofs.Nodes.NodesSound.{put_found, left_found}
use Rattle.fuse_theorem.proofs.Requests.PerformedRest.{performed_rest}
use Rattle.fuse_theorem.proofs.Refining.Queuing.{All-at}
use Rattle.fuse_theorem.proofs.Nodes.UnsentNodes.{of_asked}

-- What the kernel knows it knows still, under the same generation.
abbrev Grows : Map Counted → Map Counted → Type 0
Grows nodes nodes' = (id generation : ℕ) → generation_known nodes id ≡ Some generation
    → generation_known nodes' id ≡ Some generation

same_grows : (nodes nodes' : Map Counted) → nodes' ≡ nodes → Grows nodes nodes'
same_grows nodes nodes' same id generation e = ap (λ (n : Map Counted). generation_known n id) same ∙ e

replied_grows : (k : Kernel) (call : ℕ) (wire : WireReply) (o : Option (CallState Opened))
    → Grows k.nodes (replied_to_call k call wire o).1.nodes
replied_grows k call wire None = λ id generation e. e
replied_grows k call wire (Some state) = by (goes_with (asked state) wire)
  where
    judged_grows : (x : WireReply) (u : Use) → Grows k.nodes (judged (without_stale k wire) call state x u).nodes
    judged_grows x usable = λ id generation e.
        let k1 = record (without_stale k wire) { nodes = looked_up k.nodes (files_in_reply x) } in
        let same = advanced_same k1 call (call_replied k.vfs call state (kernel_reply (asked state) x)) in
        same_grows k1.nodes (judged (without_stale k wire) call state x usable).nodes same.nodes id generation
        (looked_up_known (files_in_reply x) k.nodes id generation e)
    judged_grows x unusable = λ id generation e. e
    judged_grows x (stale node) = λ id generation e. e

    by : (b : Bool) → Grows k.nodes (replied k call state b wire).1.nodes
    by true = λ id generation e.
        let l = reply_received k call state wire in
        let same = used_same l state in
        same_grows l.nodes (after_use l state).nodes same.nodes id generation
        (judged_grows (reply_judged k.nodes wire) (use_of_reply k.nodes wire) id generation e)
    by false =
        let l = record k { vfs = answered k.vfs call (answer.failed 5) } in
        let same = used_same l state in
        same_grows l.nodes (after_use l state).nodes same.nodes

-- A reply that leaves the mount live.
written_grows : (k : Kernel) (unique : ℕ) (wire : WireReply) → is_live (reply_written k unique wire).1.phase ≡ true
    → Grows k.nodes (reply_written k unique wire).1.nodes
written_grows k unique wire live = by (nat_eq (unique % 2) 1) live
  where
    interrupts : (x : WireReply) → Grows k.nodes (interrupt_replied k (unique - 1) x).1.nodes
    interrupts (failed errno) = λ id generation e. e
    interrupts done = λ id generation e. e
    interrupts x = λ id generation e. e

    odd : (o : Option Purpose) → Grows k.nodes (interrupt_reply_written k unique wire o).1.nodes
    odd None = λ id generation e. e
    odd (Some kept) = interrupts wire

    agrees : (b : Bool) → is_live (cond b (made_ready (record k { queues = without k.queues unique }) wire)
        (kernel_aborted (record k { queues = without k.queues unique }))).phase ≡ true
        → Grows k.nodes (cond b (made_ready (record k { queues = without k.queues unique }) wire)
        (kernel_aborted (record k { queues = without k.queues unique }))).nodes
    agrees true alive = λ id generation e. e
    agrees false alive = λ id generation e. absurd (true≢false (sym alive))

    even : (o : Option Purpose) → is_live (request_reply_written k unique wire o).1.phase ≡ true
        → Grows k.nodes (request_reply_written k unique wire o).1.nodes
    even None alive = λ id generation e. e
    even (Some purpose.Init) alive = agrees (is_agreement wire) alive
    even (Some (purpose.Release o)) alive = λ id generation e. e
    even (Some (purpose.Call call)) alive = replied_grows (record k { queues = without k.queues unique }) call wire
        (get k.vfs.calls call)

    by : (b : Bool) → is_live (cond b (interrupt_reply_written k unique wire (waiting k.queues (unique - 1)))
        (request_reply_written k unique wire (waiting k.queues unique))).1.phase ≡ true
        → Grows k.nodes (cond b (interrupt_reply_written k unique wire (waiting k.queues (unique - 1)))
        (request_reply_written k unique wire (waiting k.queues unique))).1.nodes
    by true alive = odd (waiting k.queues (unique - 1))
    by false alive = even (waiting k.queues unique) alive

-- those of a list that the node is not among
apart_from : (nodes nodes' : Map Counted) (node : ℕ) → nodes' ≡ remove nodes node → (gs : List (ℕ × ℕ))
    → list_any (nat_eq node) (map (λ (g : ℕ × ℕ). g.0) gs) ≡ false
    → All (λ (g : ℕ × ℕ). generation_known nodes g.0 ≡ Some g.1) gs
    → All (λ (g : ℕ × ℕ). generation_known nodes' g.0 ≡ Some g.1) gs
apart_from nodes nodes' node same [] none h = All-nil (λ (g : ℕ × ℕ). generation_known nodes' g.0 ≡ Some g.1)
apart_from nodes nodes' node same (g ∷ gs) none h =
    let parts = or_false (nat_eq node g.0) (list_any (nat_eq node) (map (λ (x : ℕ × ℕ). x.0) gs)) none in
    let other : g.0 ≢ node = λ e. true≢false (sym (subst (λ (n : ℕ). nat_eq node n ≡ true) (sym e)
    (same_is node)) ∙ parts.0) in
    All-cons (λ (x : ℕ × ℕ). generation_known nodes' x.0 ≡ Some x.1) g gs
    (ap (λ (n : Map Counted). generation_known n g.0) same ∙ known_still nodes node g.0 g.1 other
    (All-head (λ (x : ℕ × ℕ). generation_known nodes x.0 ≡ Some x.1) g gs h))
    (apart_from nodes nodes' node same gs parts.1 (All-tail
    (λ (x : ℕ × ℕ). generation_known nodes x.0 ≡ Some x.1) g gs h))

-- ---- every event

module _ (Which : RequestBody → Type 0) where
  carried : (w v : World) (t : HeldRequest) → Grows w.kernel.nodes v.kernel.nodes → HeldOf Which w t → HeldOf Which v t
  carried w v t grows old = record {
    names = old.names;
    known = λ which. All-more t.generations (λ g e. grows g.0 g.1 e) (old.known which);
  }

  abbrev AllHeld : World → Map HeldRequest → Type 0
  AllHeld w held = (unique : ℕ) (t : HeldRequest) → get held unique ≡ Some t → HeldOf Which w t

  abbrev pub HeldOfWhileLive : World → Type 0
  HeldOfWhileLive w = is_live w.kernel.phase ≡ true → AllHeld w w.server.held

  -- The kernel knows what it asks of these.
  abbrev pub NamesKnown : World → Type 0
  NamesKnown w = (unique : ℕ) (body : RequestBody) → IsAsked w.kernel unique body → Which body
      → All (IsKnown w.kernel.nodes) (nodes_of_body body)

module _ (Which : RequestBody → Type 0) (choice : ℕ → ℕ) (w : World) (sound : WorldSound w)
    (requests : RequestsAskedWhileLive w) (links : LinksSound w) (named : NamesKnown Which w)
    (old : HeldOfWhileLive Which w) where
  module _ (live : is_live w.kernel.phase ≡ true) (k : ℕ) (r : Request) (at_k : slice_get w.requests k ≡ Some r) where
    was_sent : SentAsked w.kernel r.unique r.body
    was_sent = All-at (λ (x : Request). SentAsked w.kernel x.unique x.body) w.requests k r (requests live).sent at_k

    now_held : (new : HeldRequest) → HeldOf Which w new → AllHeld Which w (put w.server.held r.unique new)
    now_held new known unique t at = elim (put_found w.server.held r.unique new unique t at) [
      | inl h ↦ subst
          (HeldOf Which w) h.1 known
      | inr h ↦ old live unique t h
    ]

    now_marked : (original : ℕ) (t : HeldRequest) → get w.server.held original ≡ Some t
        → AllHeld Which w (put w.server.held original (record t { marked = true }))
    now_marked original t there unique x at = elim (put_found w.server.held original
        (record t { marked = true }) unique x at) [
          | inl h ↦ let before = old live original t there in
              subst (HeldOf Which w) h.1 (record { names = before.names; known = before.known })
          | inr h ↦ old live unique x h
        ]

    -- the kernel is the same
    carry : (v : World) → v.kernel ≡ w.kernel → AllHeld Which w v.server.held → AllHeld Which v v.server.held
    carry v same each unique t at = carried Which w v t
        (same_grows w.kernel.nodes v.kernel.nodes (ap (λ (q : Kernel). q.nodes) same)) (each unique t at)

    interrupts : (original : ℕ) (h : Option HeldRequest) → get w.server.held original ≡ h → (o : Option Kept)
        → AllHeld Which (after_take w k r.unique (interrupting w.server r.unique original h o))
        (after_take w k r.unique (interrupting w.server r.unique original h o)).server.held
    interrupts original (Some t) there o = carry (after_take w k r.unique
        (interrupting w.server r.unique original (Some t) o)) refl (now_marked original t there)
    interrupts original None there (Some x) = carry (after_take w k r.unique
        (interrupting w.server r.unique original None (Some x))) refl (old live)
    interrupts original None there None = carry (after_take w k r.unique
        (interrupting w.server r.unique original None None)) refl (old live)

    takes : (body : RequestBody) → SentAsked w.kernel r.unique body
        → AllHeld Which (after_take w k r.unique (taking w.server r.unique body))
        (after_take w k r.unique (taking w.server r.unique body)).server.held
    takes (init flags) is = carry (after_take w k r.unique (taking w.server r.unique (init flags))) refl
        (now_held _ (taken_held Which w (known_held w sound.lookups) (init flags)
        (named r.unique (init flags) is) _ refl refl))
    takes (asks operation) is = carry (after_take w k r.unique (taking w.server r.unique (asks operation))) refl
        (now_held _ (taken_held Which w (known_held w sound.lookups) (asks operation)
        (named r.unique (asks operation) is) _ refl refl))
    takes (release o) is = carry (after_take w k r.unique (taking w.server r.unique (release o))) refl
        (now_held _ (taken_held Which w (known_held w sound.lookups) (release o)
        (named r.unique (release o) is) _ refl refl))
    takes (forget f) is = carry (after_take w k r.unique (taking w.server r.unique (forget f))) refl (old live)
    takes (batch_forget fs) is = carry (after_take w k r.unique (taking w.server r.unique (batch_forget fs))) refl
        (old live)
    takes (interrupt original) is = interrupts original (get w.server.held original) refl (get w.server.kept original)

  performs : is_live w.kernel.phase ≡ true → (unique : ℕ) (t : HeldRequest)
      → AllHeld Which (after_perform w unique (served choice w.server unique t))
      (after_perform w unique (served choice w.server unique t)).server.held
  performs live unique t = by (cond w.server.aborted None (Some (served choice w.server unique t).wire))
    where
      left : (u : ℕ) (x : HeldRequest) → get (served choice w.server unique t).server.held u ≡ Some x → HeldOf Which w x
      left u x at =
          let rest = performed_rest choice (record w.server { held = remove w.server.held unique }) t in
          old live u x (left_found w.server.held unique u x
          (ap (λ (m : Map HeldRequest). get m u) (sym rest.held) ∙ at))

      by : (o : Option WireReply) → AllHeld Which (copy_put
          (record w { server = (served choice w.server unique t).server }) w.server.next_copy unique o)
          (copy_put (record w {
            server =
                (served choice w.server unique t).server;
          }) w.server.next_copy unique o).server.held
      by None u x at = carried Which w _ x (λ id generation e. e) (left u x at)
      by (Some wire) u x at = carried Which w _ x (λ id generation e. e) (left u x at)

  settles : is_live w.kernel.phase ≡ true → (k : ℕ) (result : ReplyResult) (o : Option Copy)
      → AllHeld Which (after_settle w k result o) (after_settle w k result o).server.held
  settles live k result None u x at = carried Which w _ x (λ id generation e. e) (old live u x at)
  settles live k result (Some copy) u x at = by result.result at
    where
      by : (r : WriteResult) → get (after_result (record w.server {
        copies = remove w.server.copies result.number;
        kept = kept_after w.server.kept copy (get w.server.kept copy.unique);
      }) copy.wire r).held u ≡ Some x
          → HeldOf Which (after_settle w k result (Some copy)) x
      by Accepted f = carried Which w _ x (λ id generation e. e) (old live u x f)
      by NoEntry f = carried Which w _ x (λ id generation e. e) (old live u x f)
      by Invalid f = carried Which w _ x (λ id generation e. e) (old live u x f)

  -- a node that is not pinned stands in no held request
  evicts : is_live w.kernel.phase ≡ true → (node : ℕ) → is_pinned w.kernel node ≡ false → (v : World)
      → v.kernel.nodes ≡ remove w.kernel.nodes node → AllHeld Which v w.server.held
  evicts live node unpinned v nodes_are u t at =
      let before = old live u t at in
      let is = (requests live).held u t at in
      record {
        names = before.names;
        known = λ which. each before.names
            (of_asked w.kernel node unpinned u t.body is.is_asked) (before.known which);
      }
    where
      apart : (gs : List (ℕ × ℕ)) → list_any (nat_eq node) (map (λ (g : ℕ × ℕ). g.0) gs) ≡ false
          → All (λ (g : ℕ × ℕ). generation_known w.kernel.nodes g.0 ≡ Some g.1) gs
          → All (λ (g : ℕ × ℕ). generation_known v.kernel.nodes g.0 ≡ Some g.1) gs
      apart gs none h = apart_from w.kernel.nodes v.kernel.nodes node nodes_are gs none h

      each : map (λ (g : ℕ × ℕ). g.0) t.generations ≡ nodes_of_body t.body
          → list_any (nat_eq node) (nodes_of_body t.body) ≡ false
          → All (λ (g : ℕ × ℕ). generation_known w.kernel.nodes g.0 ≡ Some g.1) t.generations
          → All (λ (g : ℕ × ℕ). generation_known v.kernel.nodes g.0 ≡ Some g.1) t.generations
      each names none h = apart t.generations (ap (list_any (nat_eq node)) names ∙ none) h

  by_event : (e : Event) (o : Outcome) (after : World) → Happened choice w e o after → HeldOfWhileLive Which after
  by_event e o after (by_mount f m v idle) live = λ u x at. absurd (cc)
  by_event e o after (by_call call ready room within) live = λ u x at.
      let goes = begun_goes_on w.kernel (for_minor w.kernel.lists_files call) in
      let same = begun_same w.kernel (for_minor w.kernel.lists_files call) in
      carried Which w after x (same_grows w.kernel.nodes after.kernel.nodes same.nodes)
      (old (ap is_live (sym goes.phase) ∙ live) u x at)
  by_event e o after (by_read_interrupt original rest lives there within) live =
      λ u x at. carried Which w after x (λ id generation e. e) (old lives u x at)
  by_event e o after (by_read_forgets n lives free can within few) live =
      λ u x at. carried Which w after x (λ id generation e. e) (old lives u x at)
  by_event e o after (by_read_pending k unique kept body lives free there says within) live =
      λ u x at. carried Which w after x (λ id generation e. e) (old lives u x at)
  by_event e o after (by_take k r there within) live = by (is_live w.kernel.phase) refl
    where
      by : (b : Bool) → is_live w.kernel.phase ≡ b → AllHeld Which after after.server.held
      by true lives = takes lives k r there r.body (was_sent lives k r there)
      by false dead = none_at w.requests k r (links.idle dead).requests there
  by_event e o after (by_perform unique t there within) live = by (is_live w.kernel.phase) refl
    where
      same : (v : World) (number unique : ℕ) (o : Option WireReply)
          → is_live (copy_put v number unique o).kernel.phase ≡ is_live v.kernel.phase
      same v number unique None = refl
      same v number unique (Some wire) = refl

      by : (b : Bool) → is_live w.kernel.phase ≡ b → AllHeld Which after after.server.held
      by true lives = performs lives unique t
      by false dead = absurd (true≢false (sym live ∙ same
          (record w { server = (served choice w.server unique t).server }) w.server.next_copy unique
          (cond w.server.aborted None (Some (served choice w.server unique t).wire)) ∙ dead))
  by_event e o after (by_again unique kept there current within) live =
      λ u x at. carried Which w after x (λ id generation e. e) (old live u x at)
  by_event e o after (by_write k sent there within) live = by (is_live w.kernel.phase) refl
    where
      by : (b : Bool) → is_live w.kernel.phase ≡ b → AllHeld Which after after.server.held
      by true lives u x at = carried Which w after x (written_grows w.kernel sent.unique sent.wire live)
          (old lives u x at)
      by false dead u x at = none_at w.replies k sent (links.idle dead).replies there
  by_event e o after (by_settle k result there) live = settles live k result (get w.server.copies result.number)
  by_event e o after (by_signal call fatal state lives there within) live = λ u x at.
      let same = signalled_same w.kernel call state fatal in
      carried Which w after x (same_grows w.kernel.nodes after.kernel.nodes same.nodes) (old lives u x at)
  by_event e o after (by_tick ms timely) live = λ u x at. carried Which w after x (λ id generation e. e)
      (old live u x at)
  by_event e o after (by_drop directory name bound lives there) live =
      λ u x at. carried Which w after x (λ id generation e. e) (old lives u x at)
  by_event e o after (by_evict node counted lives there unused) live =
      evicts lives node (or_false (is_pinned w.kernel node) (is_bound w.kernel node) unused).0 after refl
  by_event e o after (by_abort lives) live = λ u x at. absurd (true≢false (sym live))

-- Of the requests whose nodes the kernel knows, what is held is named as it knows them, whatever the event.
pub held_of_stay : (Which : RequestBody → Type 0) (w : World) → WorldSound w → RequestsAskedWhileLive w → LinksSound w
    → NamesKnown Which w → HeldOfWhileLive Which w → (e : Event) (o : Outcome) (after : World) → Happens w e o after
    → HeldOfWhileLive Which after
held_of_stay Which w sound requests links named old e o after h =
    by_event Which h.0 w sound requests links named old e o after (happened h.0 w o after e h.2)

abbrev OfCalls : RequestBody → Type 0
OfCalls body = (operation : Operation ℕ Opened) × (body ≡ asks operation)

-- So it is of the requests of calls.
pub held_stay_known : (w : World) → WorldSound w → RequestsAskedWhileLive w → LinksSound w → NodesKnown w.kernel
    → HeldKnownWhileLive w → (e : Event) (o : Outcome) (after : World) → Happens w e o after → HeldKnownWhileLive after
held_stay_known w sound requests links nodes old e o after h live u t at =
    let stays = held_of_stay OfCalls w sound requests links named
    (λ alive v x there. let was = old alive v x there in
    record { names = was.names; known = λ which. was.known which.0 which.1 }) e o after h live u t at in
    record { names = stays.names; known = λ operation is. stays.known (operation, is) }
  where
    named : NamesKnown OfCalls w
    named unique body is which =
        subst (λ (b : RequestBody). All (IsKnown w.kernel.nodes) (nodes_of_body b)) (sym which.1)
        (names_known w.kernel nodes unique which.0 (subst (IsAsked w.kernel unique) which.1 is))

pub first_held : HeldKnownWhileLive first_world
first_held live u x at = absurd (cc)
