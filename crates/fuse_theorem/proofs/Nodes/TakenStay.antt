-- The held requests stand in rising number and name no node that is gone, whatever the event.
use Rattle.std.proofs.Common.{T, ◌≡◌, ℕ, Bool, true, false, true≢false, not, cond, List, [], ◌∷◌, map, Option, Some, None, is_some, nat_eq, refl, ap, sym, subst, inl, inr, All}
use Rattle.std.specs.List.{remove as without_at}
use Rattle.std.specs.Ordering.{nat_cmp}
use Rattle.std.specs.Cmp.{nat_cmp_total}
use Rattle.std.specs.FinMap.{is_sorted}
use Rattle.std.specs.FinMap.Entries.{is_sorted-put, is_sorted-where_key}
use Rattle.std.proofs.lemmas.List.Elements.{All-nil, All-cons, All-head, All-tail}
use Rattle.fuse_spec.specs.declared.ReplyResult.{ReplyResult}
use Rattle.fuse_spec.specs.declared.WriteResult.{WriteResult}
use Rattle.fuse_spec.specs.declared.WriteResult.TheVariants.{Accepted, NoEntry, Invalid}
use Rattle.fuse_spec.specs.Server.Copies.{kept_after, after_result}
use Rattle.fuse_spec.specs.Kernel.Kernel.{Kernel, is_live}
use Rattle.fuse_spec.specs.Values.Maps.{Map, get, remove, values}
use Rattle.fuse_spec.specs.Kernel.Messages.{RequestBody, init, asks, release, forget, batch_forget, interrupt, WireReply}
use Rattle.fuse_spec.specs.Server.Nodes.{HeldNode, NodeTable, row_of, file_of, all_given, is_open, handle_back}
use Rattle.fuse_spec.specs.Files.Operations.{Operation, done, files_in_reply}
use Rattle.fuse_spec.specs.Files.FileOperations.{reply_by}
use Rattle.fuse_spec.specs.declared.Opened.{Opened}
use Rattle.fuse_spec.specs.Server.Performs.{file_operation_of, is_open_for, is_still_held, doing, refusing, performing, served}
use Rattle.fuse_spec.specs.Server.Server.{Server, HeldRequest, Kept, Copy, nodes_of_body}
use Rattle.fuse_spec.specs.Server.Taking.{taking, interrupting}
use Rattle.fuse_spec.specs.Claim.Denotes.{generation_known}
use Rattle.fuse_spec.specs.World.Worlds.{World, first_world, copy_put, server_settled}
use Rattle.fuse_spec.specs.World.Events.{Event, Outcome}
use Rattle.fuse_spec.specs.World.Steps.{Happens}
use Rattle.fuse_theorem.specs.AskedRequests.{RequestsAskedWhileLive}
use Rattle.fuse_theorem.specs.HeldKnown.{HeldKnownWhileLive}
use Rattle.fuse_theorem.specs.KnownNodes.{NodesKnown}
use Rattle.fuse_theorem.specs.Links.{LinksSound}
use Rattle.fuse_theorem.specs.NodesHeld.{NodesServable, TakenServable}
use Rattle.fuse_theorem.specs.ReleasesKnown.{ReleasesKnown}
use Rattle.fuse_theorem.specs.WorldSound.{WorldSound}
use Rattle.fuse_theorem.proofs.RefusalCases.Happened.{Happened, by_mount, by_call, by_read_interrupt, by_read_forgets, by_read_pending, by_take, by_perform, by_again, by_write, by_settle, by_signal, by_tick, by_drop, by_evict, by_abort, happened}
use Rattle.fuse_theorem.proofs.Nodes.HeldStays.{held_stay_known}
use Rattle.fuse_theorem.proofs.Nodes.HoldsAll.{held_known}
use Rattle.fuse_theorem.proofs.Requests.LinksSound.{links_stay, none_at, none_in}
use Rattle.fuse_theorem.proofs.Lookups.LookupsStay.{known_held}
use Rattle.fuse_theorem.proofs.Requests.NumbersStay.{replying_kernel}
use Rattle.fuse_theorem.proofs.Requests.PerformedRest.{performed_rest}
use Rattle.fuse_theorem.proofs.OpenFiles.ReleasesStay.{releases_stay_known}
use Rattle.fuse_theorem.proofs.Requests.RequestsMatchAsks.{requests_stay_asked}
use Rattle.fuse_theorem.proofs.Lists.Values.{All-gone, All-found_values}
use Rattle.fuse_theorem.proofs.WholeLists.WorldSound.{worlds_stay}

abbrev InOrder : Map HeldRequest → Type 0
InOrder held = T (is_sorted nat_cmp held)

-- ---- the order of the held requests

module _ (s : Server) (old : InOrder s.held) where
  taken_in_order : (unique : ℕ) (body : RequestBody) → InOrder (taking s unique body).server.held
  taken_in_order unique (init flags) = is_sorted-put nat_cmp nat_cmp_total unique _ s.held old
  taken_in_order unique (asks operation) = is_sorted-put nat_cmp nat_cmp_total unique _ s.held old
  taken_in_order unique (release o) = is_sorted-put nat_cmp nat_cmp_total unique _ s.held old
  taken_in_order unique (forget f) = old
  taken_in_order unique (batch_forget fs) = old
  taken_in_order unique (interrupt original) = by (get s.held original) (get s.kept original)
    where
      by : (h : Option HeldRequest) (o : Option Kept) → InOrder (interrupting s unique original h o).server.held
      by (Some t) o = is_sorted-put nat_cmp nat_cmp_total original (record t { marked = true }) s.held old
      by None (Some k) = old
      by None None = old

  performed_held : (choice : ℕ → ℕ) (unique : ℕ) (t : HeldRequest)
      → (served choice s unique t).server.held ≡ remove s.held unique
  performed_held choice unique t = let rest = performed_rest choice (record s { held = remove s.held unique }) t in
      rest.held

  performed_in_order : (choice : ℕ → ℕ) (unique : ℕ) (t : HeldRequest) → InOrder (served choice s unique t).server.held
  performed_in_order choice unique t = subst InOrder (sym (performed_held choice unique t))
      (is_sorted-where_key nat_cmp (λ (x : ℕ). not (nat_eq x unique)) s.held old)

  settled_held : (result : ReplyResult) (o : Option Copy) → (server_settled s result o).held ≡ s.held
  settled_held result None = refl
  settled_held result (Some copy) = by result.result
    where
      by : (r : WriteResult) → (after_result (record s {
        copies = remove s.copies result.number;
        kept = kept_after s.kept copy (get s.kept copy.unique);
      }) copy.wire r).held ≡ s.held
      by Accepted = refl
      by NoEntry = refl
      by Invalid = refl

replying_server : (w : World) (number unique : ℕ) (o : Option WireReply)
    → (copy_put w number unique o).server ≡ w.server
replying_server w number unique None = refl
replying_server w number unique (Some wire) = refl

module _ (choice : ℕ → ℕ) (w : World) (old : InOrder w.server.held) where
  sent_off : (v : World) (number unique : ℕ) (o : Option WireReply) → InOrder v.server.held
      → InOrder (copy_put v number unique o).server.held
  sent_off v number unique o h = subst (λ (s : Server). InOrder s.held) (sym (replying_server v number unique o)) h

  order_stays : (e : Event) (o : Outcome) (after : World) → Happened choice w e o after → InOrder after.server.held
  order_stays e o after (by_mount f m v idle) = tt
  order_stays e o after (by_call call ready room within) = old
  order_stays e o after (by_read_interrupt original rest live there within) = old
  order_stays e o after (by_read_forgets n live free can within few) = old
  order_stays e o after (by_read_pending k unique kept body live free there says within) = old
  order_stays e o after (by_take k r there within) =
      let took = taking w.server r.unique r.body in sent_off
      (record w {
        requests = without_at w.requests k;
        server =
            took.server;
      }) w.server.next_copy r.unique took.reply (taken_in_order w.server old r.unique r.body)
  order_stays e o after (by_perform unique t there within) =
      let did = served choice w.server unique t in sent_off
      (record w { server = did.server }) w.server.next_copy unique (cond w.server.aborted None (Some did.wire))
      (performed_in_order w.server old choice unique t)
  order_stays e o after (by_again unique kept there current within) = old
  order_stays e o after (by_write k sent there within) = old
  order_stays e o after (by_settle k result there) =
      subst InOrder (sym (settled_held w.server old result (get w.server.copies result.number))) old
  order_stays e o after (by_signal call fatal state live there within) = old
  order_stays e o after (by_tick ms timely) = old
  order_stays e o after (by_drop directory name bound live there) = old
  order_stays e o after (by_evict node counted live there unused) = old
  order_stays e o after (by_abort live) = old

-- ---- in a live mount

held_there : (w : World) → WorldSound w → (gs : List (ℕ × ℕ))
    → All (λ (g : ℕ × ℕ). generation_known w.kernel.nodes g.0 ≡ Some g.1) gs
    → All (λ (id : ℕ). is_some (row_of w.server.nodes id) ≡ true) (map (λ (g : ℕ × ℕ). g.0) gs)
held_there w sound [] h = All-nil (λ (id : ℕ). is_some (row_of w.server.nodes id) ≡ true)
held_there w sound (g ∷ gs) h =
    let denotes = (known_held w sound.lookups g.0 g.1
    (All-head (λ (x : ℕ × ℕ). generation_known w.kernel.nodes x.0 ≡ Some x.1) g gs h)).1 in
    All-cons (λ (id : ℕ). is_some (row_of w.server.nodes id) ≡ true) g.0 (map (λ (x : ℕ × ℕ). x.0) gs)
    (ap (λ (o : Option HeldNode). is_some o) denotes.there)
    (held_there w sound gs (All-tail (λ (x : ℕ × ℕ). generation_known w.kernel.nodes x.0 ≡ Some x.1) g gs h))

live_servable : (w : World) → WorldSound w → RequestsAskedWhileLive w → LinksSound w → HeldKnownWhileLive w
    → ReleasesKnown w → InOrder w.server.held → is_live w.kernel.phase ≡ true
    → All (λ (t : HeldRequest). NodesServable w.server t.body) (values w.server.held)
live_servable w sound requests links held releases in_order live =
    All-found_values (λ (t : HeldRequest). NodesServable w.server t.body) w.server.held in_order (λ unique t at.
    let mine = held live unique t at in
    subst (λ (ids : List ℕ). All (λ (id : ℕ). is_some (row_of w.server.nodes id) ≡ true) ids) mine.names
    (held_there w sound t.generations (held_known w sound requests links held releases live unique t at)))

-- ---- without one

module _ (choice : ℕ → ℕ) (w : World) (links : LinksSound w) (old : TakenServable w.server) where
  -- after an abort the nodes stand as they stood
  performed_nodes : (unique : ℕ) (t : HeldRequest) → w.server.aborted ≡ true
      → (served choice w.server unique t).server.nodes ≡ w.server.nodes
  performed_nodes unique t aborted = by_mark t.marked
    where
      s : Server
      s = record w.server { held = remove w.server.held unique }

      does : (b : Bool) (operation : Operation ℕ Opened)
          → (cond b (doing choice s (file_operation_of s.nodes operation)) (refusing s 9)).server.nodes ≡ w.server.nodes
      does true operation = ap (λ (b : Bool). cond b w.server.nodes
          (all_given choice w.server.nodes (files_in_reply
          (reply_by w.server.validity w.server.tree (file_operation_of w.server.nodes operation))))) aborted
      does false operation = refl

      releases : (b : Bool) (o : Opened) → (cond b (record {
        server =
            record s { handles = handle_back s.handles o.fh };
        wire = done;
      }) (refusing s 9)).server.nodes
          ≡ w.server.nodes
      releases true o = refl
      releases false o = refl

      by_body : (body : RequestBody) → (performing choice s body).server.nodes ≡ w.server.nodes
      by_body (init flags) = refl
      by_body (asks operation) = does (is_open_for s operation) operation
      by_body (release o) = releases (is_open s.handles o.fh (file_of s.nodes o.nodeid)) o
      by_body (forget f) = refl
      by_body (batch_forget fs) = refl
      by_body (interrupt original) = refl

      by_held : (b : Bool) → (cond b (performing choice s t.body) (refusing s 5)).server.nodes ≡ w.server.nodes
      by_held true = by_body t.body
      by_held false = refl

      by_mark : (b : Bool) → (cond b (refusing s 4) (cond (is_still_held s.nodes t.generations)
          (performing choice s t.body) (refusing s 5))).server.nodes ≡ w.server.nodes
      by_mark true = refl
      by_mark false = by_held (is_still_held s.nodes t.generations)

  abbrev Servable : NodeTable → Map HeldRequest → Type 0
  Servable nodes held = All (λ (t : HeldRequest). All (λ (id : ℕ). is_some (row_of nodes id) ≡ true)
      (nodes_of_body t.body)) (values held)

  performed_servable : (unique : ℕ) (t : HeldRequest) → get w.server.held unique ≡ Some t
      → is_live w.kernel.phase ≡ false → (s : Server) → s ≡ (served choice w.server unique t).server
      → Servable s.nodes s.held
  performed_servable unique t there dead s same = elim (links.idle dead).server [
    | inl none ↦ none_in w.server.held unique t none there
    | inr aborted ↦ subst (λ (x : Server). Servable x.nodes x.held) (sym same)
        (subst (λ (n : NodeTable). Servable n (served choice w.server unique t).server.held)
        (sym (performed_nodes unique t aborted))
        (subst (λ (m : Map HeldRequest). Servable w.server.nodes m)
        (sym (performed_held w.server old.in_order choice unique t))
        (All-gone (λ (x : HeldRequest). NodesServable w.server x.body) w.server.held unique old.nodes)))
  ]

  dead_servable : (e : Event) (o : Outcome) (after : World) → Happened choice w e o after
      → is_live after.kernel.phase ≡ false → Servable after.server.nodes after.server.held
  dead_servable e o after (by_mount f m v idle) dead = absurd (true≢false dead)
  dead_servable e o after (by_call call ready room within) dead = old.nodes
  dead_servable e o after (by_read_interrupt original rest live there within) dead = old.nodes
  dead_servable e o after (by_read_forgets n live free can within few) dead = old.nodes
  dead_servable e o after (by_read_pending k unique kept body live free there says within) dead = old.nodes
  dead_servable e o after (by_take k r there within) dead =
      let took = taking w.server r.unique r.body in
      none_at w.requests k r (links.idle (subst (λ (q : Kernel). is_live q.phase ≡ false)
      (replying_kernel (record w {
        requests = without_at w.requests k;
        server = took.server;
      }) w.server.next_copy r.unique took.reply) dead)).requests there
  dead_servable e o after (by_perform unique t there within) dead =
      let did = served choice w.server unique t in
      let v = record w { server = did.server } in
      let sends = cond w.server.aborted None (Some did.wire) in
      performed_servable unique t there (subst (λ (q : Kernel). is_live q.phase ≡ false)
      (replying_kernel v w.server.next_copy unique sends) dead) after.server
      (replying_server v w.server.next_copy unique sends)
  dead_servable e o after (by_again unique kept there current within) dead =
      none_in w.server.kept unique kept (links.idle dead).kept there
  dead_servable e o after (by_write k sent there within) dead = old.nodes
  dead_servable e o after (by_settle k result there) dead = none_at w.results k result (links.idle dead).results there
  dead_servable e o after (by_signal call fatal state live there within) dead = old.nodes
  dead_servable e o after (by_tick ms timely) dead = old.nodes
  dead_servable e o after (by_drop directory name bound live there) dead = old.nodes
  dead_servable e o after (by_evict node counted live there unused) dead = old.nodes
  dead_servable e o after (by_abort live) dead = old.nodes

-- ---- every event

-- What is held can be served as far as nodes go, whatever the event.
pub taken_stay_servable : (w : World) → WorldSound w → RequestsAskedWhileLive w → LinksSound w → NodesKnown w.kernel
    → HeldKnownWhileLive w → ReleasesKnown w → TakenServable w.server → (e : Event) (o : Outcome) (after : World)
    → Happens w e o after
    → TakenServable after.server
taken_stay_servable w sound requests links nodes held releases old e o after h =
    record { in_order = in_order; nodes = by (is_live after.kernel.phase) refl }
  where
    in_order : InOrder after.server.held
    in_order = order_stays h.0 w old.in_order e o after (happened h.0 w o after e h.2)

    by : (b : Bool) → is_live after.kernel.phase ≡ b
        → All (λ (t : HeldRequest). NodesServable after.server t.body) (values after.server.held)
    by true live =
        live_servable after (worlds_stay w sound e o after h) (requests_stay_asked w sound requests e o after h)
        (links_stay w sound requests links e o after h) (held_stay_known w sound requests links nodes held e o after h)
        (releases_stay_known w sound requests links nodes held releases e o after h) in_order live
    by false dead = dead_servable h.0 w links old e o after (happened h.0 w o after e h.2) dead

pub first_taken : TakenServable first_world.server
first_taken = record { in_order = tt; nodes = All-nil (λ (t : HeldRequest). NodesServable first_world.server t.body) }
