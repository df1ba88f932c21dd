-- Lookups stay balanced as the kernel takes a reply.
use Rattle.fuse_theorem.specs.Conditions.{IsUsable}
use Rattle.std.proofs.Common.{◌≡◌, ◌≢◌, ℕ, ◌+◌, ◌-◌, ◌≤◌, Bool, true, false, true≢false, cond, List, [], ◌∷◌, ◌++◌, Option, Some, None, nat_eq, is_some, slice_get, refl, ap, sym, subst, ◌∙◌, arith, inl, inr, All}
use Rattle.std.specs.Prelude.{◌%◌}
use Rattle.std.specs.List.{remove as without_at}
use Rattle.std.proofs.lemmas.List.Elements.{All-push, All-head, All-tail}
use Rattle.std.proofs.lemmas.List.Sums.{sum_by_push}
use Rattle.fuse_spec.specs.declared.Counted.{Counted}
use Rattle.fuse_spec.specs.declared.Entry.{Entry}
use Rattle.fuse_spec.specs.declared.Opened.{Opened}
use Rattle.fuse_spec.specs.declared.Purpose.{Purpose}
use Rattle.fuse_spec.specs.declared.Purpose.TheVariants as purpose
use Rattle.fuse_spec.specs.declared.QueuedRequest.{QueuedRequest}
use Rattle.fuse_spec.specs.declared.ReplyResult.{ReplyResult}
use Rattle.fuse_spec.specs.declared.WriteResult.{WriteResult}
use Rattle.fuse_spec.specs.declared.WriteResult.TheVariants.{Accepted, NoEntry, Invalid}
use Rattle.fuse_spec.specs.Calls.Answers as answer
use Rattle.fuse_spec.specs.Calls.CallReplies.{call_replied}
use Rattle.fuse_spec.specs.Values.Maps.{Map, get, put}
use Rattle.fuse_spec.specs.Kernel.Messages.{WireReply}
use Rattle.fuse_spec.specs.Files.Operations.{agreed, done, failed, files_in_reply}
use Rattle.fuse_spec.specs.Calls.Vfs.{CallState, asked, answered}
use Rattle.fuse_spec.specs.Kernel.QueueCalls.{waiting, without}
use Rattle.fuse_spec.specs.Kernel.Kernel.{Kernel, is_live, is_for, kernel_aborted, after_use}
use Rattle.fuse_spec.specs.Server.Nodes.{NodeTable}
use Rattle.fuse_spec.specs.Server.Server.{Copy, forgotten}
use Rattle.fuse_spec.specs.Kernel.Replies.{kernel_reply, counted_more, looked_up, usable, goes_with, is_empty_reply, is_init_reply, is_agreement, write_result_of, judged, replied, replied_to_call, ended_by, request_reply_written, interrupt_reply_written, interrupt_replied, interrupt_reply_of, reply_written, made_ready}
use Rattle.fuse_spec.specs.Claim.Counts.{counted, times_named, carried, refused}
use Rattle.fuse_spec.specs.World.Worlds.{World, Sent, after_write}
use Rattle.fuse_spec.proofs.QueueCounts.{count_by-cons}
use Rattle.fuse_theorem.specs.Copies.{IsKnownCopy, CopiesSound}
use Rattle.fuse_theorem.specs.Lookups.{IsHeldAs, EntriesHeld, RefusedHeld, LookupsBalanced}
use Rattle.fuse_theorem.specs.Numbering.{IsNumbered, requests_for}
use Rattle.fuse_theorem.proofs.Answers.Answered.{waiting_is}
use Rattle.fuse_theorem.proofs.Lookups.CountsStay.{SameCounts, then_same, advanced_same, used_same, interrupt_reply_same}
use Rattle.fuse_theorem.proofs.Calls.Finding.{same_is, count_left}
use Rattle.fuse_theorem.proofs.Refining.JudgedReplies.{received_is, reply_usable}
use Rattle.fuse_theorem.proofs.Lists.LinkSums.{sum_removed}
use Rattle.fuse_theorem.proofs.Lookups.Lookups.{copies_name, refused_name}
use Rattle.fuse_theorem.proofs.Nodes.NodesSound.{put_found}
use Rattle.fuse_theorem.proofs.Refining.Queuing.{All-without, All-at}
use Rattle.fuse_theorem.proofs.Lookups.RowCounts.{looked_up_count}
use Rattle.fuse_theorem.proofs.Lookups.WireCounts.{entries_of}

-- What the kernel knows of its nodes: their ids, counts, and that the server holds them.
abbrev pub KnownIn : NodeTable → Map Counted → Type 0
KnownIn t nodes = (id : ℕ) (node : Counted) → get nodes id ≡ Some node
    → (2 ≤ id) × (1 ≤ node.count) × IsHeldAs t id node.generation

-- What the copy named is now counted by the kernel, or to be forgotten, or refused.
pub record Balances (t : NodeTable) (k : Kernel) (wire : WireReply) (taken : WriteResult × Kernel) : Type 0 where
  pub counts : (id : ℕ) → counted (get taken.1.nodes id) + forgotten id taken.1.queues.forgets + refused taken.0
      (times_named id wire) ≡ counted (get k.nodes id) + forgotten id k.queues.forgets + times_named id wire
  pub known : KnownIn t taken.1.nodes

-- The copy is refused, and the kernel counts as before.
refuses : (t : NodeTable) (k l : Kernel) (wire : WireReply) (result : WriteResult) → KnownIn t k.nodes → SameCounts k l
    → ((n : ℕ) → refused result n ≡ n) → Balances t k wire (result, l)
refuses t k l wire result known same all = record {
  counts = λ id.
      let nodes : counted (get l.nodes id) ≡ counted (get k.nodes id) =
      ap (λ (m : Map Counted). counted (get m id)) same.nodes in
      let forgets : forgotten id l.queues.forgets ≡ forgotten id k.queues.forgets = ap (forgotten id) same.forgets in
      let refuse = all (times_named id wire) in
      omega (arith, nodes, forgets, refuse);
  known = λ id node at. known id node (sym (ap (λ (m : Map Counted). get m id) same.nodes) ∙ at);
}

-- The copy names nothing, and the kernel counts as before.
names_nothing : (t : NodeTable) (k l : Kernel) (wire : WireReply) (result : WriteResult) → KnownIn t k.nodes
    → SameCounts k l → ((id : ℕ) → times_named id wire ≡ 0) → Balances t k wire (result, l)
names_nothing t k l wire result known same none = record {
  counts = λ id.
      let nodes : counted (get l.nodes id) ≡ counted (get k.nodes id) =
      ap (λ (m : Map Counted). counted (get m id)) same.nodes in
      let forgets : forgotten id l.queues.forgets ≡ forgotten id k.queues.forgets = ap (forgotten id) same.forgets in
      let nothing_named = none id in
      let nothing_refused : refused result (times_named id wire) ≡ 0 =
      ap (refused result) (none id) ∙ refused_none result in
      omega (arith, nodes, forgets, nothing_named, nothing_refused);
  known = λ id node at. known id node (sym (ap (λ (m : Map Counted). get m id) same.nodes) ∙ at);
}
  where
    refused_none : (r : WriteResult) → refused r 0 ≡ 0
    refused_none Accepted = refl
    refused_none NoEntry = refl
    refused_none Invalid = refl

-- ---- a reply to a call

module _ (t : NodeTable) (nodes : Map Counted) (known : KnownIn t nodes) where
  -- A reply whose entries are held can be used.
  pub wire_usable : (wire : WireReply) → EntriesHeld t wire → IsUsable nodes wire
  wire_usable wire held = reply_usable t nodes (λ id node at. (known id node at).2) wire held

-- An entry of a node that is held.
abbrev EntryHeld : NodeTable → Entry → Type 0
EntryHeld t g = (2 ≤ g.nodeid) × IsHeldAs t g.nodeid g.generation

-- Its entries are counted.
wire_known : (t : NodeTable) (gs : List Entry) (nodes : Map Counted) → KnownIn t nodes → All (EntryHeld t) gs
    → KnownIn t (looked_up nodes gs)
wire_known t [] nodes known held = known
wire_known t (g ∷ gs) nodes known held = wire_known t gs (put nodes g.nodeid new) one_known
    (All-tail (EntryHeld t) g gs held)
  where
    new : Counted
    new = counted_more g (get nodes g.nodeid)

    mine : EntryHeld t g
    mine = All-head (EntryHeld t) g gs held

    new_known : (o : Option Counted) → get nodes g.nodeid ≡ o
        → (2 ≤ g.nodeid) × (1 ≤ (counted_more g o).count) × IsHeldAs t g.nodeid (counted_more g o).generation
    new_known None at = (mine.0, omega arith, mine.1)
    new_known (Some c) at = (mine.0, omega arith, (known g.nodeid c at).2)

    one_known : KnownIn t (put nodes g.nodeid (counted_more g (get nodes g.nodeid)))
    one_known id node at = elim (put_found nodes g.nodeid (counted_more g (get nodes g.nodeid)) id node at) [
      | inl e ↦ subst (λ (c : Counted). (2 ≤ id) × (1 ≤ c.count) × IsHeldAs t id c.generation) e.1
          (subst (λ (n : ℕ). (2 ≤ n) × (1 ≤ (counted_more g (get nodes g.nodeid)).count)
          × IsHeldAs t n (counted_more g (get nodes g.nodeid)).generation) (sym e.0)
          (new_known (get nodes g.nodeid) refl))
      | inr e ↦ known id node e
    ]

wire_counted : (gs : List Entry) (nodes : Map Counted) (id : ℕ)
    → counted (get (looked_up nodes gs) id) ≡ counted (get nodes id) + entries_of id gs
wire_counted [] nodes id = omega arith
wire_counted (g ∷ gs) nodes id =
    let more = looked_up_count nodes g id in
    let counts = count_by-cons (λ (x : Entry). nat_eq x.nodeid id) g gs in
    let rest = wire_counted gs (put nodes g.nodeid (counted_more g (get nodes g.nodeid))) id in
    omega (arith, more, counts, rest)

module _ (t : NodeTable) (k : Kernel) (known : KnownIn t k.nodes) (wire : WireReply) (held : EntriesHeld t wire) where
  -- The reply goes with what the call asked.
  goes_balanced : (call : ℕ) (state : CallState Opened) → Balances t k wire (replied k call state true wire)
  goes_balanced call state = subst (λ (l : Kernel). Balances t k wire (Accepted, after_use l state))
      (sym (received_is k call state wire (wire_usable t k.nodes known wire held))) learns
    where
      learns : Balances t k wire (Accepted, after_use (judged k call state wire usable) state)
      learns =
          let knows = record k { nodes = looked_up k.nodes (files_in_reply wire) } in
          let l = judged k call state wire usable in
          let same = then_same knows l (after_use l state)
          (advanced_same knows call (call_replied k.vfs call state (kernel_reply (asked state) wire)))
          (used_same l state) in
          record {
            counts = λ id.
                let nodes : counted (get (after_use l state).nodes id)
                ≡ counted (get (looked_up k.nodes (files_in_reply wire)) id) =
                ap (λ (m : Map Counted). counted (get m id)) same.nodes in
                let forgets : forgotten id (after_use l state).queues.forgets ≡ forgotten id k.queues.forgets =
                ap (forgotten id) same.forgets in
                let more = wire_counted (files_in_reply wire) k.nodes id in
                omega (arith, nodes, forgets, more);
            known = λ id node at. wire_known t (files_in_reply wire) k.nodes known held id node
                (sym (ap (λ (m : Map Counted). get m id) same.nodes) ∙ at);
          }

  -- A reply reaches an unanswered call.
  replied_balanced : (call : ℕ) (state : CallState Opened)
      → Balances t k wire (replied k call state (goes_with (asked state) wire) wire)
  replied_balanced call state = by (goes_with (asked state) wire)
    where
      by : (b : Bool) → Balances t k wire (replied k call state b wire)
      by true = goes_balanced call state
      by false =
          let failed_kernel = record k { vfs = answered k.vfs call (answer.failed 5) } in
          let same = used_same failed_kernel state in
          refuses t k (after_use failed_kernel state) wire Invalid known
          (record { nodes = same.nodes; forgets = same.forgets }) (λ n. refl)

-- ---- any reply

-- a call that has a request is unanswered
pub unanswered : (k : Kernel) → ((call : ℕ) → requests_for call k.queues ≤ cond (is_some (get k.vfs.calls call)) 1 0)
    → (call unique : ℕ) → waiting k.queues unique ≡ Some (purpose.Call call) → get k.vfs.calls call ≢ None
unanswered k one_request call unique waits none =
    let request = waiting_is k.queues unique (purpose.Call call) waits in
    let mine : is_for call request.request.kept ≡ true =
    subst (λ (x : Purpose). is_for call x ≡ true) (sym request.serves) (same_is call) in
    let whole = count_left (λ
    (e : ℕ × QueuedRequest Purpose). is_for call e.1.kept) unique request.request k.queues.requests request.under in
    let few : requests_for call k.queues ≤ 0 = subst
    (λ (o : Option (CallState Opened)). requests_for call k.queues ≤ cond (is_some o) 1 0) none
    (one_request call) in
    absurd (one_at_least (is_for call request.request.kept) _ _ mine whole few)
  where
    one_at_least : (t : Bool) (a b : ℕ) → t ≡ true → a + cond t 1 0 ≡ b → b ≤ 0 → ⊥
    one_at_least true a b e whole few = omega (arith, whole, few)
    one_at_least false a b e whole few = true≢false (sym e)

module _ (t : NodeTable) (k : Kernel) (known : KnownIn t k.nodes)
    (one_request : (call : ℕ) → requests_for call k.queues ≤ cond (is_some (get k.vfs.calls call)) 1 0) (unique : ℕ)
    (wire : WireReply) (held : EntriesHeld t wire) where
  abbrev ended : Kernel
  ended = record k { queues = without k.queues unique }

  -- a reply that is no entry of a file names nothing
  init_balanced : Balances t k wire (write_result_of (is_init_reply wire), made_ready ended wire)
  init_balanced = by wire
    where
      same : SameCounts k (made_ready ended wire)
      same = record { nodes = refl; forgets = refl }

      by : (x : WireReply) → Balances t k x (write_result_of (is_init_reply x), made_ready ended wire)
      by (agreed major minor flags) = names_nothing t k _ (agreed major minor flags) Accepted known same (λ id. refl)
      by (failed errno) = names_nothing t k _ (failed errno) Accepted known same (λ id. refl)
      by x = refuses t k _ x Invalid known same (λ n. refl)

  release_balanced : Balances t k wire (write_result_of (is_empty_reply wire), ended)
  release_balanced = by wire
    where
      same : SameCounts k ended
      same = record { nodes = refl; forgets = refl }

      by : (x : WireReply) → Balances t k x (write_result_of (is_empty_reply x), ended)
      by done = names_nothing t k ended done Accepted known same (λ id. refl)
      by (failed errno) = names_nothing t k ended (failed errno) Accepted known same (λ id. refl)
      by x = refuses t k ended x Invalid known same (λ n. refl)

  ended_balanced : (kept : Purpose) → waiting k.queues unique ≡ Some kept
      → is_live (ended_by ended kept wire).1.phase ≡ true → Balances t k wire (ended_by ended kept wire)
  ended_balanced purpose.Init waits live = by (is_agreement wire) live
    where
      by : (b : Bool) → is_live (cond b (made_ready ended wire) (kernel_aborted ended)).phase ≡ true
          → Balances t k wire (
            write_result_of (is_init_reply wire),
            cond b (made_ready ended wire) (kernel_aborted ended),
          )
      by true still = init_balanced
      by false still = absurd (true≢false (sym still))
  ended_balanced (purpose.Release o) waits live = release_balanced
  ended_balanced (purpose.Call call) waits live = by (get k.vfs.calls call) refl
    where
      by : (o : Option (CallState Opened)) → get k.vfs.calls call ≡ o
          → Balances t k wire (replied_to_call ended call wire o)
      by None none = absurd (unanswered k one_request call unique waits none)
      by (Some state) there = let reply_received = replied_balanced t ended known wire held call state in
          record { counts = reply_received.counts; known = reply_received.known }

  pub written_balances : is_live (reply_written k unique wire).1.phase ≡ true
      → Balances t k wire (reply_written k unique wire)
  written_balances = by (nat_eq (unique % 2) 1)
    where
      same : SameCounts k k
      same = record { nodes = refl; forgets = refl }

      interrupts : (x : WireReply) → Balances t k x (interrupt_replied k (unique - 1) x)
      interrupts (failed errno) = names_nothing t k _ (failed errno) Accepted known
          (record { nodes = refl; forgets = interrupt_reply_same k.queues (unique - 1) (interrupt_reply_of errno) })
          (λ id. refl)
      interrupts done = names_nothing t k k done Accepted known same (λ id. refl)
      interrupts x = refuses t k k x Invalid known same (λ n. refl)

      odd : (o : Option Purpose) → Balances t k wire (interrupt_reply_written k unique wire o)
      odd None = refuses t k k wire NoEntry known same (λ n. refl)
      odd (Some kept) = interrupts wire

      even : (o : Option Purpose) → waiting k.queues unique ≡ o
          → is_live (request_reply_written k unique wire o).1.phase ≡ true
          → Balances t k wire (request_reply_written k unique wire o)
      even None waits live = refuses t k k wire NoEntry known same (λ n. refl)
      even (Some kept) waits live = ended_balanced kept waits live

      by : (b : Bool) → is_live (cond b (interrupt_reply_written k unique wire (waiting k.queues (unique - 1)))
          (request_reply_written k unique wire (waiting k.queues unique))).1.phase ≡ true
          → Balances t k wire (cond b (interrupt_reply_written k unique wire (waiting k.queues (unique - 1)))
          (request_reply_written k unique wire (waiting k.queues unique)))
      by true live = odd (waiting k.queues (unique - 1))
      by false live = even (waiting k.queues unique) refl live

-- ---- the copy leaves the link, and its result comes onto the other

module _ (w : World) (old : LookupsBalanced w) (sound : CopiesSound w) (k : ℕ) (sent : Sent)
    (there : slice_get w.replies k ≡ Some sent) where
  sent_held : EntriesHeld w.server.nodes sent.wire
  sent_held = All-at (λ (s : Sent). EntriesHeld w.server.nodes s.wire) w.replies k sent old.copies there

  taken_received : (taken : WriteResult × Kernel) → Balances w.server.nodes w.kernel sent.wire taken
      → LookupsBalanced (after_write w k sent taken)
  taken_received taken reply_received = record {
    balance = λ id low.
        let whole = old.balance id low in
        let gone : copies_name id (without_at w.replies k) + times_named id sent.wire ≡ copies_name id w.replies =
        sum_removed (λ (s : Sent). times_named id s.wire) w.replies k sent there in
        let pushed : refused_name id w.server.copies (w.results ++ result ∷ [])
        ≡ refused_name id w.server.copies w.results + refused taken.0
        (carried (times_named id) (get w.server.copies sent.number)) =
        sum_by_push (λ (r : ReplyResult). refused r.result
        (carried (times_named id) (get w.server.copies r.number))) w.results result in
        let carries : refused taken.0 (carried (times_named id) (get w.server.copies sent.number))
        ≡ refused taken.0 (times_named id sent.wire) = ap (λ (o : Option Copy). refused taken.0
        (carried (times_named id) o)) copy.there ∙ ap (λ (x : WireReply). refused taken.0
        (times_named id x)) copy.same_wire in
        let counts = reply_received.counts id in
        omega (arith, whole, gone, pushed, carries, counts);
    known = reply_received.known;
    copies = All-without (λ (s : Sent). EntriesHeld w.server.nodes s.wire) w.replies k old.copies;
    refused = All-push (RefusedHeld w.server.nodes w.server.copies) w.results result old.refused
        (λ other no_good at. let same : other ≡ copy.copy = cc (at, copy.there) in
        subst (EntriesHeld w.server.nodes) (sym copy.same_wire ∙ ap (λ (c : Copy). c.wire) (sym same)) sent_held);
  }
    where
      copy : IsKnownCopy w.server.copies sent
      copy = All-at (IsKnownCopy w.server.copies) w.replies k sent sound.sent there

      result : ReplyResult
      result = record { number = sent.number; unique = sent.unique; result = taken.0 }

  pub written_balanced : IsNumbered w → is_live (reply_written w.kernel sent.unique sent.wire).1.phase ≡ true
      → LookupsBalanced (after_write w k sent (reply_written w.kernel sent.unique sent.wire))
  written_balanced numbered live =
      taken_received (reply_written w.kernel sent.unique sent.wire)
      (written_balances w.server.nodes w.kernel old.known numbered.one_request sent.unique sent.wire sent_held live)
