-- The file that a call opens has a handle of its node's file.
use Rattle.std.proofs.Common.{◌≡◌, ℕ, ◌-◌, ◌≤◌, Bool, true, false, true≢false, cond, [], Some, None, nat_eq, refl, ap, sym, subst, ◌∙◌, All}
use Rattle.std.specs.Prelude.{◌%◌}
use Rattle.std.proofs.lemmas.List.Elements.{All-head}
use Rattle.fuse_spec.specs.declared.Entry.{Entry}
use Rattle.fuse_spec.specs.declared.Opened.{Opened}
use Rattle.fuse_spec.specs.declared.Purpose.TheVariants as purpose
use Rattle.fuse_spec.specs.Values.Maps.{get}
use Rattle.fuse_spec.specs.Kernel.Messages.{WireReply}
use Rattle.fuse_spec.specs.Files.Operations.{Operation, create, opening, created, opened, failed, files_in}
use Rattle.fuse_spec.specs.Kernel.QueueCalls.{waiting}
use Rattle.fuse_spec.specs.Calls.Vfs.{CallState, asked}
use Rattle.fuse_spec.specs.Files.Operations.{opened_nodes}
use Rattle.fuse_spec.specs.Server.Nodes.{NodeTable, HandleTable, file_of, is_open}
use Rattle.fuse_spec.specs.Reference.Plain.{Plain}
use Rattle.fuse_spec.specs.Kernel.Replies.{kernel_reply, goes_with}
use Rattle.fuse_spec.specs.World.Worlds.{World, Sent}
use Rattle.fuse_theorem.specs.Conditions.{OpensItsFile, KnownAreHeld}
use Rattle.fuse_theorem.specs.EachEvent.{CanReceive, nothing, of_interrupt, of_release, of_init, of_call, of_declined}
use Rattle.fuse_theorem.specs.KnownNodes.{IsKnown, NodesKnown}
use Rattle.fuse_theorem.specs.Lookups.{IsHeldAs, EntriesHeld}
use Rattle.fuse_theorem.specs.OpenNumbers.{IsOfItsNode}
use Rattle.fuse_theorem.proofs.Nodes.HeldKnown.{state_names}
use Rattle.fuse_theorem.proofs.Trees.HeldOperations.{denoted}
use Rattle.fuse_theorem.proofs.Calls.KnownWalks.{StateKnown}
use Rattle.fuse_theorem.proofs.Nodes.NodesKnown.{known_some}
use Rattle.fuse_theorem.proofs.Calls.OpenSteps.{gained_by}
use Rattle.fuse_theorem.proofs.Lists.Values.{All-get}

-- Where the reply's handle is one of its file, and its nodes are held, the file that it opens has a handle of its
-- node's file.
reply_fits : (t : NodeTable) (h : HandleTable) (operation : Operation ℕ Opened) (wire : WireReply)
    → goes_with operation wire ≡ true → OpensItsFile t h operation wire → EntriesHeld t wire
    → ((node : ℕ) → operation ≡ opening node → (generation : ℕ) × IsHeldAs t node generation) → (o : Opened)
    → gained_by operation (kernel_reply operation wire) ≡ Some o → is_open h o.fh (file_of t o.nodeid) ≡ true
reply_fits t h (create d name) (created g valid fh) goes its entries held o e =
    let is : record { nodeid = g.nodeid; fh = fh } ≡ o = cc (e) in
    let node = (All-head (λ (x : Entry). (2 ≤ x.nodeid) × IsHeldAs t x.nodeid x.generation) g [] entries).1 in
    subst (λ (x : Opened). is_open h x.fh (file_of t x.nodeid) ≡ true) is
    (ap (is_open h fh) (denoted t g.nodeid g.generation node.0 node.1) ∙ its node.0 node.1)
reply_fits t h (opening node) (opened fh) goes its entries held o e =
    let is : record { nodeid = node; fh = fh } ≡ o = cc (e) in
    let there = held node refl in
    let file = there.1 in
    subst (λ (x : Opened). is_open h x.fh (file_of t x.nodeid) ≡ true) is
    (ap (is_open h fh) (denoted t node there.0 file.0 file.1) ∙ its there.0 file.0 file.1)
reply_fits t h operation (created g valid fh) goes its entries held o e = absurd (true≢false (sym goes))
reply_fits t h operation (opened fh) goes its entries held o e = absurd (true≢false (sym goes))
reply_fits t h operation wire goes its entries held o e = absurd (cc (e))

module _ (w : World) (p : Plain) (nodes : NodesKnown w.kernel) (held : KnownAreHeld w) (sent : Sent)
    (entries : EntriesHeld w.server.nodes sent.wire) (receives : CanReceive w p sent) where
  -- the node that a call opens is held
  opening_held : (call : ℕ) (state : CallState Opened) → get w.kernel.vfs.calls call ≡ Some state → (node : ℕ)
      → asked state ≡ opening node → (generation : ℕ) × IsHeldAs w.server.nodes node generation
  opening_held call state there node is =
      let names = state_names w.kernel.nodes state (All-get
      (StateKnown w.kernel.nodes) w.kernel.vfs.calls call state nodes.calls there) in
      let known = All-head (IsKnown w.kernel.nodes) node []
      (subst (λ (x : Operation ℕ Opened). All (IsKnown w.kernel.nodes) (files_in opened_nodes x)) is names) in
      let some = known_some w.kernel.nodes node known in
      (some.0, held node some.0 some.1)

  pub opened_fits : nat_eq (sent.unique % 2) 1 ≡ false → (call : ℕ) (state : CallState Opened)
      → waiting w.kernel.queues sent.unique ≡ Some (purpose.Call call) → get w.kernel.vfs.calls call ≡ Some state
      → goes_with (asked state) sent.wire ≡ true → (o : Opened)
      → gained_by (asked state) (kernel_reply (asked state) sent.wire) ≡ Some o → IsOfItsNode w.server o
  opened_fits even call state waits there goes o e = by receives
    where
      same_call : (a b : ℕ) → Some (purpose.Call a) ≡ waiting w.kernel.queues sent.unique
          → waiting w.kernel.queues sent.unique ≡ Some (purpose.Call b) → a ≡ b
      same_call a b x y = let is : purpose.Call a ≡ purpose.Call b = cc (x, y) in cc (is)

      replied : (a : ℕ) (s : CallState Opened) → waiting w.kernel.queues sent.unique ≡ Some (purpose.Call a)
          → get w.kernel.vfs.calls a ≡ Some s → OpensItsFile w.server.nodes w.server.handles (asked s) sent.wire
          → IsOfItsNode w.server o
      replied a s x at its =
          let call_is = same_call a call (sym x) waits in
          let state_is : s ≡ state = cc (subst (λ (n : ℕ). get w.kernel.vfs.calls n ≡ Some s) call_is at, there) in
          reply_fits w.server.nodes w.server.handles (asked state) sent.wire goes
          (subst (λ (q : CallState Opened). OpensItsFile w.server.nodes w.server.handles
          (asked q) sent.wire) state_is its) entries (opening_held call state there) o e

      by : CanReceive w p sent → IsOfItsNode w.server o
      by (nothing none) = let none_waits : waiting w.kernel.queues sent.unique ≡ None =
          ap (λ (b : Bool). cond b (waiting w.kernel.queues (sent.unique - 1)) (waiting w.kernel.queues sent.unique))
          (sym even) ∙ none in absurd (cc (none_waits, waits))
      by (of_interrupt kept numbered live odd x) = absurd (true≢false (sym odd ∙ even))
      by (of_release other numbered live tie x) = absurd (cc (x, waits))
      by (of_init numbered live tie x says) = absurd (cc (x, waits))
      by (of_call a s reply numbered one live tie x is) = replied a s x is.state_is is.opens
      by (of_declined a s numbered one live tie x is) =
          absurd (declined_opens (asked state) (subst (λ (y : WireReply). gained_by (asked state)
          (kernel_reply (asked state) y) ≡ Some o) is.wire_is e))
        where
          declined_opens : (x : Operation ℕ Opened) → gained_by x (kernel_reply x (failed 4)) ≡ Some o → ⊥
          declined_opens x e = cc (e)
