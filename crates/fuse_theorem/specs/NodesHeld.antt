-- What `Held` says of nodes alone: the server holds each node that a live kernel uses, and no request on its way names
-- a node that is gone.
use Rattle.std.specs.Prelude.{T, ◌≡◌, ℕ, List, true, Some, All, is_some, MatchOption}
use Rattle.std.specs.Ordering.{nat_cmp}
use Rattle.std.specs.FinMap.{is_sorted}
use Rattle.fuse_spec.specs.declared.Dentry.{Dentry}
use Rattle.fuse_spec.specs.declared.Counted.{Counted}
use Rattle.fuse_spec.specs.declared.Opened.{Opened}
use Rattle.fuse_spec.specs.declared.Purpose.{Purpose}
use Rattle.fuse_spec.specs.declared.QueuedRequest.{QueuedRequest}
use Rattle.fuse_spec.specs.Claim.Counts.{NodeDenotesSome, EntryDenotesSome}
use Rattle.fuse_spec.specs.Kernel.Kernel.{is_live, body_of, nodes_of_state}
use Rattle.fuse_spec.specs.Values.Maps.{get, get_name, values}
use Rattle.fuse_spec.specs.Kernel.Messages.{RequestBody, Request}
use Rattle.fuse_spec.specs.Server.Nodes.{row_of}
use Rattle.fuse_spec.specs.Files.Operations.{files_in_reply}
use Rattle.fuse_spec.specs.Kernel.Queues.{pending}
use Rattle.fuse_spec.specs.Server.Server.{Server, HeldRequest, nodes_of_body}
use Rattle.fuse_spec.specs.Calls.Vfs.{CallState}
use Rattle.fuse_spec.specs.World.Worlds.{World, Sent}

-- What the kernel counts, binds, opens or waits on is held by the server under the kernel's generation, and so is each
-- entry on the reply link.
pub record NodesHeldLive (w : World) : Type 0 where
  pub nodes : (id : ℕ) (node : Counted) → get w.kernel.nodes id ≡ Some node → NodeDenotesSome w id
  pub names : (directory : ℕ) (name : List ℕ) (bound : Dentry)
      → get_name w.kernel.vfs.names (directory, name) ≡ Some bound → NodeDenotesSome w directory
  pub targets : (directory : ℕ) (name : List ℕ) (bound : Dentry) (id : ℕ)
      → get_name w.kernel.vfs.names (directory, name) ≡ Some bound → bound.target ≡ Some id → NodeDenotesSome w id
  pub calls : All (λ (state : CallState Opened). All (NodeDenotesSome w) (nodes_of_state state)) (values w.kernel.vfs.calls)
  pub opens : All (λ (o : Opened). NodeDenotesSome w o.nodeid) (values w.kernel.vfs.opens)
  pub closing : All (λ (o : Opened). NodeDenotesSome w o.nodeid) (values w.kernel.closing)
  pub copies : All (λ (sent : Sent). All (EntryDenotesSome w) (files_in_reply sent.wire)) w.replies

-- Each node that the request names is in the server's table.
abbrev pub NodesServable : Server → RequestBody → Type 0
NodesServable s body = All (λ (id : ℕ). is_some (row_of s.nodes id) ≡ true) (nodes_of_body body)

-- The held requests stand in rising number, and name no node that is gone.
pub record TakenServable (s : Server) : Type 0 where
  pub in_order : T (is_sorted nat_cmp s.held)
  pub nodes : All (λ (t : HeldRequest). NodesServable s t.body) (values s.held)

pub record NodesHeld (w : World) : Type 0 where
  pub live : is_live w.kernel.phase ≡ true → NodesHeldLive w
  pub pending : All (λ (e : ℕ × QueuedRequest Purpose). MatchOption (body_of w.kernel e.1.kept) ⊥
      (λ (body : RequestBody). NodesServable w.server body)) (pending w.kernel.queues)
  pub sent : All (λ (r : Request). NodesServable w.server r.body) w.requests
  pub taken : All (λ (t : HeldRequest). NodesServable w.server t.body) (values w.server.held)
