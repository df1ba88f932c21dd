-- What keeps the counts of the two sides together: Balance, Held and AtRest.
use Rattle.std.specs.Prelude.{◌≡◌, ◌≢◌, ◌≤◌, ℕ, ◌+◌, true, cond, List, [], ◌∷◌, ◌++◌, Option, Some, None, nat_eq, sum_by, count_by, All, is_some, MatchOption}
use Rattle.fuse_spec.specs.Values.Maps.{get, values, get_name}
use Rattle.fuse_spec.specs.Files.Operations.{Operation, read, write, files_in_reply, opens_in_reply, OptionAlike}
use Rattle.fuse_spec.specs.declared.Dentry.{Dentry}
use Rattle.fuse_spec.specs.declared.Opened.{Opened}
use Rattle.fuse_spec.specs.declared.Entry.{Entry}
use Rattle.fuse_spec.specs.declared.Counted.{Counted}
use Rattle.fuse_spec.specs.declared.Purpose.{Purpose}
use Rattle.fuse_spec.specs.declared.Purpose.TheVariants as purpose
use Rattle.fuse_spec.specs.declared.QueuedRequest.{QueuedRequest}
use Rattle.fuse_spec.specs.declared.ReplyResult.{ReplyResult}
use Rattle.fuse_spec.specs.declared.WriteResult.{WriteResult}
use Rattle.fuse_spec.specs.declared.WriteResult.TheVariants.{Accepted, NoEntry, Invalid}
use Rattle.fuse_spec.specs.Kernel.Queues.{pending, processing}
use Rattle.fuse_spec.specs.Kernel.Messages.{WireReply, RequestBody, Request, init, asks, release, forget, batch_forget, interrupt}
use Rattle.fuse_spec.specs.Kernel.Kernel.{Kernel, is_live, body_of, nodes_of_state}
use Rattle.fuse_spec.specs.Server.Nodes.{HeldNode, FileHandle, row_of, is_open, file_of}
use Rattle.fuse_spec.specs.Server.Server.{Server, HeldRequest, Copy, count_in, forgotten, forgets_of, fault_of, nodes_of_body}
use Rattle.fuse_spec.specs.World.Worlds.{World, Sent}
use Rattle.fuse_spec.specs.Claim.Denotes.{Denotes, NodeDenotesIn, OpenDenotesIn}

-- The kernel's count of a node, which is 0 where it counts none. (libfuse, low-level: lookup)
abbrev pub counted : Option Counted → ℕ
counted None = 0
counted (Some node) = node.count

-- The next two are how often a reply names a node, and a file handle.
abbrev pub times_named : ℕ → WireReply → ℕ
times_named id wire = count_by (λ (g : Entry). nat_eq g.nodeid id) (files_in_reply wire)

abbrev pub opens_in : ℕ → WireReply → ℕ
opens_in fh wire = count_by (nat_eq fh) (opens_in_reply wire)

-- What `f` counts in the reply of a copy, as the server still knows the copy.
abbrev pub carried : (WireReply → ℕ) → Option Copy → ℕ
carried f None = 0
carried f (Some copy) = f copy.wire

-- A count, where the result refuses the copy; an accepted copy leaves none.
abbrev pub refused : WriteResult → ℕ → ℕ
refused Accepted n = 0
refused NoEntry n = n
refused Invalid n = n

-- What `f` counts in the copy that this result refuses, on its way back.
abbrev pub result_carries : (WireReply → ℕ) → Server → ReplyResult → ℕ
result_carries f s result = refused result.result (carried f (get s.copies result.number))

-- In flight for a node: forgets that are queued or on the request link, copies on the reply link that name it, and
-- refused ones on the result link.
abbrev pub in_flight : World → ℕ → ℕ
in_flight w id =
    forgotten id w.kernel.queues.forgets + sum_by (λ (r : Request). forgotten id (forgets_of r.body)) w.requests
    + sum_by (λ (sent : Sent). times_named id sent.wire) w.replies + sum_by
    (result_carries (times_named id) w.server) w.results

-- Balance: the server's count of each node from 2 up is the kernel's and what is in flight.
abbrev pub Balance : World → Type 0
Balance w = (id : ℕ) → 2 ≤ id → count_in (get w.server.nodes.rows id) ≡ counted (get w.kernel.nodes id) + in_flight w id

-- The next two are how often a request releases a file handle, by what it asks and by what the kernel keeps of it.
abbrev pub releases_in : ℕ → RequestBody → ℕ
releases_in fh (release o) = cond (nat_eq o.fh fh) 1 0
releases_in fh (init flags) = 0
releases_in fh (asks operation) = 0
releases_in fh (forget f) = 0
releases_in fh (batch_forget fs) = 0
releases_in fh (interrupt original) = 0

abbrev pub releases_for : ℕ → Purpose → ℕ
releases_for fh purpose.Init = 0
releases_for fh (purpose.Release o) = cond (nat_eq o.fh fh) 1 0
releases_for fh (purpose.Call call) = 0

-- In flight for a file handle: RELEASEs that are pending, on the request link or held by the server, copies on the
-- reply link that carry it, and refused ones on the result link.
abbrev pub open_in_flight : World → ℕ → ℕ
open_in_flight w fh =
    sum_by (λ (e : ℕ × QueuedRequest Purpose). releases_for fh e.1.kept) (pending w.kernel.queues) + sum_by
    (λ (r : Request). releases_in fh r.body) w.requests
    + sum_by (λ (taken : HeldRequest). releases_in fh taken.body) (values w.server.held) + sum_by
    (λ (sent : Sent). opens_in fh sent.wire) w.replies
    + sum_by (result_carries (opens_in fh) w.server) w.results

-- The server's count of a file handle, which is 0 where there is none.
abbrev pub handle_count : Option FileHandle → ℕ
handle_count None = 0
handle_count (Some handle) = handle.count

-- How many open files of the kernel, and closed ones whose RELEASE isn't queued yet, have this file handle.
abbrev pub open_in_kernel : Kernel → ℕ → ℕ
open_in_kernel k fh = count_by (λ (o : Opened). nat_eq o.fh fh) (values k.vfs.opens ++ values k.closing)

-- Balance of file handles: the server's count of each is the number of the kernel's files that have it and what is in
-- flight.
abbrev pub OpenBalance : World → Type 0
OpenBalance w = (fh : ℕ) → handle_count (get w.server.handles.handles fh)
    ≡ open_in_kernel w.kernel fh + open_in_flight w fh

-- The kernel's node denotes some file.
abbrev pub NodeDenotesSome : World → ℕ → Type 0
NodeDenotesSome w id = (file : ℕ) × NodeDenotesIn w id file

-- The kernel's open file denotes some file.
abbrev pub OpenDenotesSome : World → Opened → Type 0
OpenDenotesSome w o = (file : ℕ) × OpenDenotesIn w o file

-- The entry of a copy denotes some file: the server holds its node under the entry's own generation.
abbrev pub EntryDenotesSome : World → Entry → Type 0
EntryDenotesSome w g = (file : ℕ) × Denotes w.server.nodes g.nodeid g.generation file

-- The kernel's node of an unanswered RELEASE denotes some file.
abbrev pub ReleaseDenotesSome : World → Purpose → Type 0
ReleaseDenotesSome w purpose.Init = Unit {0}
ReleaseDenotesSome w (purpose.Release o) = NodeDenotesSome w o.nodeid
ReleaseDenotesSome w (purpose.Call call) = Unit {0}

-- In a live mount: the nodes that the kernel counts, those from and to which its names lead, those of its calls, its
-- open and closed files and its unanswered RELEASEs are held by the server under the kernel's generation, and each
-- entry on the reply link under its own.
pub record HeldLive (w : World) : Type 0 where
  pub nodes : (id : ℕ) (node : Counted) → get w.kernel.nodes id ≡ Some node → NodeDenotesSome w id
  pub names : (directory : ℕ) (name : List ℕ) (bound : Dentry)
      → get_name w.kernel.vfs.names (directory, name) ≡ Some bound → NodeDenotesSome w directory
  pub targets : (directory : ℕ) (name : List ℕ) (bound : Dentry) (id : ℕ)
      → get_name w.kernel.vfs.names (directory, name) ≡ Some bound → bound.target ≡ Some id → NodeDenotesSome w id
  pub calls : All (λ state. All (NodeDenotesSome w) (nodes_of_state state)) (values w.kernel.vfs.calls)
  pub opens : All (OpenDenotesSome w) (values w.kernel.vfs.opens)
  pub closing : All (OpenDenotesSome w) (values w.kernel.closing)
  pub releases : All (λ (e : ℕ × QueuedRequest Purpose). ReleaseDenotesSome w e.1.kept) w.kernel.queues.requests
  pub copies : All (λ (sent : Sent). All (EntryDenotesSome w) (files_in_reply sent.wire)) w.replies

-- The next two are the open files that an operation names, and a request.
abbrev pub opens_of : Operation ℕ Opened → List Opened
opens_of (read o offset size) = o ∷ []
opens_of (write o offset bytes) = o ∷ []
opens_of operation = []

abbrev pub opens_of_body : RequestBody → List Opened
opens_of_body (asks operation) = opens_of operation
opens_of_body (release o) = o ∷ []
opens_of_body (init flags) = []
opens_of_body (forget f) = []
opens_of_body (batch_forget fs) = []
opens_of_body (interrupt original) = []

-- Each node that the request names is in the server's table, and each file handle is one of its node's file.
pub record IsServable (s : Server) (body : RequestBody) : Type 0 where
  pub nodes : All (λ id. is_some (row_of s.nodes id) ≡ true) (nodes_of_body body)
  pub opens : All (λ (o : Opened). is_open s.handles o.fh (file_of s.nodes o.nodeid) ≡ true) (opens_of_body body)

-- Held: while the mount is live what HeldLive says, and in any mount no request that is pending, on its link or held by
-- the server names a node or file handle that is gone.
pub record Held (w : World) : Type 0 where
  pub live : is_live w.kernel.phase ≡ true → HeldLive w
  pub pending : All (λ (e : ℕ × QueuedRequest Purpose). MatchOption (body_of w.kernel e.1.kept) ⊥
      (λ body. IsServable w.server body)) (pending w.kernel.queues)
  pub sent : All (λ (r : Request). IsServable w.server r.body) w.requests
  pub taken : All (λ (t : HeldRequest). IsServable w.server t.body) (values w.server.held)

-- Nothing is under way: the mount is live, no request, INTERRUPT or forget is queued, the links are empty, and the
-- server holds no request.
pub record AtRest (w : World) : Type 0 where
  pub live : is_live w.kernel.phase ≡ true
  pub pending : pending w.kernel.queues ≡ []
  pub interrupts : w.kernel.queues.interrupts ≡ []
  pub forgets : w.kernel.queues.forgets ≡ []
  pub requests : w.requests ≡ []
  pub replies : w.replies ≡ []
  pub results : w.results ≡ []
  pub held : w.server.held ≡ []

-- The same node on both sides, or none: equal generations and counts.
abbrev pub SameNode : Option Counted → Option HeldNode → Type 0
SameNode a b = OptionAlike (λ (node : Counted) (row : HeldNode). (node.generation ≡ row.generation)
    × (node.count ≡ row.count)) a b

-- At rest no call waits, and the two sides hold the same nodes and open files, with the same counts: each file handle
-- is one of its node's file and counted once, and there is none beside.
pub record Settled (w : World) : Type 0 where
  pub processing : processing w.kernel.queues ≡ []
  pub calls : w.kernel.vfs.calls ≡ []
  pub nodes : (id : ℕ) → SameNode (get w.kernel.nodes id) (get w.server.nodes.rows id)
  pub opens : (fh : ℕ) → handle_count (get w.server.handles.handles fh)
      ≡ count_by (λ (o : Opened). nat_eq o.fh fh) (values w.kernel.vfs.opens)
  pub once : (fh : ℕ) → handle_count (get w.server.handles.handles fh) ≤ 1
  pub counted : (fh : ℕ) (handle : FileHandle) → get w.server.handles.handles fh ≡ Some handle → 1 ≤ handle.count
  pub files : All (λ (o : Opened). is_open w.server.handles o.fh (file_of w.server.nodes o.nodeid) ≡ true)
      (values w.kernel.vfs.opens)

-- The reference protocol, which is to hold after each event: Balance, of nodes and of file handles, each of which one
-- file of the kernel has at most; Held, no fault in a request on its link, no reply with a wrong body, and what is true
-- at rest.
pub record Protocol (w : World) : Type 0 where
  pub balance : is_live w.kernel.phase ≡ true → Balance w
  pub open_balance : is_live w.kernel.phase ≡ true → OpenBalance w
  pub open_once : is_live w.kernel.phase ≡ true → (fh : ℕ) → open_in_kernel w.kernel fh ≤ 1
  pub held : Held w
  pub no_fault : All (λ (r : Request). fault_of w.server r ≡ None) w.requests
  pub no_wrong_body : All (λ (result : ReplyResult). result.result ≢ Invalid) w.results
  pub at_rest : AtRest w → Settled w
