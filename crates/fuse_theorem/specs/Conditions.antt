-- What the laws on single events need of the world.
use Rattle.std.specs.Prelude.{Contains, ◌≡◌, ◌≢◌, ◌≤◌, ◌+◌, ◌-◌, ◌%◌, ℕ, [], Option, cond, All, true, false, Some, None, nat_eq, count_by, slice_get}
use Rattle.fuse_spec.specs.declared.Entry.{Entry}
use Rattle.fuse_spec.specs.declared.Opened.{Opened}
use Rattle.fuse_spec.specs.declared.Purpose.{Purpose}
use Rattle.fuse_spec.specs.declared.Purpose.TheVariants as purpose
use Rattle.fuse_spec.specs.declared.QueuedRequest.{QueuedRequest}
use Rattle.fuse_spec.specs.declared.Counted.{Counted}
use Rattle.fuse_spec.specs.Values.Maps.{Map, get}
use Rattle.fuse_spec.specs.Values.Numbers.{eintr}
use Rattle.fuse_spec.specs.Files.Operations.{Operation, Reply, opening, created, opened, failed, files_in_reply, opens_in_reply, OperationAlike, ReplyAlike}
use Rattle.fuse_spec.specs.Calls.Vfs.{CallState, asked}
use Rattle.fuse_spec.specs.Kernel.Queues.{pending, request_under, is_unread}
use Rattle.fuse_spec.specs.Kernel.Messages.{Request, asks, release, interrupt, WireReply}
use Rattle.fuse_spec.specs.Server.Nodes.{NodeTable, HandleTable, file_of, is_open}
use Rattle.std.specs.List.{list_any}
use Rattle.fuse_spec.specs.Claim.Counts.{opens_of, opens_of_body}
use Rattle.fuse_spec.specs.Server.Server.{Server, HeldRequest, Kept, nodes_of_body}
use Rattle.fuse_spec.specs.Kernel.Replies.{goes_with, usable, looked_up, reply_judged, use_of_reply, stale_in_reply}
use Rattle.fuse_spec.specs.Server.Performs.{is_still_held}
use Rattle.fuse_spec.specs.Kernel.Kernel.{Kernel}
use Rattle.fuse_spec.specs.Kernel.QueueCalls.{waiting}
use Rattle.fuse_spec.specs.World.Worlds.{World, Sent}
use Rattle.fuse_spec.specs.Reference.Plain.{Plain, Ask}
use Rattle.fuse_spec.specs.Reference.Plain as plain
use Rattle.fuse_spec.specs.Claim.Denotes.{Denotes, NodeDenotesIn, OpenDenotesIn, generation_known, Names, Opens}
use Rattle.fuse_theorem.specs.Unperformed.{unperformed}

-- No two nodes of the server's table have the same file.
abbrev pub OneId : NodeTable → Type 0
OneId t = (i j g h file : ℕ) → Denotes t i g file → Denotes t j h file → i ≡ j

-- The server holds what the kernel knows, under the kernel's generation.
abbrev pub KnownAreHeld : World → Type 0
KnownAreHeld w = (id generation : ℕ) → generation_known w.kernel.nodes id ≡ Some generation
    → (file : ℕ) × Denotes w.server.nodes id generation file

-- The root stands in no table, and the coming file handle is new.
pub record TablesSound (s : Server) : Type 0 where
  pub no_root : get s.nodes.rows 1 ≡ None
  pub new_handle : get s.handles.handles s.handles.next_fh ≡ None

-- The file handle of a reply to CREATE or OPEN is one of the file that is created or opened.
abbrev pub OpensItsFile : NodeTable → HandleTable → Operation ℕ Opened → WireReply → Type 0
OpensItsFile t h operation (created g v fh) = (file : ℕ) → Denotes t g.nodeid g.generation file
    → is_open h fh file ≡ true
OpensItsFile t h (opening node) (opened fh) = (generation file : ℕ) → Denotes t node generation file
    → is_open h fh file ≡ true
OpensItsFile t h operation wire = Unit {0}

-- A request of a call that the server can perform: it is held alone under its number, no INTERRUPT marked it, and
-- its nodes are held as they were when it was taken.
pub record CanPerformCall (w : World) (unique : ℕ) (t : HeldRequest) (operation : Operation ℕ Opened) : Type 0 where
  pub there : get w.server.held unique ≡ Some t
  pub body_is : t.body ≡ asks operation
  pub unmarked : t.marked ≡ false
  pub still : is_still_held w.server.nodes t.generations ≡ true
  pub none_pending : count_by (λ (e : ℕ × QueuedRequest Purpose). nat_eq unique e.0) (pending w.kernel.queues) ≡ 0
  pub none_sent : count_by (λ (r : Request). nat_eq unique r.unique) w.requests ≡ 0

-- A request of a call that an INTERRUPT marked; it is held alone under its number.
pub record CanDecline (w : World) (unique : ℕ) (t : HeldRequest) (operation : Operation ℕ Opened) : Type 0 where
  pub there : get w.server.held unique ≡ Some t
  pub body_is : t.body ≡ asks operation
  pub marked : t.marked ≡ true
  pub none_pending : count_by (λ (e : ℕ × QueuedRequest Purpose). nat_eq unique e.0) (pending w.kernel.queues) ≡ 0
  pub none_sent : count_by (λ (r : Request). nat_eq unique r.unique) w.requests ≡ 0

-- A RELEASE that the server can perform: no INTERRUPT marked it, its node is held as it was when it was taken, and its
-- file handle is one of the node's file.
pub record CanRelease (w : World) (unique : ℕ) (t : HeldRequest) (o : Opened) : Type 0 where
  pub there : get w.server.held unique ≡ Some t
  pub body_is : t.body ≡ release o
  pub unmarked : t.marked ≡ false
  pub still : is_still_held w.server.nodes t.generations ≡ true
  pub number : is_open w.server.handles o.fh (file_of w.server.nodes o.nodeid) ≡ true

-- The entries of a reply can be used: the kernel takes the reply as it is, forgets nothing for it, and then knows each
-- node under its entry's generation.
pub record IsUsable (nodes : Map Counted) (wire : WireReply) : Type 0 where
  pub judged : reply_judged nodes wire ≡ wire
  pub none_stale : stale_in_reply nodes wire ≡ []
  pub is_usable : use_of_reply nodes wire ≡ usable
  pub known : All (λ (g : Entry). generation_known (looked_up nodes (files_in_reply wire)) g.nodeid ≡ Some g.generation)
      (files_in_reply wire)

-- A copy that replies to the request of an unanswered call, whose ask was performed: it goes with the operation, and
-- its entries can be used.
pub record IsReplyToCall (w : World) (p : Plain) (sent : Sent) (call : ℕ) (state : CallState Opened)
    (reply : Reply ℕ ℕ) : Type 0 where
  pub request : QueuedRequest Purpose
  pub under : request_under w.kernel.queues sent.unique ≡ Some request
  pub serves : request.kept ≡ purpose.Call call
  pub state_is : get w.kernel.vfs.calls call ≡ Some state
  pub ask : Ask
  pub there : get p.asks sent.unique ≡ Some ask
  pub by_call : ask.call ≡ call
  pub same : OperationAlike (NodeDenotesIn w) (OpenDenotesIn w) (asked state) ask.operation
  pub stage : ask.stage ≡ plain.performed reply
  pub reply_matches : ReplyAlike (Names w.server.nodes) (Opens w.server.handles) sent.wire reply
  pub goes : goes_with (asked state) sent.wire ≡ true
  pub used : IsUsable w.kernel.nodes sent.wire
  pub opens : OpensItsFile w.server.nodes w.server.handles (asked state) sent.wire

-- A copy that says EINTR of an unanswered call's request, whose ask was declined.
pub record IsDeclined (w : World) (p : Plain) (sent : Sent) (call : ℕ) (state : CallState Opened) : Type 0 where
  pub request : QueuedRequest Purpose
  pub under : request_under w.kernel.queues sent.unique ≡ Some request
  pub serves : request.kept ≡ purpose.Call call
  pub state_is : get w.kernel.vfs.calls call ≡ Some state
  pub ask : Ask
  pub there : get p.asks sent.unique ≡ Some ask
  pub by_call : ask.call ≡ call
  pub stage : ask.stage ≡ plain.declined
  pub noted : ask.noted ≡ true
  pub wire_is : sent.wire ≡ failed eintr

-- What is unread is neither on the link nor held.
abbrev pub UnreadAreUnsent : World → Type 0
UnreadAreUnsent w = (unique : ℕ) (r : QueuedRequest Purpose) → request_under w.kernel.queues unique ≡ Some r
    → is_unread r.mark ≡ true → All (λ (s : Request). s.unique ≢ unique) w.requests × (get w.server.held unique ≡ None)

-- Each entry of the reply is held under its own generation.
abbrev pub EntriesAreHeld : NodeTable → WireReply → Type 0
EntriesAreHeld t wire = (g : Entry) → Contains (files_in_reply wire) g
    → (file : ℕ) × Denotes t g.nodeid g.generation file

-- With this table the server holds, under their generations, the nodes that the kernel knows, those of the requests
-- that it holds, and those that copies and kept replies to unanswered requests name.
pub record HoldsAll (w : World) (t : NodeTable) : Type 0 where
  pub known : (id generation : ℕ) → generation_known w.kernel.nodes id ≡ Some generation
      → (file : ℕ) × Denotes t id generation file
  pub held : (unique : ℕ) (x : HeldRequest) → get w.server.held unique ≡ Some x → (id generation : ℕ)
      → Contains x.generations (id, generation) → (file : ℕ) × Denotes t id generation file
  pub kept : (unique : ℕ) (k : Kept) → get w.server.kept unique ≡ Some k → request_under w.kernel.queues unique ≢ None
      → EntriesAreHeld t k.wire
  pub copies : All (λ (s : Sent). request_under w.kernel.queues s.unique ≢ None → EntriesAreHeld t s.wire) w.replies

-- An INTERRUPT on the link has its original's number and one. The original stands nowhere else while it is held, and a
-- signal was noted on its ask.
pub record IsInterrupt (w : World) (p : Plain) (k : ℕ) (r : Request) (original : ℕ) : Type 0 where
  pub there : slice_get w.requests k ≡ Some r
  pub body_is : r.body ≡ interrupt original
  pub number : r.unique ≡ original + 1
  pub noted : (ask : Ask) → get p.asks original ≡ Some ask → ask.noted ≡ true
  pub once : unperformed w original ≤ 1

-- No request on the link names the node.
abbrev pub IsUnsent : World → ℕ → Type 0
IsUnsent w node = All (λ (r : Request). list_any (nat_eq node) (nodes_of_body r.body) ≡ false) w.requests

-- This file handle is one of some file.
abbrev pub IsFileHandle : HandleTable → ℕ → Type 0
IsFileHandle h fh = get h.handles fh ≢ None

-- With this table the server holds the file handles of the kernel's open files and calls, of the requests on the link
-- and of those that it holds, and those that copies and kept replies to unanswered requests name.
pub record HoldsOpens (w : World) (h : HandleTable) : Type 0 where
  pub opens : (open_call : ℕ) (o : Opened) → get w.kernel.vfs.opens open_call ≡ Some o → IsFileHandle h o.fh
  pub calls : (call : ℕ) (state : CallState Opened) → get w.kernel.vfs.calls call ≡ Some state → (o : Opened)
      → Contains (opens_of (asked state)) o → IsFileHandle h o.fh
  pub sent : All (λ (r : Request). (o : Opened) → Contains (opens_of_body r.body) o → IsFileHandle h o.fh) w.requests
  pub held : (unique : ℕ) (x : HeldRequest) → get w.server.held unique ≡ Some x → (o : Opened)
      → Contains (opens_of_body x.body) o → IsFileHandle h o.fh
  pub kept : (unique : ℕ) (k : Kept) → get w.server.kept unique ≡ Some k → request_under w.kernel.queues unique ≢ None
      → (fh : ℕ) → Contains (opens_in_reply k.wire) fh → IsFileHandle h fh
  pub copies : All (λ (s : Sent). request_under w.kernel.queues s.unique ≢ None → (fh : ℕ)
      → Contains (opens_in_reply s.wire) fh → IsFileHandle h fh) w.replies

-- What awaits a reply under a number: a request that was read, or with an odd number the request whose INTERRUPT it is.
abbrev pub awaiting : Kernel → ℕ → Option Purpose
awaiting k unique = cond (nat_eq (unique % 2) 1) (waiting k.queues (unique - 1)) (waiting k.queues unique)
