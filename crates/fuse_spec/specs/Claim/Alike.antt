-- How the world of the kernel and the server is the plain world: the core of the refinement relation.
use Rattle.std.specs.Prelude.{◌≡◌, ◌≢◌, ℕ, Bool, true, false, ◌||◌, cond, not, List, Some, None, All, Contains, MatchOption}
use Rattle.fuse_spec.specs.declared.Opened.{Opened}
use Rattle.fuse_spec.specs.declared.Purpose.{Purpose}
use Rattle.fuse_spec.specs.declared.QueuedRequest.{QueuedRequest}
use Rattle.fuse_spec.specs.Values.Maps.{Map, get, get_name}
use Rattle.fuse_spec.specs.Values.Numbers.{eintr}
use Rattle.fuse_spec.specs.Calls.Calls.{lists_files_at}
use Rattle.fuse_spec.specs.declared.Phase.TheVariants.{Ready}
use Rattle.fuse_spec.specs.Files.Operations.{Operation, failed, OptionAlike, OperationAlike, ReplyAlike}
use Rattle.fuse_spec.specs.Files.Trees.{Tree, is_nameless}
use Rattle.fuse_spec.specs.Calls.Vfs.{CallState, Vfs, asked}
use Rattle.fuse_spec.specs.Kernel.Queues.{pending, request_under, is_signalled}
use Rattle.fuse_spec.specs.Kernel.Messages.{RequestBody, init, asks, release, forget, batch_forget, interrupt, Request, WireReply}
use Rattle.fuse_spec.specs.Kernel.Kernel.{is_live, is_aborted, body_of, request_of}
use Rattle.fuse_spec.specs.Server.Nodes.{NodeTable, HandleTable, is_open}
use Rattle.fuse_spec.specs.Server.Server.{Server, HeldRequest, Kept, is_file_held}
use Rattle.fuse_spec.specs.World.Worlds.{World, Sent}
use Rattle.fuse_spec.specs.Reference.Plain.{Plain, Ask, Stage, waiting, performed, declined}
use Rattle.fuse_spec.specs.Claim.Denotes.{Denotes, NodeDenotesIn, OpenDenotesIn, Names, Opens, StateAlike, DentryAlike}

-- The server's tree is the plain tree, less the nameless files that no node and no file handle holds.
pub record TreeAlike (s : Server) (tree : Tree) : Type 0 where
  pub names : s.tree.names ≡ tree.names
  pub next_inode : s.tree.next_inode ≡ tree.next_inode
  pub next_cookie : s.tree.next_cookie ≡ tree.next_cookie
  pub files : (file : ℕ) → get s.tree.files file ≡ cond (not (is_nameless tree file) || is_file_held s file)
      (get tree.files file) None

-- With each file named as R says, and each open file as S says, the cached names, the open files, the unanswered
-- calls and the answers that aren't collected are the same.
pub record VfsAlike {O P : Type 0} (R : ℕ → ℕ → Type 0) (S : O → P → Type 0) (c : Vfs O) (d : Vfs P) : Type 0 where
  pub names : (id file : ℕ) (name : List ℕ) → R id file
      → OptionAlike (DentryAlike R) (get_name c.names (id, name)) (get_name d.names (file, name))
  pub names_meant : (id : ℕ) (name : List ℕ) → get_name c.names (id, name) ≢ None → (file : ℕ) × R id file
  pub names_reached : (file : ℕ) (name : List ℕ) → get_name d.names (file, name) ≢ None → (id : ℕ) × R id file
  pub opens : (open_call : ℕ) → OptionAlike S (get c.opens open_call) (get d.opens open_call)
  pub calls : (call : ℕ) → OptionAlike (StateAlike R S) (get c.calls call) (get d.calls call)
  pub answers : c.answers ≡ d.answers
  pub next_call : c.next_call ≡ d.next_call
  pub clock : c.clock ≡ d.clock
  pub roots : R c.root d.root

-- An ask that isn't performed yet, that is marked as its request is, and on which a signal is noted where its request
-- was signalled or is marked.
pub record IsWaiting (ask : Ask) (signalled marked : Bool) : Type 0 where
  pub stage : ask.stage ≡ waiting
  pub noted : signalled || marked ≡ true → ask.noted ≡ true
  pub marked_too : ask.marked ≡ marked

-- The ask of a request that the server hasn't performed: it stands under the request's unique, waits, and asks the
-- same.
pub record AskedBy (asks : Map Ask) (unique : ℕ) (signalled marked : Bool)
    (SameDeed : Operation ℕ ℕ → Type 0) : Type 0 where
  pub ask : Ask
  pub there : get asks unique ≡ Some ask
  pub is_waiting : IsWaiting ask signalled marked
  pub same : SameDeed ask.operation

-- Only the request of a call has an ask, under its unique, of the same operation on the files that R and S say its
-- nodes and open files denote.
abbrev pub RequestBodyAsked : Map Ask → (unique : ℕ) → (signalled marked : Bool) → (ℕ → ℕ → Type 0)
    → (Opened → ℕ → Type 0) → RequestBody → Type 0
RequestBodyAsked all unique signalled marked R S (asks operation) =
    AskedBy all unique signalled marked (OperationAlike R S operation)
RequestBodyAsked all unique signalled marked R S (init flags) = get all unique ≡ None
RequestBodyAsked all unique signalled marked R S (release o) = get all unique ≡ None
RequestBodyAsked all unique signalled marked R S (forget f) = get all unique ≡ None
RequestBodyAsked all unique signalled marked R S (batch_forget fs) = get all unique ≡ None
RequestBodyAsked all unique signalled marked R S (interrupt original) = get all unique ≡ None

-- A pending request, under its unique. That of a call is one of an unanswered call.
abbrev pub PurposeAsked : World → Plain → ℕ × QueuedRequest Purpose → Type 0
PurposeAsked w p e = MatchOption (body_of w.kernel e.1.kept) ⊥
    (RequestBodyAsked p.asks e.0 (is_signalled e.1.mark) false (NodeDenotesIn w) (OpenDenotesIn w))

-- The reply says what its ask came to: the plain reply, or EINTR where the ask was declined; an ask that waits has no
-- reply.
abbrev pub IsStageReplied : NodeTable → HandleTable → Stage → WireReply → Type 0
IsStageReplied t h waiting wire = ⊥
IsStageReplied t h (performed reply) wire = ReplyAlike (Names t) (Opens h) wire reply
IsStageReplied t h declined wire = wire ≡ failed eintr

-- The node was held under a generation when the request was taken, and under that generation denotes this file still.
pub record StillDenotes (t : NodeTable) (generations : List (ℕ × ℕ)) (id file : ℕ) : Type 0 where
  pub generation : ℕ
  pub then_held : Contains generations (id, generation)
  pub denotes : Denotes t id generation file

-- So of an open file: its node denotes this file still, and its `fh` is a file handle of it.
pub record OpenStillDenotes (t : NodeTable) (h : HandleTable) (generations : List (ℕ × ℕ)) (o : Opened)
    (file : ℕ) : Type 0 where
  pub node_meant : StillDenotes t generations o.nodeid file
  pub is_handle : is_open h o.fh file ≡ true

-- In any mount, also after an abort: each request that is pending, on its link or held by the server has its ask, which
-- waits.
pub record RequestsAlike (w : World) (p : Plain) : Type 0 where
  pub pending : All (PurposeAsked w p) (pending w.kernel.queues)
  pub sent : All (λ (r : Request). RequestBodyAsked p.asks r.unique false false (NodeDenotesIn w)
      (OpenDenotesIn w) r.body) w.requests
  pub held : (unique : ℕ) (t : HeldRequest) → get w.server.held unique ≡ Some t
      → RequestBodyAsked p.asks unique false t.marked (StillDenotes w.server.nodes t.generations)
      (OpenStillDenotes w.server.nodes w.server.handles t.generations) t.body

-- The ask of an unanswered call's current request: the same operation on the same files.
pub record IsPaired (w : World) (p : Plain) (call : ℕ) (state : CallState Opened) : Type 0 where
  pub unique : ℕ
  pub ask : Ask
  pub request : request_of w.kernel call ≡ Some unique
  pub there : get p.asks unique ≡ Some ask
  pub by : ask.call ≡ call
  pub same : OperationAlike (NodeDenotesIn w) (OpenDenotesIn w) (asked state) ask.operation

-- In a live mount: each unanswered call has its ask, there is no other ask, and each copy and kept reply says what its
-- ask came to.
pub record AsksAlike (w : World) (p : Plain) : Type 0 where
  pub of_calls : (call : ℕ) (state : CallState Opened) → get w.kernel.vfs.calls call ≡ Some state
      → IsPaired w p call state
  pub no_other : (unique : ℕ) (ask : Ask) → get p.asks unique ≡ Some ask → request_of w.kernel ask.call ≡ Some unique
  pub signalled : (unique : ℕ) (request : QueuedRequest Purpose) (ask : Ask)
      → request_under w.kernel.queues unique ≡ Some request → get p.asks unique ≡ Some ask
      → is_signalled request.mark ≡ true → ask.noted ≡ true
  pub kept : (unique : ℕ) (kept : Kept) (ask : Ask) → get w.server.kept unique ≡ Some kept
      → get p.asks unique ≡ Some ask → IsStageReplied w.server.nodes w.server.handles ask.stage kept.wire
  pub copies : All (λ (sent : Sent). (ask : Ask) → get p.asks sent.unique ≡ Some ask
      → IsStageReplied w.server.nodes w.server.handles ask.stage sent.wire) w.replies

-- The world and the plain world are alike: with each node replaced by the file that it denotes, tree, calls, names in
-- force, open files, asks, validities and the minor are the same.
pub record Alike (w : World) (p : Plain) : Type 0 where
  pub tree : TreeAlike w.server p.tree
  pub vfs : VfsAlike (NodeDenotesIn w) (OpenDenotesIn w) w.kernel.vfs p.vfs
  pub requests : RequestsAlike w p
  pub asks : is_live w.kernel.phase ≡ true → AsksAlike w p
  pub validity : w.server.validity ≡ p.validity
  pub minor : w.server.minor ≡ p.minor
  pub agreed : w.kernel.phase ≡ Ready → (w.kernel.minor ≡ p.minor) × (w.kernel.lists_files ≡ lists_files_at p.minor)
  pub aborted : is_aborted w.kernel.phase ≡ p.aborted
