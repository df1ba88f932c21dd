-- How the kernel takes a reply.
use Rattle.std.specs.Prelude.{ℕ, ◌+◌, ◌-◌, ◌%◌, Bool, true, false, not, ◌&&◌, ◌||◌, cond, List, [], ◌∷◌, ◌++◌, Option, Some, None, length, nat_eq, nat_lt, nat_le, sum_by}
use Rattle.std.specs.Int.RustNames.{bit_and}
use Rattle.fuse_spec.specs.Values.Maps.{Map, get, put}
use Rattle.fuse_spec.specs.Values.Numbers.{eio, eagain, enosys, do_readdirplus}
use Rattle.fuse_spec.specs.Files.Operations.{Operation, lookup, getattr, mkdir, create, unlink, rmdir, rename, link, opening, readdir, readdirplus, read, write, DirentPlus, listed_by, files_listed, Reply, found, missing, created, opened, attributes, listed, listed_plus, content, written, agreed, done, failed, reply_with, files_in_reply}
use Rattle.fuse_spec.specs.Calls.Answers as answer
use Rattle.fuse_spec.specs.Files.Trees.{record_length, pair_length}
use Rattle.fuse_spec.specs.Calls.Vfs.{CallState, asked, answered}
use Rattle.fuse_spec.specs.Calls.CallReplies.{call_replied}
use Rattle.fuse_spec.specs.declared.Opened.{Opened}
use Rattle.fuse_spec.specs.declared.Entry.{Entry}
use Rattle.fuse_spec.specs.declared.Counted.{Counted}
use Rattle.fuse_spec.specs.declared.Minor.{Minor}
use Rattle.fuse_spec.specs.declared.Minor.TheVariants.{M15, M31}
use Rattle.fuse_spec.specs.declared.Phase.TheVariants.{Ready}
use Rattle.fuse_spec.specs.declared.Purpose.{Purpose}
use Rattle.fuse_spec.specs.declared.Purpose.TheVariants as purpose
use Rattle.fuse_spec.specs.declared.InterruptReply.{InterruptReply}
use Rattle.fuse_spec.specs.declared.InterruptReply.TheVariants.{Again, NotSupported, Other}
use Rattle.fuse_spec.specs.declared.WriteResult.{WriteResult}
use Rattle.fuse_spec.specs.declared.WriteResult.TheVariants.{Accepted, NoEntry, Invalid}
use Rattle.fuse_spec.specs.Kernel.Messages.{Forget, WireReply}
use Rattle.fuse_spec.specs.Kernel.Queues.{QueueState}
use Rattle.fuse_spec.specs.Kernel.QueueCalls.{waiting, without, after_interrupt_reply, after_forget}
use Rattle.fuse_spec.specs.Kernel.Kernel.{Kernel, advanced, after_use, kernel_aborted}

-- Whether this is a body of a reply to the operation: of its kind, with no more data than was asked, and no more
-- written than was sent; an error goes with any. (linux/fuse.h, enum fuse_opcode)
abbrev pub goes_with : Operation ℕ Opened → WireReply → Bool
goes_with operation (failed errno) = true
goes_with (lookup d name) (found g valid) = true
goes_with (lookup d name) (missing valid) = true
goes_with (mkdir d name) (found g valid) = true
goes_with (mkdir d name) (missing valid) = true
goes_with (link x d name) (found g valid) = true
goes_with (link x d name) (missing valid) = true
goes_with (create d name) (created g valid fh) = true
goes_with (getattr x) (attributes a) = true
goes_with (unlink d name) done = true
goes_with (rmdir d name) done = true
goes_with (rename d old e new) done = true
goes_with (opening x) (opened fh) = true
goes_with (readdir d after size) (listed records) = nat_le (sum_by record_length records) size
goes_with (readdirplus d after size) (listed_plus pairs) = nat_le (sum_by pair_length pairs) size
goes_with (read o offset size) (content bytes) = nat_le (length bytes) size
goes_with (write o offset bytes) (written size) = nat_le size (length bytes)
goes_with operation wire = false

-- Whether the reply has no body. (linux/fuse.h, struct fuse_out_header)
abbrev pub is_empty_reply : WireReply → Bool
is_empty_reply done = true
is_empty_reply (failed errno) = true
is_empty_reply wire = false

-- Whether the reply to INIT agrees on major 7, and on minor 15 or one from 31 up. (this project's rule)
abbrev pub is_agreement : WireReply → Bool
is_agreement (agreed major minor flags) = nat_eq major 7 && (nat_eq minor 15 || nat_le 31 minor)
is_agreement wire = false

-- The minor that the reply to INIT agrees on, and whether READDIRPLUS may be asked, which minor 15 doesn't know.
-- (linux/fuse.h, struct fuse_init_out)
abbrev pub minor_agreed : WireReply → Minor
minor_agreed (agreed major minor flags) = cond (nat_eq minor 15) M15 M31
minor_agreed wire = M31

abbrev pub files_agreed : WireReply → Bool
files_agreed (agreed major minor flags) = not (nat_eq (bit_and flags do_readdirplus) 0) && not (nat_eq minor 15)
files_agreed wire = false

-- The kernel is ready once INIT is agreed on.
abbrev pub made_ready : Kernel → WireReply → Kernel
made_ready k wire = record k { phase = Ready; minor = minor_agreed wire; lists_files = files_agreed wire }

-- Whether this is a reply to INIT, well-formed or an error. (linux/fuse.h, struct fuse_init_out)
abbrev pub is_init_reply : WireReply → Bool
is_init_reply (agreed major minor flags) = true
is_init_reply (failed errno) = true
is_init_reply wire = false

-- Whether the entries of a reply can be used: they can, or one is unusable, or one names a counted node under another
-- generation.
pub data Use : Type 0 where
  usable unusable : Use
  stale : (node : ℕ) → Use

-- Whether an entry can be used, where its node is counted so: not under another generation.
abbrev pub use_counted : Entry → Option Counted → Use
use_counted g None = usable
use_counted g (Some counted) = cond (nat_eq counted.generation g.generation) usable (stale g.nodeid)

-- Whether an entry can be used: not if it names the root or no node, nor if its node is counted under another
-- generation. (this project's rule)
abbrev pub use_of : Map Counted → Entry → Use
use_of nodes g = cond (nat_lt g.nodeid 2) unusable (use_counted g (get nodes g.nodeid))

-- The next two judge the entries of a reply in order: the first that can't be used decides.
abbrev pub first_use : Use → Use → Use
first_use usable rest = rest
first_use unusable rest = unusable
first_use (stale node) rest = stale node

abbrev pub use_of_all : Map Counted → List Entry → Use
use_of_all nodes [] = usable
use_of_all nodes (g ∷ gs) = first_use (use_of nodes g) (use_of_all nodes gs)

-- One lookup more of a node, or the first of a node that isn't counted yet. (libfuse, low-level: lookup)
abbrev pub counted_more : Entry → Option Counted → Counted
counted_more g None = record { generation = g.generation; count = 1 }
counted_more g (Some counted) = record counted { count = counted.count + 1 }

-- The kernel's counts once each of these entries is counted, one lookup each. (libfuse, low-level: lookup)
abbrev pub looked_up : Map Counted → List Entry → Map Counted
looked_up nodes [] = nodes
looked_up nodes (g ∷ gs) = looked_up (put nodes g.nodeid (counted_more g (get nodes g.nodeid))) gs

-- The node that is opened: the operation's own, or that of the entry. (linux/fuse.h, FUSE_CREATE)
abbrev pub node_opened : Operation ℕ Opened → List Entry → ℕ
node_opened (opening node) entries = node
node_opened operation [] = 0
node_opened operation (g ∷ gs) = g.nodeid

-- What the reply says, with the files named as the kernel names them: by nodeid, and an open file by its node and its
-- number. (linux/fuse.h, struct fuse_entry_out)
abbrev pub kernel_reply : Operation ℕ Opened → WireReply → Reply ℕ Opened
kernel_reply operation wire = reply_with (λ (g : Entry). g.nodeid)
    (λ fh. record { nodeid = node_opened operation (files_in_reply wire); fh = fh }) wire

-- A reply whose entries are judged reaches the call: one that can't be used is EIO and counts nothing, and where the
-- generation is another, one lookup is forgotten at once. (this project's rule)
abbrev pub judged : Kernel → ℕ → CallState Opened → WireReply → Use → Kernel
judged k call state wire usable =
    advanced (record k { nodes = looked_up k.nodes (files_in_reply wire) }) call
    (call_replied k.vfs call state (kernel_reply (asked state) wire))
judged k call state wire unusable = record k { vfs = answered k.vfs call (answer.failed eio) }
judged k call state wire (stale node) = record k {
  vfs = answered k.vfs call (answer.failed eio);
  queues = after_forget k.queues node 1;
}

-- ---- names in a list, with their files

-- Whether the entry of a name in a list can be used; one without a file need not be.
abbrev pub use_of_listed : Map Counted → Option Entry → Use
use_of_listed nodes None = usable
use_of_listed nodes (Some g) = use_of nodes g

-- A name in a list as the kernel takes it: where its entry can't be used, it is listed without a file.
-- (this project's rule)
abbrev pub pair_judged : DirentPlus Entry → Use → DirentPlus Entry
pair_judged pair usable = pair
pair_judged pair unusable = record pair { file = None }
pair_judged pair (stale node) = record pair { file = None }

-- The kernel's counts after such a name. (linux/fuse.h, struct fuse_direntplus)
abbrev pub looked_up_by : Map Counted → DirentPlus Entry → Map Counted
looked_up_by nodes pair = looked_up nodes (files_listed (pair_judged pair (use_of_listed nodes (listed_by pair)) ∷ []))

-- The names of a list, each judged by the counts that those before it left. (this project's rule)
abbrev pub pairs_judged : Map Counted → List (DirentPlus Entry) → List (DirentPlus Entry)
pairs_judged nodes [] = []
pairs_judged nodes (pair ∷ pairs) = pair_judged pair (use_of_listed nodes (listed_by pair)) ∷ pairs_judged
    (looked_up_by nodes pair) pairs

-- The next two are the nodes that are listed under another generation than they are counted.
abbrev pub stale_in : Use → List ℕ
stale_in usable = []
stale_in unusable = []
stale_in (stale node) = node ∷ []

abbrev pub stale_among : Map Counted → List (DirentPlus Entry) → List ℕ
stale_among nodes [] = []
stale_among nodes (pair ∷ pairs) = stale_in (use_of_listed nodes (listed_by pair))
    ++ stale_among (looked_up_by nodes pair) pairs

-- The next two forget one lookup of each of these nodes, in turn. (libfuse, low-level: forget)
abbrev pub forgets_with : List Forget → List ℕ → List Forget
forgets_with forgets [] = forgets
forgets_with forgets (node ∷ nodes) = forgets_with (forgets ++ (node, 1) ∷ []) nodes

abbrev pub each_forgotten : QueueState Purpose → List ℕ → QueueState Purpose
each_forgotten q nodes = record q { forgets = forgets_with q.forgets nodes }

-- The next three are a reply as the kernel takes it, whether its entries can be used, and the nodes to be forgotten
-- once. The names of a list are judged one by one, which never fails the call. (this project's rule)
abbrev pub reply_judged : Map Counted → WireReply → WireReply
reply_judged nodes (listed_plus pairs) = listed_plus (pairs_judged nodes pairs)
reply_judged nodes wire = wire

abbrev pub use_of_reply : Map Counted → WireReply → Use
use_of_reply nodes (listed_plus pairs) = usable
use_of_reply nodes wire = use_of_all nodes (files_in_reply wire)

abbrev pub stale_in_reply : Map Counted → WireReply → List ℕ
stale_in_reply nodes (listed_plus pairs) = stale_among nodes pairs
stale_in_reply nodes wire = []

-- The kernel once those are to be forgotten. (libfuse, low-level: forget)
abbrev pub without_stale : Kernel → WireReply → Kernel
without_stale k wire = record k { queues = each_forgotten k.queues (stale_in_reply k.nodes wire) }

-- A reply that goes with what the call asked reaches the call.
abbrev pub reply_received : Kernel → ℕ → CallState Opened → WireReply → Kernel
reply_received k call state wire = judged (without_stale k wire) call state (reply_judged k.nodes wire)
    (use_of_reply k.nodes wire)

-- The reply to the call's request: its body goes with the request and is accepted, or is a wrong body, which is EINVAL
-- to the writer and EIO to the call. (Linux VFS)
abbrev pub replied : Kernel → ℕ → CallState Opened → Bool → WireReply → WriteResult × Kernel
replied k call state true wire = (Accepted, after_use (reply_received k call state wire) state)
replied k call state false wire = (
  Invalid,
  after_use
      (record k { vfs = answered k.vfs call (answer.failed eio) }) state,
)

-- The reply to a call's request reaches the call, if that is still unanswered. (Linux VFS)
abbrev pub replied_to_call : Kernel → ℕ → WireReply → Option (CallState Opened) → WriteResult × Kernel
replied_to_call k call wire None = (Accepted, k)
replied_to_call k call wire (Some state) = replied k call state (goes_with (asked state) wire) wire

-- What the writer of a reply gets: that it is accepted, or EINVAL. (Linux VFS)
abbrev pub write_result_of : Bool → WriteResult
write_result_of true = Accepted
write_result_of false = Invalid

-- A reply to a request, which ends with it: INIT makes the kernel ready, or aborts the mount; a RELEASE just ends.
-- (this project's rule)
abbrev pub ended_by : Kernel → Purpose → WireReply → WriteResult × Kernel
ended_by k purpose.Init wire = (
  write_result_of (is_init_reply wire),
  cond (is_agreement wire) (made_ready k wire) (kernel_aborted k),
)
ended_by k (purpose.Release o) wire = (write_result_of (is_empty_reply wire), k)
ended_by k (purpose.Call call) wire = replied_to_call k call wire (get k.vfs.calls call)

-- A reply under the unique of a request that was read and is unanswered, or of none, which is ENOENT to the writer.
-- (Linux VFS)
abbrev pub request_reply_written : Kernel → ℕ → WireReply → Option Purpose → WriteResult × Kernel
request_reply_written k unique wire None = (NoEntry, k)
request_reply_written k unique wire (Some purpose) =
    ended_by (record k { queues = without k.queues unique }) purpose wire

-- What a reply to an INTERRUPT says by its error: EAGAIN, ENOSYS, or anything else. (fuse.rst)
abbrev pub interrupt_reply_of : ℕ → InterruptReply
interrupt_reply_of errno = cond (nat_eq errno enosys) NotSupported (cond (nat_eq errno eagain) Again Other)

-- A reply to the INTERRUPT of a request that waits: only one without a body is accepted. (fuse.rst)
abbrev pub interrupt_replied : Kernel → (original : ℕ) → WireReply → WriteResult × Kernel
interrupt_replied k original (failed errno) = (
  Accepted,
  record k { queues = after_interrupt_reply k.queues original (interrupt_reply_of errno) },
)
interrupt_replied k original done = (Accepted, k)
interrupt_replied k original wire = (Invalid, k)

-- A reply to an INTERRUPT counts while its original is read and unanswered; after that it is ENOENT to the writer.
-- (fuse.rst)
abbrev pub interrupt_reply_written : Kernel → ℕ → WireReply → Option Purpose → WriteResult × Kernel
interrupt_reply_written k unique wire None = (NoEntry, k)
interrupt_reply_written k unique wire (Some purpose) = interrupt_replied k (unique - 1) wire

-- The kernel takes what a reply says under this unique: an even one is looked for among the requests in processing, an
-- odd one is that of an INTERRUPT. (fuse.rst)
abbrev pub reply_written : Kernel → ℕ → WireReply → WriteResult × Kernel
reply_written k unique wire =
    cond (nat_eq (unique % 2) 1) (interrupt_reply_written k unique wire (waiting k.queues (unique - 1)))
    (request_reply_written k unique wire (waiting k.queues unique))
