-- The kernel: its state, and how calls, mounts and signals move it.
use Rattle.std.specs.Prelude.{ℕ, Bool, true, false, ◌||◌, cond, List, [], ◌∷◌, Option, Some, None, nat_eq, find, option_map, ◌&&◌, nat_lt}
use Rattle.std.specs.List.{list_any}
use Rattle.fuse_spec.specs.declared.Phase.{Phase}
use Rattle.fuse_spec.specs.declared.Phase.TheVariants.{Down, Starting, Ready, Aborted}
use Rattle.fuse_spec.specs.declared.Counted.{Counted}
use Rattle.fuse_spec.specs.declared.Dentry.{Dentry}
use Rattle.fuse_spec.specs.declared.Opened.{Opened}
use Rattle.fuse_spec.specs.declared.Purpose.{Purpose}
use Rattle.fuse_spec.specs.declared.Purpose.TheVariants as purpose
use Rattle.fuse_spec.specs.declared.IntrEffect.{IntrEffect}
use Rattle.fuse_spec.specs.declared.IntrEffect.TheVariants.{Dequeued, Flagged, Queued, None as NoEffect}
use Rattle.fuse_spec.specs.Values.Maps.{Map, get, put, remove, values}
use Rattle.fuse_spec.specs.Values.Numbers.{eintr, init_flags}
use Rattle.fuse_spec.specs.Files.Operations.{Operation, files_in, opened_nodes}
use Rattle.fuse_spec.specs.Calls.Walks.{files_of_plan}
use Rattle.fuse_spec.specs.declared.Minor.{Minor}
use Rattle.fuse_spec.specs.declared.Minor.TheVariants.{M15, M31}
use Rattle.fuse_spec.specs.Calls.Calls.{Call, for_minor}
use Rattle.fuse_spec.specs.Calls.Calls as call
use Rattle.fuse_spec.specs.Calls.Answers.{failed}
use Rattle.fuse_spec.specs.Calls.Vfs.{CallState, walking, doing, using, asked, Vfs, Advance, answered, begun, abandoned}
use Rattle.fuse_spec.specs.Kernel.Messages.{Forget, RequestBody, init, asks, release}
use Rattle.fuse_spec.specs.Kernel.Queues.{QueueState, empty_queues}
use Rattle.fuse_spec.specs.Kernel.QueueCalls.{first_forgets, after_enqueue, after_forget, interrupt_effect, after_interrupt}

-- The kernel: its mount's phase, the system calls' side, the queues, the nodes with their counts, and in `closing` the
-- files that are closed while a read or write of them is unanswered.
pub record Kernel : Type 0 where
  pub phase : Phase
  pub vfs : Vfs Opened
  pub queues : QueueState Purpose
  pub nodes : Map Counted
  pub closing : Map Opened
  -- what the reply to INIT agreed on, the minor and whether READDIRPLUS may be asked; until then, what 7.15 has
  pub minor : Minor
  pub lists_files : Bool

-- Whether forgets go one by one at this minor. (linux/fuse.h, FUSE_BATCH_FORGET)
abbrev pub forgets_singly : Minor → Bool
forgets_singly M15 = true
forgets_singly M31 = false

-- Whether a mount is there and not aborted. (fuse.rst)
abbrev pub is_live : Phase → Bool
is_live Down = false
is_live Starting = true
is_live Ready = true
is_live Aborted = false

-- Whether the mount is aborted. (fuse.rst)
abbrev pub is_aborted : Phase → Bool
is_aborted Down = false
is_aborted Starting = false
is_aborted Ready = false
is_aborted Aborted = true

-- ---- requests

-- What the request of a call asks: the operation for which the call waits. (Linux VFS)
abbrev pub asked_by : Option (CallState Opened) → Option RequestBody
asked_by None = None
asked_by (Some state) = Some (asks (asked state))

-- What a request asks of the server, by what the kernel keeps of it: INIT, RELEASE, or the operation of an unanswered
-- call. (linux/fuse.h, enum fuse_opcode)
abbrev pub body_of : Kernel → Purpose → Option RequestBody
body_of k purpose.Init = Some (init init_flags)
body_of k (purpose.Release opened) = Some (release opened)
body_of k (purpose.Call call) = asked_by (get k.vfs.calls call)

-- Whether a request serves this call.
abbrev pub is_for : ℕ → Purpose → Bool
is_for call purpose.Init = false
is_for call (purpose.Release opened) = false
is_for call (purpose.Call other) = nat_eq other call

-- The unique of the call's current request, read or not.
abbrev pub request_of : Kernel → ℕ → Option ℕ
request_of k call = option_map (λ e. e.0) (find (λ e. is_for call e.1.kept) k.queues.requests)

-- A request for the call is queued, where it asks an operation. (fuse.rst)
abbrev pub asking_for : Kernel → ℕ → Option (Operation ℕ Opened) → Kernel
asking_for k call None = k
asking_for k call (Some operation) = record k { queues = after_enqueue k.queues (purpose.Call call) }

-- The kernel after a step of a call: what the call asks next is queued. (fuse.rst)
abbrev pub advanced : Kernel → ℕ → Advance Opened → Kernel
advanced k call next = asking_for (record k { vfs = next.vfs }) call next.operation

-- ---- open files

-- Whether a call waits for a read or write of the open file of this number. (libfuse, low-level: release)
abbrev pub is_using : ℕ → CallState Opened → Bool
is_using open_call (walking directory word words plan) = false
is_using open_call (doing operation) = false
is_using open_call (using other operation) = nat_eq other open_call

-- Whether a read or write of the open file is unanswered. (libfuse, low-level: release)
abbrev pub is_used : Kernel → ℕ → Bool
is_used k open_call = list_any (is_using open_call) (values k.vfs.calls)

-- A closed file is released once no read or write of it is unanswered: its RELEASE is queued. (libfuse, low-level:
-- release)
abbrev pub released : Kernel → ℕ → Option Opened → Kernel
released k open_call None = k
released k open_call (Some opened) =
    record k {
      closing = cond (is_used k open_call) k.closing (remove k.closing open_call);
      queues = cond (is_used k open_call) k.queues (after_enqueue k.queues (purpose.Release opened));
    }

-- The closed file of this number, if there is one, is released so. (libfuse, low-level: release)
abbrev pub released_if_idle : Kernel → ℕ → Kernel
released_if_idle k open_call = released k open_call (get k.closing open_call)

-- After the call that stood here is answered, the file that it read or wrote may be released. (libfuse, low-level:
-- release)
abbrev pub after_use : Kernel → CallState Opened → Kernel
after_use k (walking directory word words plan) = k
after_use k (doing operation) = k
after_use k (using open_call operation) = released_if_idle k open_call

-- An open file is closed: it is released at once, or after its last read or write. (libfuse, low-level: release)
abbrev pub closed : Kernel → ℕ → Option Opened → Kernel
closed k open_call None = k
closed k open_call (Some opened) = released_if_idle (record k { closing = put k.closing open_call opened }) open_call

-- Which open file a call closes, if it closes one. (POSIX, close)
abbrev pub closed_by : Map Opened → Call → Option (ℕ × Opened)
closed_by opens (call.close open_call) = option_map (λ opened. (open_call, opened)) (get opens open_call)
closed_by opens other = None

-- The kernel once that file is closed, or as it was where the call closes none. (libfuse, low-level: release)
abbrev pub closing_of : Kernel → Option (ℕ × Opened) → Kernel
closing_of k None = k
closing_of k (Some file) = closed k file.0 (Some file.1)

-- ---- calls, mounts and aborts

-- A call begins, and the open file that it closes is released. (Linux VFS)
abbrev pub call_begun : Kernel → Call → Kernel
call_begun k call =
    closing_of (advanced k k.vfs.next_call (begun (is_aborted k.phase) k.vfs call))
    (cond (is_aborted k.phase) None (closed_by k.vfs.opens call))

-- A call begins as the kernel may put it: before READDIRPLUS, its names are listed alone. (linux/fuse.h,
-- FUSE_READDIRPLUS)
abbrev pub call_put : Kernel → Call → Kernel
call_put k call = call_begun k (for_minor k.lists_files call)

-- The forgets that are read as one request; 7.15 knows no BATCH_FORGET. (linux/fuse.h, FUSE_BATCH_FORGET)
abbrev pub forgets_read : Kernel → ℕ → Option (ℕ × List Forget)
forgets_read k n = cond (forgets_singly k.minor && nat_lt 1 n) None (first_forgets k.queues n)

-- Everything is abandoned: calls, names, nodes, open files and the four lists. (this project's rule)
abbrev pub all_abandoned : Kernel → Phase → Kernel
all_abandoned k phase = record {
  phase = phase;
  vfs = abandoned k.vfs;
  queues = empty_queues;
  nodes = [];
  closing = [];
  minor = k.minor;
  lists_files = k.lists_files;
}

-- An abort: every unanswered call is answered an error, and the connection is gone. (fuse.rst)
abbrev pub kernel_aborted : Kernel → Kernel
kernel_aborted k = all_abandoned k Aborted

-- A mount abandons everything, without forgets, and queues INIT. (this project's rule)
abbrev pub kernel_mounted : Kernel → Kernel
kernel_mounted k = record {
  phase = Starting;
  vfs = abandoned k.vfs;
  queues = after_enqueue empty_queues purpose.Init;
  nodes = [];
  closing = [];
  minor = M15;
  lists_files = false;
}

-- ---- signals

-- The signalled call is answered EINTR if its request left the list unread. (fuse.rst)
abbrev pub after_signal : Kernel → ℕ → CallState Opened → IntrEffect → Kernel
after_signal k call state Dequeued = after_use (record k { vfs = answered k.vfs call (failed eintr) }) state
after_signal k call state Flagged = k
after_signal k call state Queued = k
after_signal k call state NoEffect = k

-- A signal to a call whose current request has this unique; without a request nothing happens. (fuse.rst)
abbrev pub signalled_at : Kernel → ℕ → CallState Opened → Bool → Option ℕ → IntrEffect × Kernel
signalled_at k call state fatal None = (NoEffect, k)
signalled_at k call state fatal (Some unique) = (
  interrupt_effect k.queues unique fatal,
  after_signal
      (record k { queues = after_interrupt k.queues unique fatal }) call state
      (interrupt_effect k.queues unique fatal),
)

-- A signal to an unanswered call, which stands here. (fuse.rst)
abbrev pub call_signalled : Kernel → ℕ → CallState Opened → Bool → IntrEffect × Kernel
call_signalled k call state fatal = signalled_at k call state fatal (request_of k call)

-- ---- nodes in use

-- The nodes that a call stands on or names.
abbrev pub nodes_of_state : CallState Opened → List ℕ
nodes_of_state (walking directory word words plan) = directory ∷ files_of_plan plan
nodes_of_state (doing operation) = files_in opened_nodes operation
nodes_of_state (using open_call operation) = files_in opened_nodes operation

-- Whether the request is a RELEASE of a file of this node. (linux/fuse.h, struct fuse_release_in)
abbrev pub is_released_by : ℕ → Purpose → Bool
is_released_by node purpose.Init = false
is_released_by node (purpose.Release opened) = nat_eq opened.nodeid node
is_released_by node (purpose.Call call) = false

-- Whether an unanswered call, an open file or an unanswered RELEASE names the node. (this project's rule)
abbrev pub is_pinned : Kernel → ℕ → Bool
is_pinned k node =
    list_any (λ state. list_any (nat_eq node) (nodes_of_state state)) (values k.vfs.calls)
    || (list_any (λ (opened : Opened). nat_eq opened.nodeid node) (values k.vfs.opens)
    || list_any (λ e. is_released_by node e.1.kept) k.queues.requests)

-- Whether a name leads to this node.
abbrev pub leads_to : ℕ → Option ℕ → Bool
leads_to node None = false
leads_to node (Some target) = nat_eq target node

-- Whether a cached name stands in the node or leads to it, valid or not. (this project's rule)
abbrev pub is_bound : Kernel → ℕ → Bool
is_bound k node = list_any (λ (e : (ℕ × List ℕ) × Dentry). nat_eq e.0.0 node || leads_to node e.1.target) k.vfs.names

-- The node is evicted, and its whole count is to be forgotten. (libfuse, low-level: forget)
abbrev pub evicted : Kernel → ℕ → Counted → Kernel
evicted k node counted = record k { nodes = remove k.nodes node; queues = after_forget k.queues node counted.count }
