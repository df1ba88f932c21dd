-- The plain world: a tree, the system calls' side and what was asked, over the files themselves. It has no node id,
-- generation, count, unique, queue, message or table.
use Rattle.std.specs.Prelude.{ℕ, Bool, true, false, [], ◌∷◌, Option, Some, None}
use Rattle.fuse_spec.specs.declared.Validity.{Validity}
use Rattle.fuse_spec.specs.Values.Maps.{Map, put, remove, remove_name}
use Rattle.fuse_spec.specs.Values.Numbers.{eintr}
use Rattle.fuse_spec.specs.Calls.Paths.{Name}
use Rattle.fuse_spec.specs.Files.Operations.{Reply}
use Rattle.fuse_spec.specs.Files.Trees.{Tree, a_directory}
use Rattle.fuse_spec.specs.Files.FileOperations.{FileOperation, reply_by, tree_after}
use Rattle.fuse_spec.specs.Calls.Calls.{Call, for_minor, lists_files_at}
use Rattle.fuse_spec.specs.declared.Minor.{Minor}
use Rattle.fuse_spec.specs.declared.Minor.TheVariants.{M31}
use Rattle.fuse_spec.specs.Calls.Answers.{failed}
use Rattle.fuse_spec.specs.Calls.Vfs.{CallState, Vfs, Advance, answered, begun, abandoned, later}
use Rattle.fuse_spec.specs.Calls.CallReplies.{call_replied}

-- Where an ask stands: not performed yet, performed with this reply, or declined.
pub data Stage : Type 0 where
  waiting : Stage
  performed : (reply : Reply ℕ ℕ) → Stage
  declined : Stage

-- One operation on files, put by one call. `noted`: a signal to the call was accepted. `marked`: an interrupt reached
-- it.
pub record Ask : Type 0 where
  pub call : ℕ
  pub operation : FileOperation
  pub stage : Stage
  pub noted : Bool
  pub marked : Bool

-- The plain world: its tree, the system calls' side, the asks under labels by which later events of a run mean them,
-- the validities and the minor of the mount, and whether it is aborted.
pub record Plain : Type 0 where
  pub tree : Tree
  pub vfs : Vfs ℕ
  pub asks : Map Ask
  pub validity : Validity
  pub minor : Minor
  pub aborted : Bool

-- The call's ask is put under this label, where it asks an operation.
abbrev pub ask_put : Plain → (label call : ℕ) → Option FileOperation → Plain
ask_put p label call None = p
ask_put p label call (Some operation) = record p {
  asks =
      put p.asks label (record { call = call; operation = operation; stage = waiting; noted = false; marked = false });
}

-- The system calls' side as a step of the call left it.
abbrev pub going_on : Plain → (label call : ℕ) → Advance ℕ → Plain
going_on p label call went = ask_put (record p { vfs = went.vfs }) label call went.operation

-- A call begins. What it asks has this label.
abbrev pub plain_call_begun : Plain → (label : ℕ) → Call → Plain
plain_call_begun p label call = going_on p label p.vfs.next_call (begun p.aborted p.vfs call)

-- A call begins as it may be put at the mount's minor. (linux/fuse.h, FUSE_READDIRPLUS)
abbrev pub plain_call_put : Plain → (label : ℕ) → Call → Plain
plain_call_put p label call = plain_call_begun p label (for_minor (lists_files_at p.minor) call)

-- An ask is performed: the tree changes as the operation says.
abbrev pub ask_performed : Plain → (label : ℕ) → Ask → Plain
ask_performed p label ask =
    record p {
      tree = tree_after p.tree ask.operation;
      asks = put p.asks label (record ask { stage = performed (reply_by p.validity p.tree ask.operation) });
    }

-- An ask is declined: nothing changes. (fuse.rst)
abbrev pub ask_declined : Plain → (label : ℕ) → Ask → Plain
ask_declined p label ask = record p { asks = put p.asks label (record ask { stage = declined }) }

-- A performed ask goes, and its reply reaches its call, which stands here. What the call asks next has the label
-- `next`.
abbrev pub ask_delivered : Plain → (label next : ℕ) → Ask → Reply ℕ ℕ → CallState ℕ → Plain
ask_delivered p label next ask reply state = going_on (record p { asks = remove p.asks label }) next ask.call
    (call_replied p.vfs ask.call state reply)

-- An ask goes, and its call is answered EINTR. (fuse.rst)
abbrev pub ask_interrupted : Plain → (label : ℕ) → Ask → Plain
ask_interrupted p label ask = record p { asks = remove p.asks label; vfs = answered p.vfs ask.call (failed eintr) }

-- A signal to its call is noted on an ask.
abbrev pub ask_noted : Plain → (label : ℕ) → Ask → Plain
ask_noted p label ask = record p { asks = put p.asks label (record ask { noted = true }) }

-- An interrupt marks an ask.
abbrev pub ask_marked : Plain → (label : ℕ) → Ask → Plain
ask_marked p label ask = record p { asks = put p.asks label (record ask { marked = true }) }

-- The clock goes on.
abbrev pub plain_later : Plain → ℕ → Plain
plain_later p ms = record p { vfs = later p.vfs ms }

-- A cached name is dropped.
abbrev pub name_dropped : Plain → (directory : ℕ) → Name → Plain
name_dropped p directory name = record p { vfs = record p.vfs { names = remove_name p.vfs.names (directory, name) } }

-- Abort: every unanswered call is answered ECONNABORTED. The asks stay. (fuse.rst)
abbrev pub plain_aborted : Plain → Plain
plain_aborted p = record p { vfs = abandoned p.vfs; aborted = true }

-- A mount: the asks go, no name and no open file is left, and the validities are set.
abbrev pub plain_mounted : Plain → Validity → Minor → Plain
plain_mounted p validity minor = record p {
  vfs = abandoned p.vfs;
  asks = [];
  validity = validity;
  minor = minor;
  aborted = false;
}

-- The plain world before the first mount: its tree is the root alone.
abbrev pub first_plain : Plain
first_plain =
    record {
      tree = record { files = (0, a_directory) ∷ []; names = []; next_inode = 1; next_cookie = 1 };
      vfs = record { calls = []; names = []; opens = []; answers = []; next_call = 1; clock = 0; root = 0 };
      asks = [];
      validity = record { found_ms = 0; missing_ms = 0 };
      minor = M31;
      aborted = false;
    }
