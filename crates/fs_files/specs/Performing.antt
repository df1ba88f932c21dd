-- What performing a held request results in, before nodes and file handles are given.
use Rattle.std.specs.Prelude.{◌≡◌, ◌≤◌, ℕ, Option, None, cond, option_map}
use Rattle.std.specs.Int.RustNames.{bit_and}
use Rattle.fuse_spec.specs.declared.Validity.{Validity}
use Rattle.fuse_spec.specs.Values.Maps.{get}
use Rattle.fuse_spec.specs.Values.Numbers.{eintr, eio, ebadf}
use Rattle.fuse_spec.specs.Files.Operations.{Reply, agreed, done, failed, files_in_reply, opens_in_reply}
use Rattle.fuse_spec.specs.Files.Trees.{Tree}
use Rattle.fuse_spec.specs.Files.FileOperations.{FileOperation, reply_by, reply_unrefused, tree_after, tree_unrefused}
use Rattle.fuse_spec.specs.Kernel.Messages.{RequestBody, init, asks, release, forget, batch_forget, interrupt}
use Rattle.fuse_spec.specs.Server.Nodes.{HandleTable, FileHandle, file_of, is_open, handle_back, all_given, all_opened}
use Rattle.fuse_spec.specs.Server.Server.{Server, HeldRequest}
use Rattle.fuse_spec.specs.Server.Performs.{PerformResult, flags_known, minor_number, file_operation_of, is_open_for, is_still_held, wire_of}
use Rattle.fs_tree.specs.Outcomes.{unlinked_by}
use Rattle.fs_files.specs.declared.replies.Outcome.{Outcome}
use Rattle.fs_files.specs.Replies.{IsRepliable, outcome_len, outcome_reply}
use Rattle.fs_files.specs.Values.{reply_room_of, reply_room_for}

-- What a request is answered whose nodes are still held, with files named by their inodes.
abbrev pub body_reply : Server → RequestBody → Reply ℕ ℕ
body_reply s (init flags) = agreed 7 (minor_number s.minor) (bit_and flags (flags_known s.minor))
body_reply s (asks operation) = cond (is_open_for s operation)
    (reply_by s.validity s.tree (file_operation_of s.nodes operation)) (failed ebadf)
body_reply s (release o) = cond (is_open s.handles o.fh (file_of s.nodes o.nodeid)) done (failed ebadf)
body_reply s (forget f) = failed eio
body_reply s (batch_forget fs) = failed eio
body_reply s (interrupt original) = failed eio

-- the tree after it
abbrev pub tree_by : Server → RequestBody → Tree
tree_by s (asks operation) = cond (is_open_for s operation)
    (tree_after s.tree (file_operation_of s.nodes operation)) s.tree
tree_by s (init flags) = s.tree
tree_by s (release o) = s.tree
tree_by s (forget f) = s.tree
tree_by s (batch_forget fs) = s.tree
tree_by s (interrupt original) = s.tree

-- the file handles after it, before one is given
abbrev pub handles_by : Server → RequestBody → HandleTable
handles_by s (release o) = cond (is_open s.handles o.fh (file_of s.nodes o.nodeid))
    (handle_back s.handles o.fh) s.handles
handles_by s (init flags) = s.handles
handles_by s (asks operation) = s.handles
handles_by s (forget f) = s.handles
handles_by s (batch_forget fs) = s.handles
handles_by s (interrupt original) = s.handles

-- The reply to any held request: EINTR to a marked one, and EIO to one whose node is gone.
abbrev pub said : Server → HeldRequest → Reply ℕ ℕ
said s held = cond held.marked (failed eintr) (cond (is_still_held s.nodes held.generations) (body_reply s held.body)
    (failed eio))

abbrev pub tree_said : Server → HeldRequest → Tree
tree_said s held = cond held.marked s.tree (cond (is_still_held s.nodes held.generations) (tree_by s held.body) s.tree)

abbrev pub handles_said : Server → HeldRequest → HandleTable
handles_said s held = cond held.marked s.handles
    (cond (is_still_held s.nodes held.generations) (handles_by s held.body) s.handles)

-- the file from which a request takes a name for good or a file handle, if it is performed
abbrev pub unlinked_or_released : Server → RequestBody → Option ℕ
unlinked_or_released s (asks operation) = unlinked_by s.tree (file_operation_of s.nodes operation)
unlinked_or_released s (release o) = option_map (λ (h : FileHandle). h.file) (get s.handles.handles o.fh)
unlinked_or_released s (init flags) = None
unlinked_or_released s (forget f) = None
unlinked_or_released s (batch_forget fs) = None
unlinked_or_released s (interrupt original) = None

-- The files that this reply names are given nodes and file handles, by which the reply that is sent names them.
abbrev pub numbering : (ℕ → ℕ) → Server → Reply ℕ ℕ → PerformResult
numbering choice s reply =
    record {
      server = record s {
        nodes = all_given choice s.nodes (files_in_reply reply);
        handles = all_opened s.handles (opens_in_reply reply);
      };
      wire = wire_of choice (all_given choice s.nodes (files_in_reply reply)) s.tree s.handles.next_fh reply;
    }

-- An operation that nothing refuses results in this on the tree.
pub record Operates {A : Type 0} (valid : Validity) (tree : Tree) (operation : FileOperation) (outcome : Outcome A)
    (new : Tree) : Type 0 where
  pub says : outcome_reply valid.found_ms outcome ≡ reply_unrefused valid tree operation
  pub tree_is : new ≡ tree_unrefused tree operation
  pub repliable : IsRepliable new outcome
  pub short : outcome_len outcome ≤ reply_room_of operation

-- A request results in this on the tree, if its nodes are still held.
pub record ComesTo {A : Type 0} (s : Server) (body : RequestBody) (outcome : Outcome A) (new : Tree) : Type 0 where
  pub says : outcome_reply s.validity.found_ms outcome ≡ body_reply s body
  pub tree_is : new ≡ tree_by s body
  pub repliable : IsRepliable new outcome
  pub short : outcome_len outcome ≤ reply_room_for body
