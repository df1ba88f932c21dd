-- How the server performs a held request.
use Rattle.std.specs.Prelude.{ℕ, ◌+◌, Bool, true, ◌||◌, cond, not, List, []}
use Rattle.std.specs.List.{list_all}
use Rattle.std.specs.Int.RustNames.{bit_and}
use Rattle.fuse_spec.specs.declared.Minor.{Minor}
use Rattle.fuse_spec.specs.declared.Minor.TheVariants.{M15, M31}
use Rattle.fuse_spec.specs.declared.Opened.{Opened}
use Rattle.fuse_spec.specs.declared.Entry.{Entry}
use Rattle.fuse_spec.specs.Values.Maps.{put, remove}
use Rattle.fuse_spec.specs.Values.Numbers.{eintr, eio, ebadf, async_read, init_flags}
use Rattle.fuse_spec.specs.Files.Operations.{Operation, read, write, Reply, agreed, done, failed, operation_with, reply_with, files_in_reply, opens_in_reply, errno_of}
use Rattle.fuse_spec.specs.Files.Trees.{Tree, attributes_of}
use Rattle.fuse_spec.specs.Files.FileOperations.{FileOperation, reply_by, tree_after}
use Rattle.fuse_spec.specs.Kernel.Messages.{RequestBody, init, asks, release, forget, batch_forget, interrupt, WireReply}
use Rattle.fuse_spec.specs.Server.Nodes.{NodeTable, row_of, file_of, is_held, all_given, is_open, all_opened, handle_back}
use Rattle.fuse_spec.specs.Server.Server.{Server, HeldRequest, generation_in, without_unheld_files}

-- The server after a request is performed, and what it replies.
pub record PerformResult : Type 0 where
  pub server : Server
  pub wire : WireReply

-- The operation with each node replaced by the file that it denotes.
abbrev pub file_operation_of : NodeTable → Operation ℕ Opened → FileOperation
file_operation_of t operation = operation_with (file_of t) (λ (o : Opened). file_of t o.nodeid) operation

-- Whether the file handle that a read or write names is one of its node's file. (libfuse, low-level: open)
abbrev pub is_open_for : Server → Operation ℕ Opened → Bool
is_open_for s (read o offset size) = is_open s.handles o.fh (file_of s.nodes o.nodeid)
is_open_for s (write o offset bytes) = is_open s.handles o.fh (file_of s.nodes o.nodeid)
is_open_for s operation = true

-- A file as an entry names it: by the id that is chosen for it, that node's generation, and its attributes.
-- (linux/fuse.h, struct fuse_entry_out)
abbrev pub entry_for : (ℕ → ℕ) → NodeTable → Tree → ℕ → Entry
entry_for choice t tree file = record {
  nodeid = choice file;
  generation = generation_in (row_of t (choice file));
  attributes = attributes_of tree file;
}

-- The reply of the tree, as it is sent: files by the ids that are chosen, an open file by the next number.
abbrev pub wire_of : (ℕ → ℕ) → NodeTable → Tree → (fh : ℕ) → Reply ℕ ℕ → WireReply
wire_of choice nodes tree fh reply = reply_with (entry_for choice nodes tree) (λ file. fh) reply

-- The operation is done, and nodes and file handles are given for what the reply names. After an abort it is done, but
-- nothing is given, and the reply says only whether it failed.
abbrev pub doing : (ℕ → ℕ) → Server → FileOperation → PerformResult
doing choice s operation =
    let tree = tree_after s.tree operation in
    let reply = reply_by s.validity s.tree operation in
    let nodes = all_given choice s.nodes (files_in_reply reply) in
    record {
      server =
          record s {
            tree = tree;
            nodes = cond s.aborted s.nodes nodes;
            handles = cond s.aborted s.handles (all_opened s.handles (opens_in_reply reply));
          };
      wire = cond s.aborted (failed (errno_of reply)) (wire_of choice nodes tree s.handles.next_fh reply);
    }

-- The request isn't performed, and its reply is this error.
abbrev pub refusing : Server → ℕ → PerformResult
refusing s errno = record { server = s; wire = failed errno }

-- The next two are a minor's number and the flags of INIT that it knows. (linux/fuse.h, struct fuse_init_out)
abbrev pub minor_number : Minor → ℕ
minor_number M15 = 15
minor_number M31 = 31

abbrev pub flags_known : Minor → ℕ
flags_known M15 = async_read
flags_known M31 = init_flags

-- The reply to an INIT that offers these flags: the minor that the server speaks, and those of the flags that it knows.
-- (linux/fuse.h, struct fuse_init_out)
abbrev pub init_reply : Minor → (flags : ℕ) → WireReply
init_reply minor flags = agreed 7 (minor_number minor) (bit_and flags (flags_known minor))

-- What a held request asks is done: INIT is answered the minor, a read, write or RELEASE without its file handle EBADF,
-- and forgets and INTERRUPTs are never held. (this project's rule)
abbrev pub performing : (ℕ → ℕ) → Server → RequestBody → PerformResult
performing choice s (init flags) = record { server = s; wire = init_reply s.minor flags }
performing choice s (asks operation) = cond (is_open_for s operation)
    (doing choice s (file_operation_of s.nodes operation)) (refusing s ebadf)
performing choice s (release o) =
    cond (is_open s.handles o.fh (file_of s.nodes o.nodeid))
    (record { server = record s { handles = handle_back s.handles o.fh }; wire = done }) (refusing s ebadf)
performing choice s (forget f) = refusing s eio
performing choice s (batch_forget fs) = refusing s eio
performing choice s (interrupt original) = refusing s eio

-- Whether each node is still held under the generation that it had when the request was taken. (libfuse, low-level:
-- generation)
abbrev pub is_still_held : NodeTable → List (ℕ × ℕ) → Bool
is_still_held t generations = list_all (λ (g : ℕ × ℕ). is_held t g.0 g.1) generations

-- A marked request is answered EINTR, one whose node is gone EIO, and any other is performed. (fuse.rst)
abbrev pub performed : (ℕ → ℕ) → Server → HeldRequest → PerformResult
performed choice s taken =
    cond taken.marked (refusing s eintr) (cond (is_still_held s.nodes taken.generations)
    (performing choice s taken.body) (refusing s eio))

-- The reply is kept, and one copy of it goes out, unless the mount is aborted.
abbrev pub replying : Server → ℕ → WireReply → Server
replying s unique wire =
    record s {
      kept = cond s.aborted s.kept (put s.kept unique (record { wire = wire; first = s.next_copy }));
      copies = cond s.aborted s.copies (put s.copies s.next_copy
          (record { unique = unique; wire = wire; first = s.next_copy }));
      next_copy = cond s.aborted s.next_copy (s.next_copy + 1);
    }

-- The request under this unique is performed, on the tree as it is now. (this project's rule)
abbrev pub served : (ℕ → ℕ) → Server → ℕ → HeldRequest → PerformResult
served choice s unique taken =
    let did = performed choice (record s { held = remove s.held unique }) taken in
    record { server = replying (without_unheld_files did.server) unique did.wire; wire = did.wire }

-- The files to which an operation gives nodes.
abbrev pub files_by : Server → RequestBody → List ℕ
files_by s (asks operation) = cond (is_open_for s operation)
    (files_in_reply (reply_by s.validity s.tree (file_operation_of s.nodes operation))) []
files_by s (init flags) = []
files_by s (release o) = []
files_by s (forget f) = []
files_by s (batch_forget fs) = []
files_by s (interrupt original) = []

-- The files to which performing the request gives nodes: none after an abort, nor if it is marked or one of its nodes
-- is gone.
abbrev pub files_given : Server → HeldRequest → List ℕ
files_given s taken = cond (s.aborted || (taken.marked || not (is_still_held s.nodes taken.generations))) []
    (files_by s taken.body)
