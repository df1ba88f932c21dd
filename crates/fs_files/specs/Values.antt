-- What contracts see of held requests and of the files that are served.
use Rattle.std.specs.Prelude.{ℕ, false, List, [], ◌∷◌, Option, Some, None, Vec}
use Rattle.std.specs.Int.RustNames.{bit_and}
use Rattle.fuse_spec.specs.declared.Minor.{Minor}
use Rattle.fuse_spec.specs.declared.Minor.TheVariants.{M31}
use Rattle.fuse_spec.specs.declared.Opened.{Opened}
use Rattle.fuse_spec.specs.declared.Validity.{Validity}
use Rattle.fuse_spec.specs.Values.Numbers.{max_transfer}
use Rattle.fuse_spec.specs.Files.Operations as operation
use Rattle.fuse_spec.specs.Files.Operations.{Operation, files_in}
use Rattle.fuse_spec.specs.Files.Operations.{Asked}
use Rattle.fuse_spec.specs.Files.Operations.{opened_nodes}
use Rattle.fuse_spec.specs.Kernel.Messages.{RequestBody, init, asks, release}
use Rattle.fuse_spec.specs.Server.Nodes.{NodeTable, HandleTable}
use Rattle.fuse_spec.specs.Server.Performs.{file_operation_of}
use Rattle.fuse_spec.specs.Files.FileOperations.{FileOperation}
use Rattle.fuse_spec.specs.Server.Server.{Server}
use Rattle.fuse_spec.specs.Files.Trees.{Tree}
use Rattle.fk_wire.specs.Requests.{known_flags}
use Rattle.fs_files.specs.declared.held.Named.{Named}
use Rattle.fs_files.specs.declared.held.Named.TheVariants.{Nothing, One, Two}
use Rattle.fs_files.specs.declared.held.HeldBody.{HeldBody}
use Rattle.fs_files.specs.declared.held.HeldBody.TheVariants.{Init, Asks, Release}

abbrev pub HeldOperation : Type 0 → Type 0
HeldOperation A = Asked (Vec ℕ A)

-- no node is given
abbrev pub no_nodes : NodeTable
no_nodes = record { rows = []; next_generation = 1 }

-- no file handle is given
abbrev pub no_handles : HandleTable
no_handles = record { handles = []; next_fh = 1 }

-- the held nodes, and how many more can be given with no memory
pub record HeldNodes : Type 0 where
  pub table : NodeTable
  pub room : ℕ

-- the held nodes and the file handles, and how many more of each can be given with no memory
pub record KnownState : Type 0 where
  pub nodes : NodeTable
  pub handles : HandleTable
  pub node_room : ℕ
  pub open_room : ℕ

-- the same with the tree
pub record FilesState : Type 0 where
  pub tree : Tree
  pub nodes : NodeTable
  pub handles : HandleTable
  pub node_room : ℕ
  pub open_room : ℕ

-- A server with these files, which holds no request and keeps no reply.
abbrev pub server_of : FilesState → Validity → Server
server_of files validity =
    record {
      tree = files.tree;
      nodes = files.nodes;
      handles = files.handles;
      held = [];
      kept = [];
      copies = [];
      next_copy = 1;
      validity = validity;
      minor = M31;
      aborted = false;
    }

-- the same at a minor
abbrev pub server_at : Minor → FilesState → Validity → Server
server_at minor files validity = record (server_of files validity) { minor = minor }

-- the nodes that a request names, with their generations
abbrev pub nodes_named : Named → List (ℕ × ℕ)
nodes_named Nothing = []
nodes_named (One node) = (node.nodeid, node.generation) ∷ []
nodes_named (Two node other) = (node.nodeid, node.generation) ∷ (other.nodeid, other.generation) ∷ []

module _ {A : Type 0} where
  -- the operation that a held request asks
  abbrev pub held_operation_of : HeldOperation A → Operation ℕ Opened
  held_operation_of o = operation.operation_of (λ (v : Vec ℕ A). v.items) o

  -- what a held request asks
  abbrev pub asked_of : HeldBody A → RequestBody
  asked_of (Init flags) = init (bit_and flags.0 known_flags)
  asked_of (Asks operation) = asks (held_operation_of operation)
  asked_of (Release opened) = release opened

  -- the same operation on files
  abbrev pub on_files : NodeTable → HeldOperation A → FileOperation
  on_files nodes o = file_operation_of nodes (held_operation_of o)

-- how long the reply to an operation is at most that has no fixed length
abbrev pub reply_room_of : {F O : Type 0} → Operation F O → ℕ
reply_room_of (operation.readdir d after size) = max_transfer
reply_room_of (operation.readdirplus d after size) = max_transfer
reply_room_of (operation.read o offset size) = max_transfer
reply_room_of o = 0

abbrev pub reply_room_for : RequestBody → ℕ
reply_room_for (asks o) = reply_room_of o
reply_room_for body = 0

-- how many names the reply to an operation lists at most together with their files, each with an entry of 128 bytes
abbrev pub most_names_of : {F O : Type 0} → Operation F O → ℕ
most_names_of (operation.readdirplus d after size) = 32
most_names_of o = 0

abbrev pub names_for : RequestBody → ℕ
names_for (asks o) = most_names_of o
names_for body = 0
