-- The server: its state, and how it takes requests.
use Rattle.std.specs.Prelude.{ℕ, ◌+◌, Bool, true, false, ◌&&◌, ◌||◌, cond, not, List, [], ◌∷◌, Option, Some, None, nat_eq, nat_lt, filter, map, is_some, sum_by}
use Rattle.std.specs.List.{list_any, list_all}
use Rattle.fuse_spec.specs.Values.Maps.{Map, get, put, values}
use Rattle.fuse_spec.specs.Files.Operations.{readdirplus, files_in, opened_nodes}
use Rattle.fuse_spec.specs.Files.Trees.{Tree, is_nameless}
use Rattle.fuse_spec.specs.declared.Validity.{Validity}
use Rattle.fuse_spec.specs.declared.Minor.{Minor}
use Rattle.fuse_spec.specs.declared.Minor.TheVariants.{M15, M31}
use Rattle.fuse_spec.specs.Kernel.Messages.{Forget, RequestBody, init, asks, release, forget, batch_forget, interrupt, Request, WireReply}
use Rattle.fuse_spec.specs.Server.Nodes.{NodeTable, HeldNode, row_of, taken_back, HandleTable, FileHandle}

-- A request that is held until it is performed: what it asks, the nodes that it names with their generations at that
-- time, and whether an INTERRUPT marked it. (this project's rule)
pub record HeldRequest : Type 0 where
  pub body : RequestBody
  pub generations : List (ℕ × ℕ)
  pub marked : Bool

-- A kept reply, and the number of its first copy. (this project's rule)
pub record Kept : Type 0 where
  pub wire : WireReply
  pub first : ℕ

-- A copy that was sent and isn't settled, and the number of the first copy of its reply.
pub record Copy : Type 0 where
  pub unique : ℕ
  pub wire : WireReply
  pub first : ℕ

-- The server: its tree, its nodes and open files, the requests that it holds, its kept replies and its copies, the next
-- copy's number, the validities, the minor that it speaks, and whether the mount is aborted.
pub record Server : Type 0 where
  pub tree : Tree
  pub nodes : NodeTable
  pub handles : HandleTable
  pub held : Map HeldRequest
  pub kept : Map Kept
  pub copies : Map Copy
  pub next_copy : ℕ
  pub validity : Validity
  pub minor : Minor
  pub aborted : Bool

-- What can be wrong with a request.
pub data RequestFault : Type 0 where
  unknown_opcode unknown_node too_many_forgets repeated_unique : RequestFault

-- Whether the minor knows what is asked: 7.15 has no READDIRPLUS and no BATCH_FORGET. (linux/fuse.h, enum fuse_opcode)
abbrev pub knows : Minor → RequestBody → Bool
knows M31 body = true
knows M15 (asks (readdirplus d after size)) = false
knows M15 (batch_forget fs) = false
knows M15 body = true

-- The nodes that a request names, those that it forgets apart. (linux/fuse.h, struct fuse_in_header)
abbrev pub nodes_of_body : RequestBody → List ℕ
nodes_of_body (init flags) = []
nodes_of_body (asks operation) = files_in opened_nodes operation
nodes_of_body (release opened) = opened.nodeid ∷ []
nodes_of_body (forget f) = []
nodes_of_body (batch_forget fs) = []
nodes_of_body (interrupt original) = []

-- The lookups that a request gives back, by node. (linux/fuse.h, struct fuse_forget_one)
abbrev pub forgets_of : RequestBody → List Forget
forgets_of (init flags) = []
forgets_of (asks operation) = []
forgets_of (release opened) = []
forgets_of (forget f) = f ∷ []
forgets_of (batch_forget fs) = fs
forgets_of (interrupt original) = []

-- How many lookups of a node these give back. (libfuse, low-level: forget)
abbrev pub forgotten : ℕ → List Forget → ℕ
forgotten node fs = sum_by (λ f. cond (nat_eq f.0 node) f.1 0) fs

-- Whether the node is held, as the root always is. (libfuse, low-level: lookup)
abbrev pub is_known : NodeTable → ℕ → Bool
is_known t id = is_some (row_of t id)

-- Whether the node whose lookups are given back is held; the root isn't forgotten. (libfuse, low-level: forget)
abbrev pub is_forgettable : NodeTable → Forget → Bool
is_forgettable t f = is_some (get t.rows f.0)

-- The lookup count of a node, which is 0 where none is held. (libfuse, low-level: lookup)
abbrev pub count_in : Option HeldNode → ℕ
count_in None = 0
count_in (Some row) = row.count

-- The fault of a request: an opcode that the minor doesn't know, an unknown node, more forgets than lookups, or a
-- unique that is held or whose reply is kept. (this project's rule)
abbrev pub fault_of : Server → Request → Option RequestFault
fault_of s request =
    cond (knows s.minor request.body)
    (cond (list_all (is_known s.nodes) (nodes_of_body request.body)
    && list_all (is_forgettable s.nodes) (forgets_of request.body))
    (cond (list_any (λ f. nat_lt (count_in (get s.nodes.rows f.0)) (forgotten f.0 (forgets_of request.body)))
    (forgets_of request.body)) (Some too_many_forgets)
    (cond (is_some (get s.held request.unique) || is_some (get s.kept request.unique)) (Some repeated_unique) None))
    (Some unknown_node))
    (Some unknown_opcode)

-- Whether a node but the root, or a file handle, holds the file. (libfuse, low-level: forget)
abbrev pub is_file_held : Server → ℕ → Bool
is_file_held s file = list_any (λ (row : HeldNode). nat_eq row.file file) (values s.nodes.rows)
    || list_any (λ (h : FileHandle). nat_eq h.file file) (values s.handles.handles)

-- The server without the nameless files that no node and no file handle holds. (libfuse, low-level: unlink)
abbrev pub without_unheld_files : Server → Server
without_unheld_files s = record s {
  tree = record s.tree {
    files =
        filter (λ e. not (is_nameless s.tree e.0) || is_file_held s e.0) s.tree.files;
  };
}

-- The lookups are given back, pair by pair. (libfuse, low-level: forget)
abbrev pub all_taken_back : NodeTable → List Forget → NodeTable
all_taken_back t [] = t
all_taken_back t (f ∷ fs) = all_taken_back (taken_back t f.0 f.1) fs

-- The generation of a node that is held, and that of the root where none is. (libfuse, low-level: generation)
abbrev pub generation_in : Option HeldNode → ℕ
generation_in None = 0
generation_in (Some row) = row.generation

-- A request is held under its unique, with the generations that its nodes have now, and not marked. (this project's
-- rule)
abbrev pub holding : Server → ℕ → RequestBody → Server
holding s unique body =
    record s {
      held = put s.held unique (record {
        body = body;
        generations = map (λ id. (id, generation_in (row_of s.nodes id))) (nodes_of_body body);
        marked = false;
      });
    }

-- The lookups are given back, and nameless files that nothing holds then go. (libfuse, low-level: forget)
abbrev pub forgetting : Server → List Forget → Server
forgetting s fs = without_unheld_files (record s { nodes = all_taken_back s.nodes fs })

-- One copy of a reply goes out, under the next copy number.
abbrev pub sending : Server → ℕ → WireReply → ℕ → Server
sending s unique wire first = record s {
  copies =
      put s.copies s.next_copy (record { unique = unique; wire = wire; first = first });
  next_copy = s.next_copy + 1;
}
