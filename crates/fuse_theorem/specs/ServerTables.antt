-- What is true of the server's tree and tables, whatever happened.
use Rattle.std.specs.Prelude.{◌≡◌, ◌≢◌, ◌≤◌, ◌<◌, ℕ, Some, None, All}
use Rattle.fuse_spec.specs.Values.Maps.{get}
use Rattle.fuse_spec.specs.Files.Trees.{Tree, Named, a_directory}
use Rattle.fuse_spec.specs.Server.Nodes.{NodeTable, HeldNode, HandleTable, FileHandle}
use Rattle.fuse_spec.specs.Server.Server.{Server}

-- The root is a directory to which no name leads, and no coming file is it.
pub record TreeSound (tree : Tree) : Type 0 where
  pub root : get tree.files 0 ≡ Some a_directory
  pub names : All (λ (n : Named). n.file ≢ 0) tree.names
  pub inodes : 1 ≤ tree.next_inode

-- A node has an id from 2 up, a file that is not the root and that no other node has, a generation below the next, and
-- a lookup.
pub record NodesSound (t : NodeTable) : Type 0 where
  pub ids : (id : ℕ) (row : HeldNode) → get t.rows id ≡ Some row → 2 ≤ id
  pub files : (id : ℕ) (row : HeldNode) → get t.rows id ≡ Some row → row.file ≢ 0
  pub apart : (i j : ℕ) (a b : HeldNode) → get t.rows i ≡ Some a → get t.rows j ≡ Some b → a.file ≡ b.file → i ≡ j
  pub generations : (id : ℕ) (row : HeldNode) → get t.rows id ≡ Some row → row.generation < t.next_generation
  pub counts : (id : ℕ) (row : HeldNode) → get t.rows id ≡ Some row → 1 ≤ row.count

-- No number from the next on is open. An open one is of a file that is not the root, and counted.
pub record HandlesSound (h : HandleTable) : Type 0 where
  pub numbers : (fh : ℕ) → h.next_fh ≤ fh → get h.handles fh ≡ None
  pub files : (fh : ℕ) (open_call : FileHandle) → get h.handles fh ≡ Some open_call → open_call.file ≢ 0
  pub counts : (fh : ℕ) (open_call : FileHandle) → get h.handles fh ≡ Some open_call → 1 ≤ open_call.count

-- The tree and the tables are sound, and no number from the next on is that of a copy.
pub record ServerSound (s : Server) : Type 0 where
  pub tree : TreeSound s.tree
  pub nodes : NodesSound s.nodes
  pub handles : HandlesSound s.handles
  pub copies : (number : ℕ) → s.next_copy ≤ number → get s.copies number ≡ None
