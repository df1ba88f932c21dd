-- How far counts and inodes go, and what is known of the files that have nodes and file handles.
use Rattle.std.specs.Prelude.{◌≡◌, ◌≢◌, ◌<◌, ◌≤◌, ℕ, false, Option, None, Some, IsSome, IsTrue, T}
use Rattle.std.specs.FinMap.{is_sorted}
use Rattle.std.specs.Ordering.{nat_cmp}
use Rattle.fuse_spec.specs.Values.Maps.{get}
use Rattle.fuse_spec.specs.Files.Trees.{Tree, is_nameless, kind_of}
use Rattle.fuse_spec.specs.Server.Nodes.{NodeTable, HeldNode, HandleTable, IsUnheld, FileHandle}
use Rattle.fuse_spec.specs.Values.Numbers.{counter_end}
use Rattle.fs_tree.specs.Outcomes.{is_regular}

-- no node has more lookups than this
abbrev pub HaveCountsUpTo : ℕ → NodeTable → Type 0
HaveCountsUpTo most nodes = (id : ℕ) (row : HeldNode) → get nodes.rows id ≡ Some row → row.count ≤ most

-- every node has fewer lookups than the end of counters
abbrev pub AreHeldBelow : NodeTable → Type 0
AreHeldBelow nodes = (id : ℕ) (row : HeldNode) → get nodes.rows id ≡ Some row → row.count < counter_end

-- no file handle has more uses than this
abbrev pub AreUsed : ℕ → HandleTable → Type 0
AreUsed most handles = (fh : ℕ) (handle : FileHandle) → get handles.handles fh ≡ Some handle → handle.count ≤ most

-- every node's file is below the end of inodes
abbrev pub AreLow : NodeTable → Type 0
AreLow nodes = (id : ℕ) (row : HeldNode) → get nodes.rows id ≡ Some row → row.file < counter_end

-- the file is in the tree
abbrev pub IsThere : Tree → ℕ → Type 0
IsThere tree file = IsSome (get tree.files file)

-- every node's file is in the tree
abbrev pub AreThere : Tree → NodeTable → Type 0
AreThere tree nodes = (id : ℕ) (row : HeldNode) → get nodes.rows id ≡ Some row → IsThere tree row.file

-- every file handle's file is regular
abbrev pub AreRegular : Tree → HandleTable → Type 0
AreRegular tree handles = (fh : ℕ) (handle : FileHandle) → get handles.handles fh ≡ Some handle
    → IsTrue (is_regular tree handle.file)

-- Nodes are of files of the tree, and file handles of regular ones.
pub record AreKnown (tree : Tree) (nodes : NodeTable) (handles : HandleTable) : Type 0 where
  pub low : AreLow nodes
  pub there : AreThere tree nodes
  pub regular : AreRegular tree handles

-- no file handle is of the file
abbrev pub IsUnopened : HandleTable → ℕ → Type 0
IsUnopened handles file = (fh : ℕ) (handle : FileHandle) → get handles.handles fh ≡ Some handle → handle.file ≢ file

-- Each file of the tree that has no node and no file handle has a name, but for one that is still to be looked at.
-- Nodes and file handles are in rising key, and none is in use from the next number on.
pub record AreNamedBut (but : Option ℕ) (tree : Tree) (nodes : NodeTable) (handles : HandleTable) : Type 0 where
  pub rows : T (is_sorted nat_cmp nodes.rows)
  pub opens : T (is_sorted nat_cmp handles.handles)
  pub coming : (fh : ℕ) → handles.next_fh ≤ fh → get handles.handles fh ≡ None
  pub named : (file : ℕ) → (but ≡ Some file → ⊥) → IsThere tree file → IsUnheld nodes file → IsUnopened handles file
      → is_nameless tree file ≡ false

-- Each file of the tree that has no node and no file handle has a name.
abbrev pub AreNamed : Tree → NodeTable → HandleTable → Type 0
AreNamed tree nodes handles = AreNamedBut None tree nodes handles

-- Each file of the one tree is in the other, and of the same kind.
pub record KeepsFiles (old new : Tree) : Type 0 where
  pub there : (file : ℕ) → IsThere old file → IsThere new file
  pub kind : (file : ℕ) → IsThere old file → kind_of (get new.files file) ≡ kind_of (get old.files file)
