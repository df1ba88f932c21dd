-- What is true of every file tree, and what stands below what in it.
use Rattle.std.specs.Prelude.{◌≡◌, ◌≢◌, ◌≤◌, ℕ, true, false, None, All, Contains, IsSome, nat_eq, count_by}
use Rattle.fuse_spec.specs.Values.Maps.{get}
use Rattle.fuse_spec.specs.Calls.Paths.{Name}
use Rattle.fuse_spec.specs.Files.Operations.{write}
use Rattle.fuse_spec.specs.declared.Kind.TheVariants.{Regular}
use Rattle.fuse_spec.specs.Files.Trees.{Tree, Named, is_at, is_directory, is_nameless, kind_of}
use Rattle.fuse_spec.specs.Files.FileOperations.{FileOperation}

-- The file is `top`, or a name of it stands in a directory that is `top` or below it. (POSIX, rename)
pub data IsBelow (tree : Tree) (top : ℕ) : ℕ → Type 0 where
  is_top : (file : ℕ) → file ≡ top → IsBelow tree top file
  is_in : (n : Named) (file : ℕ) → Contains tree.names n → n.file ≡ file → IsBelow tree top n.directory
      → IsBelow tree top file

-- How many names lead to the file. (POSIX, link count)
abbrev pub names_leading_to : Tree → ℕ → ℕ
names_leading_to tree file = count_by (λ n. nat_eq n.file file) tree.names

-- The name stands in a directory of the tree that is not nameless, and leads to a file of the tree that is not the
-- root.
pub record IsInTree (tree : Tree) (n : Named) : Type 0 where
  pub directory : is_directory tree n.directory ≡ true
  pub named : is_nameless tree n.directory ≡ false
  pub file : IsSome (get tree.files n.file)
  pub not_root : n.file ≢ 0

-- The root is a directory, a directory has one name at most, each name stands, no two names stand at one place, and no
-- file has an inode from the next on.
pub record IsShaped (tree : Tree) : Type 0 where
  pub root : is_directory tree 0 ≡ true
  pub one_name : (file : ℕ) → is_directory tree file ≡ true → names_leading_to tree file ≤ 1
  pub names : All (IsInTree tree) tree.names
  pub once : (directory : ℕ) (name : Name) → count_by (is_at directory name) tree.names ≤ 1
  pub unborn : (file : ℕ) → tree.next_inode ≤ file → get tree.files file ≡ None

-- What is written is a regular file. The operations do not judge that: a file that is open for writing is regular.
-- (this project's rule)
abbrev pub WritesRegular : Tree → FileOperation → Type 0
WritesRegular tree (write file offset bytes) = kind_of (get tree.files file) ≡ Regular
WritesRegular tree operation = Unit {0}
