-- The tree operations: which refusal comes first, what else is answered, and what changes.
use Rattle.std.specs.Prelude.{ℕ, ◌+◌, Bool, false, ◌&&◌, cond, not, List, [], ◌∷◌, Option, Some, None, length, nat_eq, nat_lt, nat_le, min, is_some, take, drop}
use Rattle.fuse_spec.specs.declared.Validity.{Validity}
use Rattle.fuse_spec.specs.Values.Maps.{get, put}
use Rattle.fuse_spec.specs.Values.Numbers.{eperm, enoent, eexist, enotdir, eisdir, einval, efbig, enospc, enotempty, max_names, max_file, max_transfer}
use Rattle.fuse_spec.specs.Calls.Paths.{Name}
use Rattle.fuse_spec.specs.Files.Operations.{Operation, lookup, getattr, mkdir, create, unlink, rmdir, rename, link, opening, readdir, readdirplus, read, write, Reply, found, missing, created, opened, attributes, listed, listed_plus, content, written, done, failed}
use Rattle.fuse_spec.specs.Files.Trees.{Tree, a_directory, a_file, file_at, is_directory, is_nameless, is_empty, is_below, attributes_of, with_name, without_name, with_inode, overwritten, file_bytes, fitting, records_after, fitting_pairs, pairs_after}

-- An operation on files: a file and an open file are both named by the file's inode.
abbrev pub FileOperation : Type 0
FileOperation = Operation ℕ ℕ

-- A condition, and the error number with which it refuses.
abbrev pub Check : Type 0
Check = Bool × ℕ

-- Whether there is a file under the name that is no directory. (POSIX, rename)
abbrev pub is_file : Tree → Option ℕ → Bool
is_file tree None = false
is_file tree (Some file) = not (is_directory tree file)

-- Whether there is a directory under the name. (POSIX, rename)
abbrev pub is_dir : Tree → Option ℕ → Bool
is_dir tree None = false
is_dir tree (Some file) = is_directory tree file

-- Whether there is a directory with names in it under the name. (POSIX, rmdir)
abbrev pub is_filled : Tree → Option ℕ → Bool
is_filled tree None = false
is_filled tree (Some file) = not (is_empty tree file)

-- Whether two names lead to one file. (POSIX, rename)
abbrev pub is_same : Option ℕ → Option ℕ → Bool
is_same (Some a) (Some b) = nat_eq a b
is_same (Some a) None = false
is_same None b = false

-- Whether a rename would move a directory into itself or below itself. (POSIX, rename)
abbrev pub is_moved_below : Tree → Option ℕ → ℕ → Bool
is_moved_below tree None newdir = false
is_moved_below tree (Some file) newdir = is_directory tree file && is_below tree file newdir

-- Whether the rename replaces another file than the one that it moves. (POSIX, rename)
abbrev pub replaces : Option ℕ → Option ℕ → Bool
replaces moved there = is_some there && not (is_same moved there)

-- The checks of a new name: EEXIST where the name is there, and ENOSPC where the tree has as many names as it may have.
-- (this project's rule)
abbrev pub making : Tree → ℕ → Name → List Check
making tree dir name = (is_some (file_at tree dir name), eexist) ∷ (nat_le max_names (length tree.names), enospc) ∷ []

-- The checks of a name that is to go: ENOTDIR where the parent is no directory, and ENOENT where the name isn't there.
-- (POSIX, unlink)
abbrev pub removing : Tree → ℕ → Name → List Check
removing tree dir name = (not (is_directory tree dir), enotdir) ∷ (not (is_some (file_at tree dir name)), enoent) ∷ []

-- The checks of a rename, in the order in which they are judged. (this project's rule)
abbrev pub moving : Tree → ℕ → ℕ → Option ℕ → Option ℕ → List Check
moving tree dir newdir moved there =
    (not (is_directory tree dir && is_directory tree newdir), enotdir) ∷ (not (is_some moved), enoent) ∷
    (is_nameless tree newdir, enoent)
    ∷ (is_moved_below tree moved newdir, einval) ∷ (
      replaces moved there
          && (is_dir tree moved && is_file tree there),
      enotdir,
    )
    ∷ (replaces moved there && (is_file tree moved && is_dir tree there), eisdir) ∷
    (replaces moved there && is_filled tree there, enotempty) ∷ []

-- What may refuse an operation, in the order in which it is judged. (this project's rule)
abbrev pub checks : Tree → FileOperation → List Check
checks tree (lookup d name) = (not (is_directory tree d), enotdir) ∷ []
checks tree (getattr file) = []
checks tree (mkdir d name) = (not (is_directory tree d), enotdir) ∷ (is_nameless tree d, enoent) ∷ making tree d name
checks tree (create d name) = (not (is_directory tree d), enotdir) ∷ (is_nameless tree d, enoent) ∷ making tree d name
checks tree (unlink d name) = (not (is_directory tree d), enotdir) ∷ (not (is_some (file_at tree d name)), enoent) ∷
    (is_dir tree (file_at tree d name), eisdir) ∷ []
checks tree (rmdir d name) =
    (not (is_directory tree d), enotdir) ∷ (not (is_some (file_at tree d name)), enoent) ∷
    (is_file tree (file_at tree d name), enotdir)
    ∷ (is_filled tree (file_at tree d name), enotempty) ∷ []
checks tree (link file d name) =
    (not (is_directory tree d), enotdir) ∷ (is_nameless tree d, enoent) ∷ (is_directory tree file, eperm) ∷
    (is_nameless tree file, enoent) ∷ making tree d name
checks tree (rename d old e new) = moving tree d e (file_at tree d old) (file_at tree e new)
checks tree (readdir d after size) = (not (is_directory tree d), enotdir) ∷ []
checks tree (readdirplus d after size) = (not (is_directory tree d), enotdir) ∷ []
checks tree (opening file) = (is_directory tree file, eisdir) ∷ []
checks tree (read file offset size) = []
checks tree (write file offset bytes) = (nat_lt max_file (offset + length bytes), efbig) ∷ []

-- The error number of the first check that refuses.
abbrev pub first_refusal : List Check → Option ℕ
first_refusal [] = None
first_refusal (check ∷ rest) = cond check.0 (Some check.1) (first_refusal rest)

-- The error number that refuses the operation on this tree, if one does.
abbrev pub refusal : Tree → FileOperation → Option ℕ
refusal tree operation = first_refusal (checks tree operation)

-- The reply to a LOOKUP: the file of the name, or a missing name that is valid for its own time. (linux/fuse.h, struct
-- fuse_entry_out)
abbrev pub lookup_reply : Validity → Option ℕ → Reply ℕ ℕ
lookup_reply valid None = missing valid.missing_ms
lookup_reply valid (Some file) = found file valid.found_ms

-- The reply to an operation that nothing refuses.
abbrev pub reply_unrefused : Validity → Tree → FileOperation → Reply ℕ ℕ
reply_unrefused valid tree (lookup d name) = lookup_reply valid (file_at tree d name)
reply_unrefused valid tree (getattr file) = attributes (attributes_of tree file)
reply_unrefused valid tree (mkdir d name) = found tree.next_inode valid.found_ms
reply_unrefused valid tree (create d name) = created tree.next_inode valid.found_ms tree.next_inode
reply_unrefused valid tree (unlink d name) = done
reply_unrefused valid tree (rmdir d name) = done
reply_unrefused valid tree (link file d name) = found file valid.found_ms
reply_unrefused valid tree (rename d old e new) = done
reply_unrefused valid tree (readdir d after size) =
    listed (fitting (min size max_transfer) (records_after tree d after))
reply_unrefused valid tree (readdirplus d after size) =
    listed_plus (fitting_pairs (min size max_transfer) (pairs_after valid.found_ms tree d after))
reply_unrefused valid tree (opening file) = opened file
reply_unrefused valid tree (read file offset size) =
    content (take (min size max_transfer) (drop offset (file_bytes (get tree.files file))))
reply_unrefused valid tree (write file offset bytes) = written (length bytes)

-- The tree once a file is moved: its old name goes, a name that it replaces goes, and its new name comes. (POSIX,
-- rename)
abbrev pub renamed : Tree → ℕ → Name → ℕ → Name → Option ℕ → Tree
renamed tree d old e new None = tree
renamed tree d old e new (Some file) = with_name (without_name (without_name tree d old) e new) e new file

-- The tree after an operation that nothing refuses; a rename onto another name of the same file changes nothing. (this
-- project's rule)
abbrev pub tree_unrefused : Tree → FileOperation → Tree
tree_unrefused tree (mkdir d name) = with_inode tree d name a_directory
tree_unrefused tree (create d name) = with_inode tree d name (a_file [])
tree_unrefused tree (unlink d name) = without_name tree d name
tree_unrefused tree (rmdir d name) = without_name tree d name
tree_unrefused tree (link file d name) = with_name tree d name file
tree_unrefused tree (rename d old e new) = cond (is_same (file_at tree d old) (file_at tree e new)) tree
    (renamed tree d old e new (file_at tree d old))
tree_unrefused tree (write file offset []) = tree
tree_unrefused tree (write file offset (b ∷ bytes)) =
    record tree {
      files = put tree.files file (a_file
          (overwritten (file_bytes (get tree.files file)) offset (b ∷ bytes)));
    }
tree_unrefused tree (lookup d name) = tree
tree_unrefused tree (getattr file) = tree
tree_unrefused tree (readdir d after size) = tree
tree_unrefused tree (readdirplus d after size) = tree
tree_unrefused tree (opening file) = tree
tree_unrefused tree (read file offset size) = tree

-- The next two keep what an unrefused operation gives, or put an error in place of its reply and the old tree in place
-- of the new one.
abbrev pub reply_or : Reply ℕ ℕ → Option ℕ → Reply ℕ ℕ
reply_or reply None = reply
reply_or reply (Some errno) = failed errno

abbrev pub tree_or : Tree → Tree → Option ℕ → Tree
tree_or old new None = new
tree_or old new (Some errno) = old

-- The reply of the tree to an operation: the error of the first check that refuses it, or what the operation gives.
abbrev pub reply_by : Validity → Tree → FileOperation → Reply ℕ ℕ
reply_by valid tree operation = reply_or (reply_unrefused valid tree operation) (refusal tree operation)

-- The tree after an operation; a refused one changes nothing.
abbrev pub tree_after : Tree → FileOperation → Tree
tree_after tree operation = tree_or tree (tree_unrefused tree operation) (refusal tree operation)
