-- What a call of the tree answers, said with the operations of `fuse_spec`.
use Rattle.std.specs.Prelude.{◌≡◌, ℕ, Bool, true, false, ◌&&◌, ◌||◌, List, [], ◌∷◌, not, filter, Option, Some, None, Result, MatchResult, cond}
use Rattle.fuse_spec.specs.declared.Validity.{Validity}
use Rattle.fuse_spec.specs.declared.Kind.{Kind}
use Rattle.fuse_spec.specs.declared.Kind.TheVariants.{Directory, Regular, Other}
use Rattle.fuse_spec.specs.Values.Numbers.{eperm, enoent, eexist, enotdir, eisdir, einval, efbig, enospc, enotempty}
use Rattle.fuse_spec.specs.Values.Maps.{get, remove}
use Rattle.fuse_spec.specs.Files.Operations.{Reply, unlink, rmdir, rename}
use Rattle.fuse_spec.specs.Files.Trees.{Tree, a_directory, file_at, kind_of, is_nameless}
use Rattle.fuse_spec.specs.Files.FileOperations.{FileOperation, Check, is_dir, is_file, is_filled, refusal, reply_unrefused}
use Rattle.fs_tree.specs.declared.error.TreeError.{TreeError}
use Rattle.fs_tree.specs.declared.error.TreeError.TheVariants.{NotPermitted, NotFound, NoMemory, AlreadyExists, NotADirectory, IsADirectory, Invalid, FileTooLarge, NoSpace, NotEmpty}

-- The error's number in errno.h.
abbrev pub tree_errno : TreeError → ℕ
tree_errno NotPermitted = eperm
tree_errno NotFound = enoent
tree_errno NoMemory = 12
tree_errno AlreadyExists = eexist
tree_errno NotADirectory = enotdir
tree_errno IsADirectory = eisdir
tree_errno Invalid = einval
tree_errno FileTooLarge = efbig
tree_errno NoSpace = enospc
tree_errno NotEmpty = enotempty

-- The refusal of an error. Out of memory comes only where nothing refuses.
abbrev pub tree_refusal_in : TreeError → Option ℕ
tree_refusal_in NotPermitted = Some eperm
tree_refusal_in NotFound = Some enoent
tree_refusal_in NoMemory = None
tree_refusal_in AlreadyExists = Some eexist
tree_refusal_in NotADirectory = Some enotdir
tree_refusal_in IsADirectory = Some eisdir
tree_refusal_in Invalid = Some einval
tree_refusal_in FileTooLarge = Some efbig
tree_refusal_in NoSpace = Some enospc
tree_refusal_in NotEmpty = Some enotempty

-- What a test for a refusal answers: an error is the first refusal.
abbrev pub RefusesWith : {T : Type 0} → Option ℕ → Result T TreeError → Type 0
RefusesWith first result = MatchResult result (λ _. first ≡ None)
    (λ e. (first ≡ tree_refusal_in e) × (first ≡ Some (tree_errno e)))

-- The call was refused with this error: the first refusal of the operation, or out of memory where there is none.
abbrev pub IsOperationRefused : Tree → FileOperation → TreeError → Type 0
IsOperationRefused tree operation error = refusal tree operation ≡ tree_refusal_in error

-- The same of a call that takes no memory.
abbrev pub IsRefusedBy : Tree → FileOperation → TreeError → Type 0
IsRefusedBy tree operation error = refusal tree operation ≡ Some (tree_errno error)

-- Nothing refuses the operation, and this is its reply.
abbrev pub IsOperationReply : Tree → FileOperation → Reply ℕ ℕ → Type 0
IsOperationReply tree operation reply = (refusal tree operation ≡ None)
    × ((valid : Validity) → reply_unrefused valid tree operation ≡ reply)

-- The tree with the root alone.
abbrev pub only_root : Tree
only_root = record { files = (0, a_directory) ∷ []; names = []; next_inode = 1; next_cookie = 1 }

abbrev pub is_kind_regular : Kind → Bool
is_kind_regular Directory = false
is_kind_regular Regular = true
is_kind_regular Other = false

abbrev pub is_regular : Tree → ℕ → Bool
is_regular tree file = is_kind_regular (kind_of (get tree.files file))

-- The tree without this file, if it is nameless.
abbrev pub discarded : Tree → ℕ → Tree
discarded tree file = record tree { files = cond (is_nameless tree file) (remove tree.files file) tree.files }

-- The tree without its nameless files.
abbrev pub without_nameless : Tree → Tree
without_nameless tree = record tree { files = filter (λ e. not (is_nameless tree e.0)) tree.files }

-- The tree without its nameless files that aren't held.
abbrev pub without_unheld : (ℕ → Bool) → Tree → Tree
without_unheld holds tree = record tree { files = filter (λ e. not (is_nameless tree e.0) || holds e.0) tree.files }

-- The file from which an operation takes a name for good: that of the name by UNLINK and RMDIR, and one that is
-- replaced by RENAME.
abbrev pub unlinked_by : Tree → FileOperation → Option ℕ
unlinked_by tree (unlink d name) = file_at tree d name
unlinked_by tree (rmdir d name) = file_at tree d name
unlinked_by tree (rename d old e new) = file_at tree e new
unlinked_by tree operation = None

-- What refuses to replace a file by another one.
abbrev pub replacing : Tree → Option ℕ → Option ℕ → List Check
replacing tree moved there =
    (is_dir tree moved && is_file tree there, enotdir) ∷ (is_file tree moved && is_dir tree there, eisdir) ∷
    (is_filled tree there, enotempty) ∷ []
