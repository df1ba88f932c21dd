-- The answers of system calls.
use Rattle.std.specs.Prelude.{ℕ, List}
use Rattle.fuse_spec.specs.declared.Attributes.{Attributes}
use Rattle.fuse_spec.specs.Files.Operations.{Dirent}

-- What a system call is answered: attributes, the names of a directory, bytes, a size, that it is done, or an error.
-- (Linux VFS)
pub data Answer : Type 0 where
  attributes : (attributes : Attributes) → Answer
  listing : (records : List Dirent) → Answer
  content : (bytes : List ℕ) → Answer
  written : (size : ℕ) → Answer
  done : Answer
  failed : (errno : ℕ) → Answer
