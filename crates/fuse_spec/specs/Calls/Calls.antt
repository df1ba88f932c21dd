-- The system calls.
use Rattle.std.specs.Prelude.{ℕ, Bool, true, false, List}
use Rattle.fuse_spec.specs.declared.Minor.{Minor}
use Rattle.fuse_spec.specs.declared.Minor.TheVariants.{M15, M31}

-- The system calls, as their callers put them; an open file is known by the number of the call that opened it. (this
-- project's rule)
pub data Call : Type 0 where
  stat : (path : List ℕ) → Call
  list : (path : List ℕ) (after : ℕ) → Call
  listplus : (path : List ℕ) (after : ℕ) → Call
  mkdir : (path : List ℕ) → Call
  create : (path : List ℕ) → Call
  opening : (path : List ℕ) → Call
  read : (open_call offset size : ℕ) → Call
  write : (open_call offset : ℕ) (bytes : List ℕ) → Call
  close : (open_call : ℕ) → Call
  unlink : (path : List ℕ) → Call
  rmdir : (path : List ℕ) → Call
  rename : (old new : List ℕ) → Call
  link : (old new : List ℕ) → Call

-- A call as it is put: where files may not be listed with their names, the names are listed alone. (this project's
-- rule)
abbrev pub for_minor : (lists_files : Bool) → Call → Call
for_minor true call = call
for_minor false (listplus path after) = list path after
for_minor false call = call

-- Whether files are listed with their names at this minor. (linux/fuse.h, FUSE_READDIRPLUS)
abbrev pub lists_files_at : Minor → Bool
lists_files_at M15 = false
lists_files_at M31 = true
