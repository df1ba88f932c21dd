-- How a call begins: which fault answers it at once, or where it sets out to.
use Rattle.std.specs.Prelude.{ℕ, ◌||◌, cond, List, Option, Some, None, Ok, Err, length, nat_lt}
use Rattle.fuse_spec.specs.Values.Maps.{Map, get}
use Rattle.fuse_spec.specs.Values.Numbers.{ebadf, einval, max_file, max_transfer}
use Rattle.fuse_spec.specs.Calls.Paths.{Name, path_words_of, parent_and_last}
use Rattle.fuse_spec.specs.Files.Operations.{Operation}
use Rattle.fuse_spec.specs.Files.Operations as op
use Rattle.fuse_spec.specs.Calls.Walks.{WalkPlan, last, rename, link}
use Rattle.fuse_spec.specs.Calls.Calls.{Call}
use Rattle.fuse_spec.specs.Calls.Calls as call

-- How a call begins: an error at once, a walk along words, an operation on an open file, or a close. (Linux VFS)
pub data Beginning (F O : Type 0) : Type 0 where
  faulty : (errno : ℕ) → Beginning F O
  sets_out : (words : List Name) (plan : WalkPlan F) → Beginning F O
  uses : (open_call : ℕ) (operation : Operation F O) → Beginning F O
  closes : (open_call : ℕ) (opened : O) → Beginning F O

-- A path whose words are all walked, or its fault.
abbrev pub whole_path : {F O : Type 0} → List ℕ → (List Name → Beginning F O) → Beginning F O
whole_path path then = elim (path_words_of path) [ Err fault ↦ faulty fault | Ok words ↦ then words ]

-- A path that is walked up to its last word, which it must have: `/` alone is EINVAL. (this project's rule)
abbrev pub parent_path : {F O : Type 0} → List ℕ → (List Name → Name → Beginning F O) → Beginning F O
parent_path path then = whole_path path (λ words. elim
    (parent_and_last words) [ None ↦ faulty einval | Some parts ↦ then parts.0 parts.1 ])

-- A read or write of an open file: EBADF for a number that isn't open, and EINVAL past the largest offset or length.
-- (this project's rule)
abbrev pub using : {F O : Type 0} → ℕ → Option O → (offset size : ℕ) → (O → Operation F O) → Beginning F O
using open_call None offset size then = faulty ebadf
using open_call (Some opened) offset size then = cond (nat_lt max_file offset || nat_lt max_transfer size) (faulty einval)
    (uses open_call (then opened))

-- A close of an open file, or EBADF. (POSIX, close)
abbrev pub closing : {F O : Type 0} → ℕ → Option O → Beginning F O
closing open_call None = faulty ebadf
closing open_call (Some opened) = closes open_call opened

-- How each call begins; of two paths the first is judged first. (this project's rule)
abbrev pub beginning : {F O : Type 0} → Map O → Call → Beginning F O
beginning opens (call.stat path) = whole_path path (λ words. sets_out words (last (op.getattr None)))
beginning opens (call.list path after) =
    whole_path path (λ words. sets_out words (last (op.readdir None after max_transfer)))
beginning opens (call.listplus path after) =
    whole_path path (λ words. sets_out words (last (op.readdirplus None after max_transfer)))
beginning opens (call.opening path) = whole_path path (λ words. sets_out words (last (op.opening None)))
beginning opens (call.mkdir path) = parent_path path (λ words name. sets_out words (last (op.mkdir None name)))
beginning opens (call.create path) = parent_path path (λ words name. sets_out words (last (op.create None name)))
beginning opens (call.unlink path) = parent_path path (λ words name. sets_out words (last (op.unlink None name)))
beginning opens (call.rmdir path) = parent_path path (λ words name. sets_out words (last (op.rmdir None name)))
beginning opens (call.rename old new) = parent_path old
    (λ words from. parent_path new (λ more to. sets_out words (rename from more to)))
beginning opens (call.link old new) = whole_path old
    (λ words. parent_path new (λ more name. sets_out words (link more name)))
beginning opens (call.read open_call offset size) =
    using open_call (get opens open_call) offset size (λ opened. op.read opened offset size)
beginning opens (call.write open_call offset bytes) =
    using open_call (get opens open_call) offset (length bytes) (λ opened. op.write opened offset bytes)
beginning opens (call.close open_call) = closing open_call (get opens open_call)
