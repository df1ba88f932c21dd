-- The side of the system calls, which the kernel and the plain world keep alike: the calls, the cached names and the
-- open files. A file is known by a number (the kernel's node id, the plain world's inode), an open file as O says.
use Rattle.std.specs.Prelude.{ℕ, ◌+◌, Bool, cond, List, [], ◌∷◌, Option, Some, None, nat_lt}
use Rattle.fuse_spec.specs.declared.Dentry.{Dentry}
use Rattle.fuse_spec.specs.Values.Maps.{Map, put, remove, NameMap, get_name, put_name, remove_name}
use Rattle.fuse_spec.specs.Values.Numbers.{enoent, econnaborted, enotconn}
use Rattle.fuse_spec.specs.Calls.Paths.{Name}
use Rattle.fuse_spec.specs.Files.Operations.{Operation, lookup}
use Rattle.fuse_spec.specs.Calls.Walks.{WalkPlan, Walked, looks_up, finds_none, asks, walk}
use Rattle.fuse_spec.specs.Calls.Calls.{Call}
use Rattle.fuse_spec.specs.Calls.Answers.{Answer, done, failed}
use Rattle.fuse_spec.specs.Calls.Begins.{Beginning, faulty, sets_out, uses, closes, beginning}

-- What an unanswered call waits for: a word of its path, its operation, or its operation on an open file. (Linux VFS)
pub data CallState (O : Type 0) : Type 0 where
  walking : (directory : ℕ) (word : Name) (words : List Name) (plan : WalkPlan ℕ) → CallState O
  doing : (operation : Operation ℕ O) → CallState O
  using : (open_call : ℕ) (operation : Operation ℕ O) → CallState O

-- The operation that an unanswered call has asked; for a word of its path it is LOOKUP. (Linux VFS)
abbrev pub asked : {O : Type 0} → CallState O → Operation ℕ O
asked (walking directory word words plan) = lookup directory word
asked (doing operation) = operation
asked (using open_call operation) = operation

-- The unanswered calls, the cached names, the open files by the numbers of the calls that opened them, the answers
-- that are not yet collected, the next call's number, the time in milliseconds, and how the root is named.
pub record Vfs (O : Type 0) : Type 0 where
  pub calls : Map (CallState O)
  pub names : NameMap Dentry
  pub opens : Map O
  pub answers : Map Answer
  pub next_call : ℕ
  pub clock : ℕ
  pub root : ℕ

-- Where a step leaves this side, and the operation that it asks, if it does.
pub record Advance (O : Type 0) : Type 0 where
  pub vfs : Vfs O
  pub operation : Option (Operation ℕ O)

-- A step after which the call asks nothing.
abbrev pub no_more : {O : Type 0} → Vfs O → Advance O
no_more c = record { vfs = c; operation = None }

-- The call is answered: it waits no longer, and its answer is there to be collected.
abbrev pub answered : {O : Type 0} → Vfs O → ℕ → Answer → Vfs O
answered c call answer = record c { calls = remove c.calls call; answers = put c.answers call answer }

-- The call waits for what it asks. (Linux VFS)
abbrev pub asking : {O : Type 0} → Vfs O → ℕ → CallState O → Advance O
asking c call state = record { vfs = record c { calls = put c.calls call state }; operation = Some (asked state) }

-- What a cached name leads to while the time is before its end; after that it has to be looked up anew.
-- (linux/fuse.h, struct fuse_entry_out)
abbrev pub valid_at : ℕ → Option Dentry → Option (Option ℕ)
valid_at now None = None
valid_at now (Some bound) = cond (nat_lt now bound.until) (Some bound.target) None

-- What a valid cached name leads to, if there is one. (Linux VFS)
abbrev pub look : {O : Type 0} → Vfs O → ℕ → Name → Option (Option ℕ)
look c directory name = valid_at c.clock (get_name c.names (directory, name))

-- The name leads to this file, or to none, for this many milliseconds from now on. (linux/fuse.h, struct
-- fuse_entry_out)
abbrev pub bound : {O : Type 0} → Vfs O → ℕ → Name → Option ℕ → ℕ → Vfs O
bound c directory name target valid = record c {
  names =
      put_name c.names (directory, name) (record { target = target; until = c.clock + valid });
}

-- The name is cached no longer. (Linux VFS)
abbrev pub unbound : {O : Type 0} → Vfs O → ℕ → Name → Vfs O
unbound c directory name = record c { names = remove_name c.names (directory, name) }

-- The open file that the call opened, known by the call's number. (this project's rule)
abbrev pub opened_by : {O : Type 0} → Vfs O → ℕ → O → Vfs O
opened_by c call opened = record c { opens = put c.opens call opened }

-- Where a walk leaves the call: it waits for a LOOKUP, is answered ENOENT, or waits for its operation. (Linux VFS)
abbrev pub after_walk : {O : Type 0} → Vfs O → ℕ → Walked ℕ O → Advance O
after_walk c call (looks_up directory word words plan) = asking c call (walking directory word words plan)
after_walk c call finds_none = no_more (answered c call (failed enoent))
after_walk c call (asks operation) = asking c call (doing operation)

-- The call walks on from a file along these words. (Linux VFS)
abbrev pub walks_on : {O : Type 0} → Vfs O → ℕ → ℕ → List Name → WalkPlan ℕ → Advance O
walks_on c call file words plan = after_walk c call (walk (look c) c.root file words plan)

-- Where its beginning leaves the call; a close is answered at once, and its number is open no longer. (Linux VFS)
abbrev pub after_beginning : {O : Type 0} → Vfs O → ℕ → Beginning ℕ O → Advance O
after_beginning c call (faulty errno) = no_more (answered c call (failed errno))
after_beginning c call (sets_out words plan) = walks_on c call c.root words plan
after_beginning c call (uses open_call operation) = asking c call (using open_call operation)
after_beginning c call (closes open_call opened) = no_more
    (answered (record c { opens = remove c.opens open_call }) call done)

-- The next call's number is allocated.
abbrev pub numbered : {O : Type 0} → Vfs O → Vfs O
numbered c = record c { next_call = c.next_call + 1 }

-- A call of the next number begins; once the mount is aborted it is answered ENOTCONN. (Linux VFS)
abbrev pub begun : {O : Type 0} → Bool → Vfs O → Call → Advance O
begun aborted c call =
    cond aborted (no_more (answered (numbered c) c.next_call (failed enotconn)))
    (after_beginning (numbered c) c.next_call (beginning c.opens call))

-- The answers once each of these calls has this one.
abbrev pub all_answered : {X : Type 0} → Answer → Map X → Map Answer → Map Answer
all_answered answer [] answers = answers
all_answered answer (call ∷ calls) answers = put (all_answered answer calls answers) call.0 answer

-- Every unanswered call is answered ECONNABORTED, and no name and no open file is left. (fuse.rst)
abbrev pub abandoned : {O : Type 0} → Vfs O → Vfs O
abandoned c = record c {
  calls = [];
  names = [];
  opens = [];
  answers = all_answered (failed econnaborted) c.calls c.answers;
}

-- The calls this many milliseconds later.
abbrev pub later : {O : Type 0} → Vfs O → ℕ → Vfs O
later c ms = record c { clock = c.clock + ms }
