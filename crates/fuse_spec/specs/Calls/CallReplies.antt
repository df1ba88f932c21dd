-- A reply reaches the call that asked: names come into force or leave it, files are open, the call is answered or walks
-- on.
use Rattle.std.specs.Prelude.{ℕ, ◌+◌, List, [], ◌∷◌, Option, Some, None, map}
use Rattle.fuse_spec.specs.declared.Dentry.{Dentry}
use Rattle.fuse_spec.specs.Values.Maps.{NameMap, put_name}
use Rattle.fuse_spec.specs.Values.Numbers.{enoent, eio}
use Rattle.fuse_spec.specs.Files.Operations.{Operation, getattr, mkdir, create, unlink, rmdir, rename, link, opening, readdir, readdirplus, read, write, DirentPlus, listed_by, Reply, found, missing, created, opened, attributes, listed, listed_plus, content, written, done, failed}
use Rattle.fuse_spec.specs.Calls.Answers as answer
use Rattle.fuse_spec.specs.Calls.Vfs.{CallState, walking, doing, using, Vfs, Advance, no_more, answered, bound, unbound, opened_by, walks_on}

-- The next three cache the names of a list, in order, each that has its file. (linux/fuse.h, struct
-- fuse_direntplus)
abbrev pub name_listed : (now directory : ℕ) → NameMap Dentry → DirentPlus ℕ → Option ℕ → NameMap Dentry
name_listed now directory names pair None = names
name_listed now directory names pair (Some file) =
    put_name names (directory, pair.dirent.name) (record { target = Some file; until = now + pair.valid })

abbrev pub names_listed : (now directory : ℕ) → NameMap Dentry → List (DirentPlus ℕ) → NameMap Dentry
names_listed now directory names [] = names
names_listed now directory names (pair ∷ pairs) = names_listed now directory
    (name_listed now directory names pair (listed_by pair)) pairs

abbrev pub all_bound : {O : Type 0} → Vfs O → (directory : ℕ) → List (DirentPlus ℕ) → Vfs O
all_bound c directory pairs = record c { names = names_listed c.clock directory c.names pairs }

-- The reply to the call's own operation answers the call and caches names or removes them; what doesn't go
-- with the operation is EIO. (Linux VFS)
abbrev pub operation_replied : {O : Type 0} → Vfs O → ℕ → Operation ℕ O → Reply ℕ O → Vfs O
operation_replied c call operation (failed errno) = answered c call (answer.failed errno)
operation_replied c call (getattr file) (attributes a) = answered c call (answer.attributes a)
operation_replied c call (mkdir d name) (found file valid) =
    answered (bound c d name (Some file) valid) call answer.done
operation_replied c call (create d name) (created file valid o) =
    answered (opened_by (bound c d name (Some file) valid) call o) call answer.done
operation_replied c call (link linked d name) (found file valid) =
    answered (bound c d name (Some file) valid) call answer.done
operation_replied c call (unlink d name) done = answered (unbound c d name) call answer.done
operation_replied c call (rmdir d name) done = answered (unbound c d name) call answer.done
operation_replied c call (rename d old e new) done = answered (unbound (unbound c d old) e new) call answer.done
operation_replied c call (opening file) (opened o) = answered (opened_by c call o) call answer.done
operation_replied c call (readdir d after size) (listed records) = answered c call (answer.listing records)
operation_replied c call (readdirplus d after size) (listed_plus pairs) =
    answered (all_bound c d pairs) call (answer.listing (map (λ pair. pair.dirent) pairs))
operation_replied c call (read o offset size) (content bytes) = answered c call (answer.content bytes)
operation_replied c call (write o offset bytes) (written size) = answered c call (answer.written size)
operation_replied c call operation reply = answered c call (answer.failed eio)

-- The reply to what the call, which stands here, has asked: after a LOOKUP the call walks on, or is answered that the
-- name is missing. (Linux VFS)
abbrev pub call_replied : {O : Type 0} → Vfs O → ℕ → CallState O → Reply ℕ O → Advance O
call_replied c call (walking d word words plan) (found file valid) =
    walks_on (bound c d word (Some file) valid) call file words plan
call_replied c call (walking d word words plan) (missing valid) =
    no_more (answered (bound c d word None valid) call (answer.failed enoent))
call_replied c call (walking d word words plan) (failed errno) = no_more (answered c call (answer.failed errno))
call_replied c call (walking d word words plan) reply = no_more (answered c call (answer.failed eio))
call_replied c call (doing operation) reply = no_more (operation_replied c call operation reply)
call_replied c call (using open_call operation) reply = no_more (operation_replied c call operation reply)
