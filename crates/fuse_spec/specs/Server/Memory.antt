-- What takes memory at the server. (this project's rule)
use Rattle.std.specs.Prelude.{Bool, true, false, ◌&&◌, ◌||◌, not, Option, Some, None}
use Rattle.fuse_spec.specs.declared.Taken.{Taken}
use Rattle.fuse_spec.specs.declared.Taken.TheVariants.{Held, Forgot, Marked, Ignored, Again}
use Rattle.fuse_spec.specs.Files.Operations.{Operation, lookup, getattr, unlink, rmdir, opening}
use Rattle.fuse_spec.specs.Kernel.Messages.{RequestBody, asks}
use Rattle.fuse_spec.specs.Server.Server.{Server, HeldRequest}

-- A request that is taken with this word: what is held does, and what is answered at once.
abbrev pub word_takes_memory : Taken → Bool
word_takes_memory Held = true
word_takes_memory Again = true
word_takes_memory Forgot = false
word_takes_memory Marked = false
word_takes_memory Ignored = false

-- An operation on the tree: one that makes or lists names does, and one that reads or writes bytes.
abbrev pub operation_takes_memory : {F O : Type 0} → Operation F O → Bool
operation_takes_memory (lookup directory name) = false
operation_takes_memory (getattr file) = false
operation_takes_memory (unlink directory name) = false
operation_takes_memory (rmdir directory name) = false
operation_takes_memory (opening file) = false
operation_takes_memory operation = true

-- What a request asks, its reply aside.
abbrev pub body_takes_memory : RequestBody → Bool
body_takes_memory (asks operation) = operation_takes_memory operation
body_takes_memory body = false

-- A held request, its reply aside: one that an INTERRUPT marked is not done.
abbrev pub held_takes_memory : HeldRequest → Bool
held_takes_memory held = not held.marked && body_takes_memory held.body

-- Performing a held request: its reply does, and after an abort, when none is sent, what it asks.
abbrev pub performing_takes_memory : Server → Option HeldRequest → Bool
performing_takes_memory s None = false
performing_takes_memory s (Some held) = not s.aborted || held_takes_memory held
