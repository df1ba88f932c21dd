-- What travels between the kernel and the server.
use Rattle.std.specs.Prelude.{ℕ, List}
use Rattle.fuse_spec.specs.declared.Opened.{Opened}
use Rattle.fuse_spec.specs.declared.Entry.{Entry}
use Rattle.fuse_spec.specs.Files.Operations.{Operation, Reply}

-- A node, and how many lookups of it are given back. (linux/fuse.h, struct fuse_forget_one)
abbrev pub Forget : Type 0
Forget = ℕ × ℕ

-- What a request asks, by its opcode: INIT with the flags that it offers, an operation, RELEASE, FORGET, BATCH_FORGET
-- or INTERRUPT. (linux/fuse.h, enum fuse_opcode)
pub data RequestBody : Type 0 where
  init : (flags : ℕ) → RequestBody
  asks : (operation : Operation ℕ Opened) → RequestBody
  release : (opened : Opened) → RequestBody
  forget : (forget : Forget) → RequestBody
  batch_forget : (forgets : List Forget) → RequestBody
  interrupt : (original : ℕ) → RequestBody

-- A request: its unique, and what it asks. (linux/fuse.h, struct fuse_in_header)
pub record Request : Type 0 where
  pub unique : ℕ
  pub body : RequestBody

-- What a reply says: files are named by entries, open files by their numbers. (linux/fuse.h, struct fuse_out_header)
abbrev pub WireReply : Type 0
WireReply = Reply Entry ℕ
