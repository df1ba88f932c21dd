-- What the codec of eighteen opcodes reads, the reader of the table reads too, and says the same of it.
use Rattle.std.specs.Prelude.{◌≡◌, ◌≤◌, ◌/◌, ℕ, true, false, List, [], ◌∷◌, length, Option, Some, None}
use Rattle.fk_wire.specs.Opcodes.{has_node}
use Rattle.fk_wire.specs.Requests.{RequestContent, lookup, forget, getattr, mkdir, unlink, rmdir, rename, link, opening, read, write, release, init, readdir, readdirplus, create, interrupt, batch_forget, opcode_of}
use Rattle.fk_wire.specs.Requests.{RequestMessage as CodecMessage}
use Rattle.fuse_protocol.specs.declared.agreed.Agreed.{Agreed}
use Rattle.fuse_protocol.specs.declared.opcode.Opcode.{Opcode}
use Rattle.fuse_protocol.specs.declared.opcode.Opcode.TheVariants as op
use Rattle.fuse_protocol.specs.Pairs.{pairs_from}
use Rattle.fuse_protocol.specs.Table.{row_at}
use Rattle.fuse_protocol.specs.Requests.{IsRequest, RequestMessage}

-- An agreement under which the codec's frames may come: names of 255 bytes, CREATE with its umask, and no extensions.
pub record Carries (agreed : Agreed) : Type 0 where
  pub from_umask : 12 ≤ agreed.minor
  pub no_extensions : agreed.has_extensions ≡ false
  pub names : 255 ≤ agreed.max_name

-- the table's opcode of what the codec reads
abbrev pub opcode_in : RequestContent → Opcode
opcode_in (lookup name) = op.Lookup
opcode_in (forget nlookup) = op.Forget
opcode_in getattr = op.Getattr
opcode_in (mkdir name) = op.Mkdir
opcode_in (unlink name) = op.Unlink
opcode_in (rmdir name) = op.Rmdir
opcode_in (rename newdir old new) = op.Rename
opcode_in (link oldnodeid name) = op.Link
opcode_in opening = op.Open
opcode_in (read fh offset size) = op.Read
opcode_in (write fh offset bytes) = op.Write
opcode_in (release fh) = op.Release
opcode_in (init major minor flags) = op.Init
opcode_in (readdir offset size) = op.Readdir
opcode_in (readdirplus offset size) = op.Readdirplus
opcode_in (create name) = op.Create
opcode_in (interrupt unique) = op.Interrupt
opcode_in (batch_forget forgets) = op.BatchForget

-- its names
abbrev pub names_in : RequestContent → List (List ℕ)
names_in (lookup name) = name ∷ []
names_in (mkdir name) = name ∷ []
names_in (unlink name) = name ∷ []
names_in (rmdir name) = name ∷ []
names_in (rename newdir old new) = old ∷ new ∷ []
names_in (link oldnodeid name) = name ∷ []
names_in (create name) = name ∷ []
names_in _ = []

-- the further node: RENAME's new directory, LINK's old node
abbrev pub further_in : RequestContent → Option ℕ
further_in (rename newdir old new) = Some newdir
further_in (link oldnodeid name) = Some oldnodeid
further_in _ = None

-- What stands behind the names: the bytes of a WRITE, the pairs of a BATCH_FORGET, and else nothing.
abbrev pub IsTailOf : RequestContent → List ℕ → Type 0
IsTailOf (write fh offset bytes) tail = tail ≡ bytes
IsTailOf (batch_forget forgets) tail = pairs_from (length tail / 16) 0 tail ≡ forgets
IsTailOf content tail = tail ≡ []

-- Both say the same: the number, the names, the data or the pairs, and the nodes. Of INIT, INTERRUPT and BATCH_FORGET,
-- which are about no node, the codec says 0, and the table what stands there.
pub record AreAlike (codec : CodecMessage) (o : Opcode) (r : RequestMessage) : Type 0 where
  pub opcode : o ≡ opcode_in codec.content
  pub unique : r.unique ≡ codec.unique
  pub nodeid : has_node (opcode_of codec.content) ≡ true → r.nodeid ≡ codec.nodeid
  pub further : r.node ≡ further_in codec.content
  pub names : r.names ≡ names_in codec.content
  pub tail : IsTailOf codec.content r.tail

-- A frame of the codec's request is a request of the table's row that says the same.
abbrev pub IsReadAlike : Agreed → List ℕ → CodecMessage → Type 0
IsReadAlike agreed bytes m = (r : RequestMessage) × IsRequest agreed bytes (row_at (opcode_in m.content)) r
    × AreAlike m (opcode_in m.content) r
