-- The requests, field by field, as the structs of linux/fuse.h have them, and what the bytes of a frame ask.
use Rattle.std.specs.Prelude.{◌≡◌, ◌≤◌, IsTrue, ℕ, Bool, true, false, ◌+◌, ◌-◌, ◌==◌, if◌then◌else◌}
use Rattle.std.specs.Prelude.{List, [], ◌∷◌, ◌++◌, length, take, drop}
use Rattle.std.specs.List.{before_first}
use Rattle.std.specs.Int.RustNames.{bit_and}
use Rattle.fk_wire.specs.declared.opcode.Opcode.{Opcode}
use Rattle.fk_wire.specs.declared.opcode.Opcode.TheVariants as op
use Rattle.fk_wire.specs.declared.request.RequestBody.{RequestBody}
use Rattle.fk_wire.specs.declared.request.RequestBody.TheVariants as view
use Rattle.fk_wire.specs.declared.request.Request.{Request}
use Rattle.fk_wire.specs.declared.opcode.Minor.{Minor}
use Rattle.fk_wire.specs.Opcodes.{code_of, minor_knows, latest_minor, has_node, opcode_from}
use Rattle.fk_wire.specs.Pairs.{pairs_in, pairs_from, forget_ones}
use Rattle.fk_wire.specs.Fields.{Field, named, raw, u32, u64, free32, free64, bits, number_at, bytes_at}
use Rattle.fk_wire.specs.Fields.{ReadsAs, InRange, HaveNames, spellings}

-- ASYNC_READ, DO_READDIRPLUS and PARALLEL_DIROPS
abbrev pub known_flags : ℕ
known_flags = 0x42001

-- what a request asks
pub data RequestContent : Type 0 where
  lookup : (name : List ℕ) → RequestContent
  forget : (nlookup : ℕ) → RequestContent
  getattr : RequestContent
  mkdir : (name : List ℕ) → RequestContent
  unlink : (name : List ℕ) → RequestContent
  rmdir : (name : List ℕ) → RequestContent
  rename : (newdir : ℕ) (old new : List ℕ) → RequestContent
  link : (oldnodeid : ℕ) (name : List ℕ) → RequestContent
  opening : RequestContent
  read : (fh offset size : ℕ) → RequestContent
  write : (fh offset : ℕ) (bytes : List ℕ) → RequestContent
  release : (fh : ℕ) → RequestContent
  init : (major minor flags : ℕ) → RequestContent
  readdir : (offset size : ℕ) → RequestContent
  readdirplus : (offset size : ℕ) → RequestContent
  create : (name : List ℕ) → RequestContent
  interrupt : (unique : ℕ) → RequestContent
  batch_forget : (forgets : List (ℕ × ℕ)) → RequestContent

pub record RequestMessage : Type 0 where
  pub unique : ℕ
  pub nodeid : ℕ
  pub content : RequestContent

abbrev pub request_content : RequestBody → RequestContent
request_content (view.Lookup name) = lookup name.now
request_content (view.Forget n) = forget n
request_content view.Getattr = getattr
request_content (view.Mkdir name) = mkdir name.now
request_content (view.Unlink name) = unlink name.now
request_content (view.Rmdir name) = rmdir name.now
request_content (view.Rename newdir old new) = rename newdir old.now new.now
request_content (view.Link oldnodeid name) = link oldnodeid name.now
request_content view.Open = opening
request_content (view.Read fh offset size) = read fh offset size
request_content (view.Write fh offset bytes) = write fh offset bytes.now
request_content (view.Release fh) = release fh
request_content (view.Init major minor flags) = init major minor (bit_and flags.0 known_flags)
request_content (view.Readdir offset size) = readdir offset size
request_content (view.Readdirplus offset size) = readdirplus offset size
request_content (view.Create name) = create name.now
request_content (view.Interrupt unique) = interrupt unique
request_content (view.BatchForget pairs) = batch_forget (pairs_in pairs)

-- what a request says, without where its names lie in memory
abbrev pub request_message : Request → RequestMessage
request_message r = record { unique = r.unique; nodeid = r.nodeid; content = request_content r.body }

-- the opcodes, and their numbers
abbrev pub opcode_of : RequestContent → Opcode
opcode_of (lookup name) = op.Lookup
opcode_of (forget n) = op.Forget
opcode_of getattr = op.Getattr
opcode_of (mkdir name) = op.Mkdir
opcode_of (unlink name) = op.Unlink
opcode_of (rmdir name) = op.Rmdir
opcode_of (rename newdir old new) = op.Rename
opcode_of (link oldnodeid name) = op.Link
opcode_of opening = op.Open
opcode_of (read fh offset size) = op.Read
opcode_of (write fh offset bytes) = op.Write
opcode_of (release fh) = op.Release
opcode_of (init major minor flags) = op.Init
opcode_of (readdir offset size) = op.Readdir
opcode_of (readdirplus offset size) = op.Readdirplus
opcode_of (create name) = op.Create
opcode_of (interrupt unique) = op.Interrupt
opcode_of (batch_forget forgets) = op.BatchForget

-- struct fuse_read_in, fuse_write_in: fh, offset, size, read_flags, lock_owner, flags, padding
abbrev pub range : (fh offset size : ℕ) → List Field
range fh offset size = u64 fh ∷ u64 offset ∷ u32 size ∷ free32 0 ∷ free64 0 ∷ free32 0 ∷ free32 0 ∷ []

-- the same struct under READDIR and READDIRPLUS, where fh is free
abbrev pub list_range : (offset size : ℕ) → List Field
list_range offset size = free64 0 ∷ u64 offset ∷ u32 size ∷ free32 0 ∷ free64 0 ∷ free32 0 ∷ free32 0 ∷ []

abbrev pub request_body : RequestContent → List Field
-- the name alone
request_body (lookup name) = named name ∷ []
-- struct fuse_forget_in: nlookup
request_body (forget nlookup) = u64 nlookup ∷ []
-- struct fuse_getattr_in: getattr_flags, dummy, fh
request_body getattr = free32 0 ∷ free32 0 ∷ free64 0 ∷ []
-- struct fuse_mkdir_in: mode (octal 0755), umask; and the name
request_body (mkdir name) = free32 493 ∷ free32 0 ∷ named name ∷ []
-- the name alone
request_body (unlink name) = named name ∷ []
request_body (rmdir name) = named name ∷ []
-- struct fuse_rename_in: newdir; and the two names
request_body (rename newdir old new) = u64 newdir ∷ named old ∷ named new ∷ []
-- struct fuse_link_in: oldnodeid; and the new name
request_body (link oldnodeid name) = u64 oldnodeid ∷ named name ∷ []
-- struct fuse_open_in: flags, unused
request_body opening = free32 0 ∷ free32 0 ∷ []
-- struct fuse_read_in
request_body (read fh offset size) = range fh offset size
-- struct fuse_write_in; and the bytes
request_body (write fh offset bytes) = range fh offset (length bytes) ++ raw bytes ∷ []
-- struct fuse_release_in: fh, flags, release_flags, lock_owner
request_body (release fh) = u64 fh ∷ free32 0 ∷ free32 0 ∷ free64 0 ∷ []
-- struct fuse_init_in: major, minor, max_readahead, flags
request_body (init major minor flags) = u32 major ∷ u32 minor ∷ free32 0 ∷ bits known_flags flags ∷ []
-- struct fuse_read_in, whose fh is free
request_body (readdir offset size) = list_range offset size
request_body (readdirplus offset size) = list_range offset size
-- struct fuse_create_in: flags, mode (octal 0100644), umask, padding; and the name
request_body (create name) = free32 0 ∷ free32 33188 ∷ free32 0 ∷ free32 0 ∷ named name ∷ []
-- struct fuse_interrupt_in: unique
request_body (interrupt unique) = u64 unique ∷ []
-- struct fuse_batch_forget_in: count, dummy; and the pairs
request_body (batch_forget forgets) = u32 (length forgets) ∷ free32 0 ∷ forget_ones forgets

-- The frame's bytes after its header are this body, of a request of this opcode.
abbrev pub IsBodyOf : Opcode → List ℕ → RequestBody → Type 0
IsBodyOf o bytes body = (opcode_of (request_content body) ≡ o)
    × ReadsAs 40 (request_body (request_content body)) bytes

-- the name from a place to the end of a frame, without its NUL byte
abbrev pub name_from : ℕ → List ℕ → List ℕ
name_from place bytes = take (length bytes - (place + 1)) (drop place bytes)

-- the first of the two names of a RENAME
abbrev pub first_from : List ℕ → List ℕ
first_from bytes = before_first (λ b. b == 0) (drop 48 bytes)

-- what the bytes of a frame under an opcode ask, if they ask anything
abbrev pub request_content_at : Opcode → List ℕ → RequestContent
request_content_at op.Lookup bytes = lookup (name_from 40 bytes)
request_content_at op.Forget bytes = forget (number_at 40 8 bytes)
request_content_at op.Getattr bytes = getattr
request_content_at op.Mkdir bytes = mkdir (name_from 48 bytes)
request_content_at op.Unlink bytes = unlink (name_from 40 bytes)
request_content_at op.Rmdir bytes = rmdir (name_from 40 bytes)
request_content_at op.Rename bytes = let old = first_from bytes in
    rename (number_at 40 8 bytes) old (name_from (48 + (length old + 1)) bytes)
request_content_at op.Link bytes = link (number_at 40 8 bytes) (name_from 48 bytes)
request_content_at op.Open bytes = opening
request_content_at op.Read bytes = read (number_at 40 8 bytes) (number_at 48 8 bytes) (number_at 56 4 bytes)
request_content_at op.Write bytes = write (number_at 40 8 bytes) (number_at 48 8 bytes)
    (bytes_at 80 (number_at 56 4 bytes) bytes)
request_content_at op.Release bytes = release (number_at 40 8 bytes)
request_content_at op.Init bytes = init (number_at 40 4 bytes) (number_at 44 4 bytes)
    (bit_and (number_at 52 4 bytes) known_flags)
request_content_at op.Readdir bytes = readdir (number_at 48 8 bytes) (number_at 56 4 bytes)
request_content_at op.Readdirplus bytes = readdirplus (number_at 48 8 bytes) (number_at 56 4 bytes)
request_content_at op.Create bytes = create (name_from 56 bytes)
request_content_at op.Interrupt bytes = interrupt (number_at 40 8 bytes)
request_content_at op.BatchForget bytes = batch_forget (pairs_from (number_at 40 4 bytes) 48 bytes)

-- The field of the node. It is free where a request is about none.
abbrev pub nodeid_field : Bool → ℕ → Field
nodeid_field true node = u64 node
nodeid_field false node = free64 0

-- A request about no node has 0 in its place.
abbrev pub IsNodeOf : Bool → ℕ → Type 0
IsNodeOf true node = Unit {0}
IsNodeOf false node = node ≡ 0

-- struct fuse_in_header: len, opcode, unique, nodeid, uid, gid, pid, padding
abbrev pub header : (len code unique : ℕ) (nodeid : Field) → List Field
header len code unique nodeid =
    u32 len ∷ u32 code ∷ u64 unique ∷ nodeid ∷ free32 0 ∷ free32 0 ∷ free32 0 ∷ free32 0 ∷ []

-- a frame of this length
abbrev pub request_fields : ℕ → RequestMessage → List Field
request_fields len m = header len (code_of (opcode_of m.content)) m.unique
    (nodeid_field (has_node (opcode_of m.content)) m.nodeid) ++ request_body m.content

abbrev pub max_frame : ℕ
max_frame = 4176

-- The bytes are a frame that spells the request, at a minor version.
abbrev pub SpellsAt : Minor → List ℕ → RequestMessage → Type 0
SpellsAt minor bytes m = (length bytes ≤ max_frame) × IsTrue (minor_knows minor (opcode_of m.content))
    × IsNodeOf (has_node (opcode_of m.content)) m.nodeid × ReadsAs 0 (request_fields (length bytes) m) bytes

-- The bytes are the one frame in which the request is written, at a minor version.
abbrev pub WrittenAt : Minor → RequestMessage → List ℕ → Type 0
WrittenAt minor m bytes = (length bytes ≤ max_frame) × IsTrue (minor_knows minor (opcode_of m.content))
    × IsNodeOf (has_node (opcode_of m.content)) m.nodeid × InRange (request_fields (length bytes) m)
    × HaveNames (request_fields (length bytes) m) × (bytes ≡ spellings (request_fields (length bytes) m))

-- A frame spells a message at the latest minor version.
abbrev pub Spells : List ℕ → RequestMessage → Type 0
Spells = SpellsAt latest_minor

abbrev pub Written : RequestMessage → List ℕ → Type 0
Written = WrittenAt latest_minor

-- the request that a frame spells, if it spells one
unfoldable pub decoded : List ℕ → RequestMessage
decoded bytes = let o = opcode_from (number_at 4 4 bytes) in
    record {
      unique = number_at 8 8 bytes;
      nodeid = (if has_node o then number_at 16 8 bytes else 0);
      content = request_content_at o bytes;
    }
