-- What the struct of a request says. Names and data stand in them as places in bytes of the caller's.
use Rattle.std.specs.Prelude.{◌≡◌, ◌≤◌, ◌+◌, ℕ, Bool, true, false, List, length}
use Rattle.fk_wire.specs.declared.opcode.Minor.{Minor}
use Rattle.fk_wire.specs.declared.opcode.Opcode.{Opcode}
use Rattle.fk_wire.specs.declared.opcode.Opcode.TheVariants as op
use Rattle.std.specs.Int.RustNames.{bit_and}
use Rattle.fk_wire.specs.Fields.{bytes_at, ReadsAs}
use Rattle.fk_wire.specs.Opcodes.{code_of}
use Rattle.fk_wire.specs.Pairs.{forget_ones}
use Rattle.fk_wire.specs.Requests.{RequestMessage, RequestContent, opcode_of, known_flags, request_body}
use Rattle.fk_wire.specs.Requests.{lookup, forget, getattr, mkdir, unlink, rmdir, rename, link, opening, read, write}
use Rattle.fk_wire.specs.Requests.{release, init, readdir, readdirplus, create, interrupt, batch_forget}
use Rattle.fuseworld_codec.specs.declared.layout.FlatRequest.{FlatRequest}

-- the name, the second name and the data of a request
abbrev pub name_in : FlatRequest → List ℕ → List ℕ
name_in r bytes = bytes_at r.name_offset r.name_length bytes

abbrev pub newname_in : FlatRequest → List ℕ → List ℕ
newname_in r bytes = bytes_at r.newname_offset r.newname_length bytes

abbrev pub data_in : FlatRequest → List ℕ → List ℕ
data_in r bytes = bytes_at r.data_offset r.data_length bytes

-- The struct asks this, by the fields that count for its opcode.
abbrev pub StructAsks : FlatRequest → List ℕ → RequestContent → Type 0
StructAsks r bytes (lookup name) = name_in r bytes ≡ name
StructAsks r bytes (forget nlookup) = r.nlookup ≡ nlookup
StructAsks r bytes getattr = Unit {0}
StructAsks r bytes (mkdir name) = name_in r bytes ≡ name
StructAsks r bytes (unlink name) = name_in r bytes ≡ name
StructAsks r bytes (rmdir name) = name_in r bytes ≡ name
StructAsks r bytes (rename newdir old new) = (r.newdir ≡ newdir) × (name_in r bytes ≡ old) × (newname_in r bytes ≡ new)
StructAsks r bytes (link oldnodeid name) = (r.oldnodeid ≡ oldnodeid) × (name_in r bytes ≡ name)
StructAsks r bytes opening = Unit {0}
StructAsks r bytes (read fh offset size) = (r.fh ≡ fh) × (r.offset ≡ offset) × (r.size ≡ size)
StructAsks r bytes (write fh offset data') = (r.fh ≡ fh) × (r.offset ≡ offset) × (data_in r bytes ≡ data')
StructAsks r bytes (release fh) = r.fh ≡ fh
StructAsks r bytes (init major minor flags) = (r.major ≡ major) × (r.minor ≡ minor) × (bit_and r.flags known_flags ≡ flags)
StructAsks r bytes (readdir offset size) = (r.offset ≡ offset) × (r.size ≡ size)
StructAsks r bytes (readdirplus offset size) = (r.offset ≡ offset) × (r.size ≡ size)
StructAsks r bytes (create name) = name_in r bytes ≡ name
StructAsks r bytes (interrupt unique) = r.interrupted ≡ unique
StructAsks r bytes (batch_forget forgets) = ReadsAs 0 (forget_ones forgets) (data_in r bytes)

-- The struct is this request.
abbrev pub IsRequestStruct : FlatRequest → List ℕ → RequestMessage → Type 0
IsRequestStruct r bytes m = (r.opcode ≡ code_of (opcode_of m.content)) × (r.unique ≡ m.unique) × (r.nodeid ≡ m.nodeid)
    × StructAsks r bytes m.content

-- The names and the data of the struct lie within the bytes.
abbrev pub HasPlaces : FlatRequest → List ℕ → Type 0
HasPlaces r bytes = (r.name_offset + r.name_length ≤ length bytes)
    × (r.newname_offset + r.newname_length ≤ length bytes) × (r.data_offset + r.data_length ≤ length bytes)

-- a struct of an opcode, with a unique and a node, that says nothing more
abbrev pub request_head : (opcode unique nodeid : ℕ) → FlatRequest
request_head opcode unique nodeid = record {
  unique = unique;
  nodeid = nodeid;
  fh = 0;
  offset = 0;
  nlookup = 0;
  newdir = 0;
  oldnodeid = 0;
  interrupted = 0;
  name_offset = 0;
  name_length = 0;
  newname_offset = 0;
  newname_length = 0;
  data_offset = 0;
  data_length = 0;
  opcode = opcode;
  size = 0;
  major = 0;
  minor = 0;
  flags = 0;
  padding = 0;
}

abbrev head_of : FlatRequest → FlatRequest
head_of r = request_head r.opcode r.unique r.nodeid

abbrev named_only : FlatRequest → FlatRequest
named_only r = record (head_of r) { name_offset = r.name_offset; name_length = r.name_length }

-- The struct with the fields that count for an opcode, and of INIT's flags with those that are known. The others are 0.
abbrev pub counted : Opcode → FlatRequest → FlatRequest
counted op.Lookup r = named_only r
counted op.Forget r = record (head_of r) { nlookup = r.nlookup }
counted op.Getattr r = head_of r
counted op.Mkdir r = named_only r
counted op.Unlink r = named_only r
counted op.Rmdir r = named_only r
counted op.Rename r = record (named_only r) {
  newdir = r.newdir;
  newname_offset = r.newname_offset;
  newname_length = r.newname_length;
}
counted op.Link r = record (named_only r) { oldnodeid = r.oldnodeid }
counted op.Open r = head_of r
counted op.Read r = record (head_of r) { fh = r.fh; offset = r.offset; size = r.size }
counted op.Write r = record (head_of r) {
  fh = r.fh;
  offset = r.offset;
  data_offset = r.data_offset;
  data_length = r.data_length;
}
counted op.Release r = record (head_of r) { fh = r.fh }
counted op.Init r = record (head_of r) { major = r.major; minor = r.minor; flags = bit_and r.flags known_flags }
counted op.Readdir r = record (head_of r) { offset = r.offset; size = r.size }
counted op.Create r = named_only r
counted op.Interrupt r = record (head_of r) { interrupted = r.interrupted }
counted op.BatchForget r = record (head_of r) { data_offset = r.data_offset; data_length = r.data_length }
counted op.Readdirplus r = record (head_of r) { offset = r.offset; size = r.size }

-- whether a request of this opcode has one name and ends with it
abbrev pub is_named : Opcode → Bool
is_named op.Lookup = true
is_named op.Mkdir = true
is_named op.Unlink = true
is_named op.Rmdir = true
is_named op.Link = true
is_named op.Create = true
is_named _ = false
