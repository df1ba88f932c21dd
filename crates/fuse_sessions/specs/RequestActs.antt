-- The acts that a request is.
use Rattle.std.specs.Prelude.{ℕ, ◌-◌, ◌^◌, Bool, false, ◌&&◌, ◌||◌, List, [], ◌∷◌, ◌++◌, Option, Some, None, map, codes, nat_eq, nat_le, bit_and, if◌then◌else◌}
use Rattle.std.specs.List.{list_any}
use Rattle.std.specs.Cmp.Lexicographic.{pointwise}
use Rattle.fuse_protocol.specs.declared.opcode.Opcode.{Opcode}
use Rattle.fuse_protocol.specs.declared.opcode.Opcode.TheVariants as op
use Rattle.fuse_protocol.specs.declared.request.OpenHandle.{OpenHandle}
use Rattle.fuse_protocol.specs.declared.request.OpenHandle.TheVariants as handle
use Rattle.fuse_protocol.specs.Places.{number_in, places_at}
use Rattle.fuse_protocol.specs.Pairs.{pairs_of_row}
use Rattle.fuse_protocol.specs.Table.{row_at}
use Rattle.fuse_protocol.specs.Requests.{RequestMessage}
use Rattle.fuse_sessions.specs.declared.act.Act.{Act}
use Rattle.fuse_sessions.specs.declared.act.Act.TheVariants.{Arrives, Begins, Read, Resent, Asks, Interrupts, Names, Forgets, Uses, Releases, Writes}
use Rattle.fuse_sessions.specs.declared.act.Asked.{Asked}
use Rattle.fuse_sessions.specs.declared.act.OpenFile.{OpenFile}
use Rattle.fuse_sessions.specs.declared.act.OpenKind.TheVariants as kind

abbrev pub or_none : Option ℕ → ℕ
or_none None = 0
or_none (Some n) = n

-- the further number of a request, 0 where it has none
abbrev pub number_of : Option ℕ → ℕ
number_of n = or_none n

-- The node in the header counts as named, but for requests that are about no node. (linux/fuse.h)
abbrev pub node_named : Opcode → ℕ → ℕ
node_named op.Init node = 0
node_named op.Destroy node = 0
node_named o node = node

-- the open file of a handle
abbrev pub file_of_handle : ℕ → OpenHandle → Option OpenFile
file_of_handle node (handle.File fh) = Some (record { kind = kind.File; nodeid = node; fh = fh })
file_of_handle node (handle.Directory fh) = Some (record { kind = kind.Directory; nodeid = node; fh = fh })
file_of_handle node (handle.TwoFiles fh other) = Some (record { kind = kind.File; nodeid = node; fh = fh })
file_of_handle node handle.None = None

-- Of SETUPMAPPING Linux says -1, which is no file handle. (linux/fs/fuse/dax.c)
abbrev pub file_mapped : ℕ → OpenHandle → Option OpenFile
file_mapped node (handle.File fh) = if nat_eq fh (2 ^ 64 - 1) then None else file_of_handle node (handle.File fh)
file_mapped node h = file_of_handle node h

-- the open file that a request uses: none that releases one does
abbrev pub file_used : Opcode → ℕ → OpenHandle → Option OpenFile
file_used op.Release node h = None
file_used op.Releasedir node h = None
file_used op.Setupmapping node h = file_mapped node h
file_used o node h = file_of_handle node h

-- the open file to which a range is copied
abbrev pub file_copied_to : ℕ → OpenHandle → Option OpenFile
file_copied_to other (handle.TwoFiles fh to) = Some (record { kind = kind.File; nodeid = other; fh = to })
file_copied_to other h = None

-- how many bytes a request writes or copies, at most
abbrev pub bytes_written : Opcode → RequestMessage → ℕ
bytes_written op.Write m = number_of (number_in (places_at op.Write).size m.fixed)
bytes_written op.CopyFileRange m = number_of (number_in (places_at op.CopyFileRange).size m.fixed)
bytes_written op.CopyFileRange64 m = number_of (number_in (places_at op.CopyFileRange64).size m.fixed)
bytes_written o m = 0

-- the offset from which a request lists a directory
abbrev pub listed_from : Opcode → RequestMessage → ℕ
listed_from op.Readdir m = number_of (number_in (places_at op.Readdir).offset m.fixed)
listed_from op.Readdirplus m = number_of (number_in (places_at op.Readdirplus).offset m.fixed)
listed_from o m = 0

-- the kind of file that a request makes: mkdir(2), symlink(2), open(2), mknod(2)
abbrev pub kind_made : Opcode → RequestMessage → ℕ
kind_made op.Mkdir m = 16384
kind_made op.Symlink m = 40960
kind_made op.Create m = 32768
kind_made op.Tmpfile m = 32768
kind_made op.Mknod m = bit_and (number_of (number_in (places_at op.Mknod).mode m.fixed)) 61440
kind_made o m = 0

abbrev pub is_name : List ℕ → List ℕ → Bool
is_name a b = pointwise nat_eq a b

-- Where EXPORT_SUPPORT was agreed, LOOKUP of `.` asks for a node of which a client has a handle, counted or not, and
-- `..` for the directory above. (linux/fs/fuse/inode.c, `fuse_get_dentry`, `fuse_get_parent`)
abbrev pub looks_up : (name : List ℕ) → Opcode → RequestMessage → Bool
looks_up name op.Lookup m = list_any (is_name name) m.names
looks_up name o m = false

-- the node that a request names, or 0
abbrev pub node_asked : Opcode → RequestMessage → ℕ
node_asked o m = if looks_up (codes ".") o m then 0 else node_named o m.nodeid

-- what others are judged by
abbrev pub asked_of : Opcode → RequestMessage → Asked
asked_of o m = record {
  opcode = Some o;
  asked = m.asked;
  writes = bytes_written o m;
  lists_from = listed_from o m;
  makes = kind_made o m;
  is_dots = looks_up (codes ".") o m || looks_up (codes "..") o m;
  nodeid = node_asked o m;
  other = or_none m.node;
  uses = file_used o m.nodeid m.handle;
  copies_to = file_copied_to (or_none m.node) m.handle;
}

-- a node is named where it is one
abbrev pub naming : ℕ → List Act
naming node = if nat_eq node 0 then [] else Names node ∷ []

abbrev pub using : Option OpenFile → List Act
using None = []
using (Some file) = Uses file ∷ []

-- a file that is released
abbrev pub releasing : Opcode → ℕ → OpenHandle → List Act
releasing op.Release node (handle.File fh) = Releases (record { kind = kind.File; nodeid = node; fh = fh }) ∷ []
releasing op.Releasedir node (handle.Directory fh) = Releases (record { kind = kind.Directory; nodeid = node; fh = fh }) ∷ []
releasing o node h = []

abbrev pub writing : Opcode → RequestMessage → List Act
writing op.Write m = Writes (number_of (number_in (places_at op.Write).size m.fixed)) ∷ []
writing o m = []

-- what a request that takes a reply does
abbrev pub asking : Opcode → RequestMessage → Asked → List Act
asking o m asked = Read (Some o) m.unique ∷ (naming asked.nodeid ++ naming asked.other ++ using asked.uses ++ using asked.copies_to
    ++ releasing o m.nodeid m.handle ++ writing o m ++ Asks m.unique asked ∷ [])

abbrev pub forgets_in : List (ℕ × ℕ) → List Act
forgets_in pairs = map (λ p. Forgets p.0 p.1) pairs

-- FUSE_UNIQUE_RESEND: the bit of a request's number that is read once more
abbrev pub resend_bit : ℕ
resend_bit = 2 ^ 63

-- A request that was read before is judged no more.
abbrev pub resent : Opcode → RequestMessage → List Act
resent o m = Resent m.unique (m.unique - resend_bit) ∷ Asks m.unique (asked_of o m) ∷ []

-- what each does, once it has come
abbrev pub doing : (again : Bool) → Opcode → RequestMessage → List Act
doing again op.Interrupt m = Interrupts m.unique (number_of (number_in (places_at op.Interrupt).interrupted m.fixed)) ∷ []
-- its number is the server's
doing again op.NotifyReply m = []
doing again op.Forget m = Read (Some op.Forget) m.unique
    ∷ Forgets m.nodeid (number_of (number_in (places_at op.Forget).forgotten m.fixed)) ∷ []
doing again op.BatchForget m = Read (Some op.BatchForget) m.unique ∷ forgets_in (pairs_of_row (row_at op.BatchForget).tail m.tail)
doing again o m = if again then resent o m else asking o m (asked_of o m)

-- The acts of a request that its frame is, where requests were asked for once more, or not.
abbrev pub request_acts : (has_resent : Bool) → Opcode → RequestMessage → List Act
request_acts has_resent o m = Arrives ∷ Begins o ∷ doing (has_resent && nat_le resend_bit m.unique) o m
