-- The opcodes: a row of what is fixed for each, and which of them a minor version knows.
use Rattle.std.specs.Prelude.{ℕ, Bool, true, false, ◌==◌, List, [], ◌∷◌, codes, if◌then◌else◌, Option, Some, None}
use Rattle.fk_wire.specs.declared.opcode.Opcode.{Opcode}
use Rattle.fk_wire.specs.declared.opcode.Opcode.TheVariants as op
use Rattle.fk_wire.specs.declared.opcode.Minor.{Minor}
use Rattle.fk_wire.specs.declared.opcode.Minor.TheVariants as minors
use Rattle.fk_wire.specs.declared.reply.ReplyKind.{ReplyKind}
use Rattle.fk_wire.specs.declared.reply.ReplyKind.TheVariants as kind

-- The shape of a request's frame, header included.
pub data Shape : Type 0 where
  -- this many bytes
  exactly : (size : ℕ) → Shape
  -- this many bytes, and a name to the end
  name_after : (size : ℕ) → Shape
  -- this many bytes, and two names to the end
  names_after : (size : ℕ) → Shape
  -- 80 bytes, and as many as the number at 56 says
  sized : Shape
  -- 48 bytes, and as many pairs of 16 as the number at 40 says
  counted : Shape

-- What is fixed for an opcode.
pub record OpcodeRow : Type 0 where
  pub code : ℕ
  pub name : List ℕ
  -- whether it came after 7.15
  pub is_later : Bool
  -- whether its requests are about a node
  pub has_node : Bool
  pub shape : Shape
  -- the kind of body in its replies, if it has replies
  pub reply : Option ReplyKind

abbrev row : (code : ℕ) (name : List ℕ) (is_later has_node : Bool) → Shape → Option ReplyKind → OpcodeRow
row code name is_later has_node shape reply =
    record { code = code; name = name; is_later = is_later; has_node = has_node; shape = shape; reply = reply }

-- the words of the table for the two tests
abbrev of_15 : Bool
of_15 = false

abbrev later : Bool
later = true

abbrev about_node : Bool
about_node = true

abbrev about_none : Bool
about_none = false

-- The table: number, name, whether 7.15 has it, whether it is about a node, its request's frame, its reply's body.
abbrev pub opcode_row : Opcode → OpcodeRow
opcode_row op.Lookup = row 1 (codes "LOOKUP") of_15 about_node (name_after 40) (Some kind.Entry)
opcode_row op.Forget = row 2 (codes "FORGET") of_15 about_node (exactly 48) None
opcode_row op.Getattr = row 3 (codes "GETATTR") of_15 about_node (exactly 56) (Some kind.Attr)
opcode_row op.Mkdir = row 9 (codes "MKDIR") of_15 about_node (name_after 48) (Some kind.Entry)
opcode_row op.Unlink = row 10 (codes "UNLINK") of_15 about_node (name_after 40) (Some kind.Empty)
opcode_row op.Rmdir = row 11 (codes "RMDIR") of_15 about_node (name_after 40) (Some kind.Empty)
opcode_row op.Rename = row 12 (codes "RENAME") of_15 about_node (names_after 48) (Some kind.Empty)
opcode_row op.Link = row 13 (codes "LINK") of_15 about_node (name_after 48) (Some kind.Entry)
opcode_row op.Open = row 14 (codes "OPEN") of_15 about_node (exactly 48) (Some kind.Open)
opcode_row op.Read = row 15 (codes "READ") of_15 about_node (exactly 80) (Some kind.Bytes)
opcode_row op.Write = row 16 (codes "WRITE") of_15 about_node sized (Some kind.Write)
opcode_row op.Release = row 18 (codes "RELEASE") of_15 about_node (exactly 64) (Some kind.Empty)
opcode_row op.Init = row 26 (codes "INIT") of_15 about_none (exactly 56) (Some kind.Init)
opcode_row op.Readdir = row 28 (codes "READDIR") of_15 about_node (exactly 80) (Some kind.Records)
opcode_row op.Create = row 35 (codes "CREATE") of_15 about_node (name_after 56) (Some kind.Create)
opcode_row op.Interrupt = row 36 (codes "INTERRUPT") of_15 about_none (exactly 48) (Some kind.Empty)
opcode_row op.BatchForget = row 42 (codes "BATCH_FORGET") later about_none counted None
opcode_row op.Readdirplus = row 44 (codes "READDIRPLUS") later about_node (exactly 80) (Some kind.RecordsPlus)

-- all of them
abbrev pub opcodes : List Opcode
opcodes = op.Lookup ∷ op.Forget ∷ op.Getattr ∷ op.Mkdir ∷ op.Unlink ∷ op.Rmdir ∷ op.Rename ∷ op.Link ∷ op.Open
    ∷ op.Read ∷ op.Write ∷ op.Release ∷ op.Init ∷ op.Readdir ∷ op.Create ∷ op.Interrupt ∷ op.BatchForget
    ∷ op.Readdirplus ∷ []

-- the number of an opcode
abbrev pub code_of : Opcode → ℕ
code_of o = (opcode_row o).code

-- the name of an opcode
abbrev pub name_of : Opcode → List ℕ
name_of o = (opcode_row o).name

-- whether an opcode came after 7.15
abbrev pub is_later : Opcode → Bool
is_later o = (opcode_row o).is_later

-- whether a request of this opcode is about a node
abbrev pub has_node : Opcode → Bool
has_node o = (opcode_row o).has_node

-- the shape of its frame
abbrev pub shape_of : Opcode → Shape
shape_of o = (opcode_row o).shape

-- the kind of body in the replies to an opcode; the two forgets have none
abbrev pub reply_kind_of : Opcode → Option ReplyKind
reply_kind_of o = (opcode_row o).reply

-- the first of some opcodes that has this number
abbrev pub first_with : ℕ → List Opcode → Opcode
first_with code [] = op.Readdirplus
first_with code (o ∷ os) = if code == code_of o then o else first_with code os

-- the opcode of a number, if there is one
abbrev pub opcode_from : ℕ → Opcode
opcode_from code = first_with code opcodes

-- whether a minor version knows an opcode
abbrev pub minor_knows : Minor → Opcode → Bool
minor_knows minors.M31 o = true
minor_knows minors.M15 o = if is_later o then false else true

-- the minor version of the calls that take none
abbrev pub latest_minor : Minor
latest_minor = minors.M31
