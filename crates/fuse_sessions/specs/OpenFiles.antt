-- The files that are open.
use Rattle.std.specs.Prelude.{◌≡◌, ℕ, ◌<◌, Bool, true, false, ◌&&◌, if◌then◌else◌, nat_eq}
use Rattle.std.specs.List.{list_any}
use Rattle.fuse_sessions.specs.declared.act.OpenFile.{OpenFile}
use Rattle.fuse_sessions.specs.declared.act.OpenKind.{OpenKind}
use Rattle.fuse_sessions.specs.declared.act.Act.{Act}
use Rattle.fuse_sessions.specs.declared.act.Act.TheVariants.{Opens, OpensNone, Releases}
use Rattle.fuse_sessions.specs.Sessions.{Session, left}
use Rattle.fuse_sessions.specs.Waiting.{same_kind, same_open}

abbrev pub opens_this : OpenFile → Act → ℕ
opens_this file (Opens other) = if same_open other file then 1 else 0
opens_this file act = 0

abbrev pub releases_this : OpenFile → Act → ℕ
releases_this file (Releases other) = if same_open other file then 1 else 0
releases_this file act = 0

-- How often an open file is open: a server may give one file handle several times.
abbrev pub opened : Session → OpenFile → ℕ
opened s file = left (opens_this file) (releases_this file) s

-- the server said that it opens none of this kind
abbrev pub opens_none : OpenKind → Act → Bool
opens_none kind (OpensNone other) = same_kind other kind
opens_none kind act = false

abbrev pub has_none : Session → OpenKind → Bool
has_none s kind = list_any (opens_none kind) s

-- A request may use a file that is open so often; or any, where this says so.
abbrev pub IsUsable : ℕ → Bool → Type 0
IsUsable count true = Unit {0}
IsUsable count false = 0 < count

-- No OPEN is needed of the file: none of its kind is opened any more, and its file handle is 0.
abbrev pub needs_no_open : Session → OpenFile → Bool
needs_no_open s file = has_none s file.kind && nat_eq file.fh 0

-- A request may use the file: it is open, or needs not be.
abbrev pub MayUse : Session → OpenFile → Type 0
MayUse s file = IsUsable (opened s file) (needs_no_open s file)

-- Some file of the node is open.
abbrev pub HasOpen : Session → ℕ → Type 0
HasOpen s node = (file : OpenFile) × (file.nodeid ≡ node) × (0 < opened s file)
