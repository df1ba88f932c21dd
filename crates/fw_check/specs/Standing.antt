-- What stands of a session: the nodes that are counted and the files that are open. And what is left at its end.
use Rattle.std.specs.Prelude.{◌≡◌, ℕ, Bool, true, false, ◌&&◌, List, [], ◌∷◌, filter, Option, Some, None, length, nat_eq, nat_lt}
use Rattle.std.specs.Bool.{beq}
use Rattle.std.specs.List.{flat_map}
use Rattle.std.specs.Set.{distinct_count}
use Rattle.fuse_sessions.specs.declared.act.Act.{Act}
use Rattle.fuse_sessions.specs.declared.act.Act.TheVariants.{Gives, Opens}
use Rattle.fuse_sessions.specs.declared.act.OpenFile.{OpenFile}
use Rattle.fuse_sessions.specs.declared.act.OpenKind.{OpenKind}
use Rattle.fuse_sessions.specs.declared.act.OpenKind.TheVariants as kind
use Rattle.fuse_sessions.specs.Counts.{most_count}
use Rattle.fuse_sessions.specs.OpenFiles.{opened}
use Rattle.fuse_sessions.specs.Sessions.{Session}
use Rattle.fuse_sessions.specs.Waiting.{same_open, waiting}
use Rattle.fw_check.specs.declared.file_key.FileKey.{FileKey}
use Rattle.fw_check.specs.declared.remains.Remains.{Remains}
use Rattle.fw_check.specs.Held.{Holds}

-- the node that an act gives; the root is none (`ReplyActs.entry_acts`)
abbrev pub given_by : Act → List ℕ
given_by (Gives node file is_certain) = node ∷ []
given_by a = []

-- how many of the nodes that were given are counted still, at most
abbrev pub node_count : Session → ℕ
node_count s = distinct_count nat_eq (filter (λ node. nat_lt 0 (most_count s node)) (flat_map given_by s))

abbrev pub opened_by : Act → List OpenFile
opened_by (Opens file) = file ∷ []
opened_by a = []

-- how many of the files that were opened are open still
abbrev pub file_count : Session → ℕ
file_count s = distinct_count same_open (filter (λ file. nat_lt 0 (opened s file)) (flat_map opened_by s))

-- what is left at the end
abbrev pub remains_of : Session → Remains
remains_of s = record { unanswered = length (waiting s); nodes = node_count s; files = file_count s }

-- ---- as it is kept

abbrev pub is_directory : OpenKind → Bool
is_directory kind.File = false
is_directory kind.Directory = true

abbrev pub kind_of : Bool → OpenKind
kind_of false = kind.File
kind_of true = kind.Directory

-- an open file as a key of a table, and back
abbrev pub key_of : OpenFile → FileKey
key_of file = record { is_directory = is_directory file.kind; nodeid = file.nodeid; fh = file.fh }

abbrev pub file_of : FileKey → OpenFile
file_of key = record { kind = kind_of key.is_directory; nodeid = key.nodeid; fh = key.fh }

abbrev pub same_key : FileKey → FileKey → Bool
same_key a b = beq a.is_directory b.is_directory && (nat_eq a.nodeid b.nodeid && nat_eq a.fh b.fh)

-- So often the node is counted at most, if one is asked for.
abbrev pub IsCountOf : Session → Option ℕ → ℕ → Type 0
IsCountOf s None count = Unit {0}
IsCountOf s (Some node) count = most_count s node ≡ count

-- The rows say how often each node is counted at most, and how often each file is open.
pub record Stands (s : Session) (nodes : List (ℕ × ℕ)) (files : List (FileKey × ℕ)) : Type 0 where
  pub nodes_held : Holds nat_eq nodes (most_count s)
  pub files_held : Holds same_key files (λ key. opened s (file_of key))
