-- The nodes that were given.
use Rattle.std.specs.Prelude.{◌≡◌, ◌≤◌, ℕ, Bool, true, false, Option, Some, None, nat_eq, if◌then◌else◌}
use Rattle.fuse_spec.specs.Values.Maps.{Map, get}
use Rattle.fuse_sessions.specs.declared.act.Act.{Act}
use Rattle.fuse_sessions.specs.declared.act.File.{File}
use Rattle.fuse_sessions.specs.Sessions.{Session}
use Rattle.fuse_sessions.specs.Counts.{gives_least, gives_most, forgets_of, least_count, most_count, first_file, known}
use Rattle.fuse_judge.specs.declared.nodes.NodeRow.{NodeRow}

-- An act neither gives a node nor forgets it.
pub record LeavesNode (node : ℕ) (a : Act) : Type 0 where
  pub least : gives_least node a ≡ 0
  pub most : gives_most node a ≡ 0
  pub forgets : forgets_of node a ≡ 0
  pub file : (before : Session) → first_file node (before, a) ≡ None

-- the file of a node that is counted so often at least, once an entry gives one
abbrev pub file_given : (least : ℕ) → (is_certain : Bool) → Option File → File → Option File
file_given least true was file = if nat_eq least 0 then Some file else was
file_given least false was file = was

-- A row of a node: what it counts, and the file that it is of, or was when it was counted last.
pub record IsRow (s : Session) (node : ℕ) (row : NodeRow) : Type 0 where
  pub within : row.least ≤ row.most
  pub least : least_count s node ≡ row.least
  pub most : most_count s node ≡ row.most
  pub file : known s node ≡ row.file

-- This is true of the node: no row stands for one that was never given.
abbrev pub IsNode : Session → ℕ → Option NodeRow → Type 0
IsNode s node None = (least_count s node ≡ 0) × (most_count s node ≡ 0) × (known s node ≡ None)
IsNode s node (Some row) = IsRow s node row

-- The table of nodes is right.
abbrev pub AreNodes : Session → Map NodeRow → Type 0
AreNodes s nodes = (node : ℕ) → IsNode s node (get nodes node)
