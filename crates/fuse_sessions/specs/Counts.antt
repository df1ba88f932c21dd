-- How often a session's nodes are counted, and what is known of them.
use Rattle.std.specs.Prelude.{ℕ, ◌&&◌, true, Option, Some, None, if◌then◌else◌, nat_eq}
use Rattle.fuse_sessions.specs.declared.act.File.{File}
use Rattle.fuse_sessions.specs.declared.act.Act.{Act}
use Rattle.fuse_sessions.specs.declared.act.Act.TheVariants.{Forgets, Gives}
use Rattle.fuse_sessions.specs.Sessions.{Session, Moment, moments, latest, left}

-- how many lookups of a node an act gives for certain
abbrev pub gives_least : ℕ → Act → ℕ
gives_least node (Gives other file true) = if nat_eq other node then 1 else 0
gives_least node act = 0

-- how many it gives at most
abbrev pub gives_most : ℕ → Act → ℕ
gives_most node (Gives other file is_certain) = if nat_eq other node then 1 else 0
gives_most node act = 0

-- how many it takes back
abbrev pub forgets_of : ℕ → Act → ℕ
forgets_of node (Forgets other lookups) = if nat_eq other node then lookups else 0
forgets_of node act = 0

-- how often a node is counted at least
abbrev pub least_count : Session → ℕ → ℕ
least_count s node = left (gives_least node) (forgets_of node) s

-- how often it is counted at most
abbrev pub most_count : Session → ℕ → ℕ
most_count s node = left (gives_most node) (forgets_of node) s

-- the file that a node has from a moment on: an entry that counts for certain gives it, and none did before
abbrev pub first_file : ℕ → Moment → Option File
first_file node (before, Gives other file true) =
    if nat_eq other node && nat_eq (least_count before node) 0 then Some file else None
first_file node (before, act) = None

-- The file that a node is of, while it is counted for certain: that of the entry by which it last was first.
abbrev pub known : Session → ℕ → Option File
known s node = latest (first_file node) (moments s)
