-- Walks along cached names.
use Rattle.std.specs.Prelude.{ℕ, List, [], ◌∷◌, Option}
use Rattle.fuse_spec.specs.declared.Dentry.{Dentry}
use Rattle.fuse_spec.specs.Values.Maps.{NameMap, get_name}
use Rattle.fuse_spec.specs.Calls.Paths.{Name}
use Rattle.fuse_spec.specs.Calls.Vfs.{valid_at}
use Rattle.fuse_spec.specs.Calls.Walks.{WalkStop, unknown, arrived}

-- What a name leads to at a time, where it is valid.
abbrev pub known : NameMap Dentry → ℕ → ℕ → Name → Option (Option ℕ)
known names clock directory name = valid_at clock (get_name names (directory, name))

-- A walk stands at a node, with these words still to be walked.
abbrev pub stop_at : ℕ → List Name → WalkStop ℕ
stop_at node [] = arrived node
stop_at node (word ∷ words) = unknown node word words
