-- What files take that get nodes one after another.
use Rattle.std.specs.Prelude.{◌≡◌, ◌<◌, ◌+◌, ◌||◌, ℕ, Bool, List, [], ◌∷◌, Some, cond, count_by, map, nat_eq}
use Rattle.std.specs.List.{list_any}
use Rattle.fuse_spec.specs.Values.Maps.{Map, get, values}
use Rattle.fuse_spec.specs.Server.Nodes.{HeldNode, NodeTable, MayName, file_of, given}
use Rattle.fuse_spec.specs.Values.Numbers.{counter_end}
use Rattle.fuse_spec.specs.declared.Entry.{Entry}

-- whether a file has a node
abbrev pub has_node_already : NodeTable → ℕ → Bool
has_node_already t file = list_any (λ (row : HeldNode). nat_eq row.file file) (values t.rows)

-- how many of these files are neither known nor the same as a later one
abbrev pub new_among : (ℕ → Bool) → List ℕ → ℕ
new_among known [] = 0
new_among known (file ∷ files) = cond (known file || list_any (nat_eq file) files) 0 1 + new_among known files

-- how many generations are given once these files have nodes
abbrev pub generations_after : NodeTable → List ℕ → ℕ
generations_after t files = t.next_generation + new_among (has_node_already t) files

-- These files, one after another, each got a lookup more under some id that it may have.
abbrev pub GivenEach : NodeTable → List ℕ → NodeTable → Type 0
GivenEach t [] new = new ≡ t
GivenEach t (file ∷ files) new = (id : ℕ) × MayName t file id × GivenEach (given t file id) files new

-- the node of a file, and that of the root where it has none
abbrev pub node_in : Map HeldNode → ℕ → ℕ
node_in [] file = 1
node_in (e ∷ rows) file = cond (nat_eq e.1.file file) e.0 (node_in rows file)

-- the file's node has lookups below the end of counters, once these files are given their nodes
abbrev pub IsCountable : NodeTable → List ℕ → ℕ → Type 0
IsCountable t files file = (id : ℕ) (row : HeldNode) → get t.rows id ≡ Some row → row.file ≡ file
    → row.count + count_by (nat_eq file) files < counter_end

-- the same for each of some files
abbrev pub AreCountable : NodeTable → (files some : List ℕ) → Type 0
AreCountable t files [] = Unit {0}
AreCountable t files (file ∷ some) = IsCountable t files file × AreCountable t files some

-- the files of the nodes of these entries
abbrev pub files_of : NodeTable → List Entry → List ℕ
files_of t gs = map (λ (g : Entry). file_of t g.nodeid) gs
