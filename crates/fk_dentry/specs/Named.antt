-- The nodes that dentries name, each as often as it is named.
use Rattle.std.specs.Prelude.{ℕ, List, [], ◌∷◌, Option, Some, None, length, nat_eq, count_by, sum_by}
use Rattle.fuse_spec.specs.declared.Dentry.{Dentry}
use Rattle.fuse_spec.specs.Values.Maps.{Place, NameMap}

abbrev pub times : ℕ → List ℕ → ℕ
times id ids = count_by (nat_eq id) ids

-- the nodes that a dentry names
abbrev pub named : ℕ → Option ℕ → List ℕ
named directory None = directory ∷ []
named directory (Some target) = directory ∷ target ∷ []

abbrev pub named_by : ℕ → Option Dentry → List ℕ
named_by directory None = []
named_by directory (Some dentry) = named directory dentry.target

abbrev pub nodes_of_name : Place × Option Dentry → List ℕ
nodes_of_name slot = named_by slot.0.0 slot.1

-- how often dentries name the node
abbrev pub uses : ℕ → NameMap (Option Dentry) → ℕ
uses id slots = sum_by (λ slot. times id (nodes_of_name slot)) slots

-- how many nodes the dentries name, one that several name so often
abbrev pub mentions : NameMap (Option Dentry) → ℕ
mentions slots = sum_by (λ slot. length (nodes_of_name slot)) slots
