-- Where a path leads, by the names that the kernel has cached.
use Rattle.std.specs.Prelude.{◌==◌, [], ℕ, List, Option, Some, None, drop, fold, length, option_and_then, option_map, if◌then◌else◌}
use Rattle.std.specs.List.{slice_split}
use Rattle.fuse_spec.specs.declared.Dentry.{Dentry}

-- what a name in a directory leads to, where it is cached
abbrev pub Leads : Type 0
Leads = (directory : ℕ) → (name : List ℕ) → Option Dentry

-- a name: its directory, the name itself, and the node to which it leads
abbrev pub Place : Type 0
Place = ℕ × List ℕ × ℕ

-- the root: node 1
abbrev pub root : Place
root = (0, [], 1)

-- the node to which a cached name leads; an empty one leads to none
abbrev pub node_at : Leads → (directory : ℕ) → (name : List ℕ) → Option ℕ
node_at leads directory name =
    if length name == 0 then None else option_and_then (λ dentry. dentry.target) (leads directory name)

-- the place behind another by one more name
abbrev pub place_behind : Leads → Option Place → (name : List ℕ) → Option Place
place_behind leads None name = None
place_behind leads (Some place) name =
    option_map (λ node. (place.2, name, node)) (node_at leads place.2 name)

-- the names of a path that begins with a slash
abbrev pub names_in : (path : List ℕ) → List (List ℕ)
names_in path = drop 1 (slice_split (λ byte. byte == 47) path)

-- where names lead, one after another, from the root
abbrev pub walked : Leads → (names : List (List ℕ)) → Option Place
walked leads names = fold (place_behind leads) (Some root) names
