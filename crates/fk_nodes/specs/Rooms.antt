-- Room for the nodes of the names of a list.
use Rattle.std.specs.Prelude.{◌≡◌, ℕ, false, List, [], ◌∷◌, Option, Some, None, nat_lt}
use Rattle.fuse_spec.specs.declared.Entry.{Entry}
use Rattle.fuse_spec.specs.Files.Operations.{DirentPlus, listed_by}

-- The node of the name has room, if it may be counted: to count it takes no memory.
abbrev pub HasNodeRoom : (HasRoom : ℕ → Type 0) → Option Entry → Type 0
HasNodeRoom HasRoom None = Unit {0}
HasNodeRoom HasRoom (Some g) = nat_lt g.nodeid 2 ≡ false → HasRoom g.nodeid

-- Each node of the names of a list has room.
abbrev pub HaveNodeRoom : (HasRoom : ℕ → Type 0) → List (DirentPlus Entry) → Type 0
HaveNodeRoom HasRoom [] = Unit {0}
HaveNodeRoom HasRoom (pair ∷ pairs) = HasNodeRoom HasRoom (listed_by pair) × HaveNodeRoom HasRoom pairs
