-- How many open files each node has.
use Rattle.std.specs.Prelude.{ℕ, ◌+◌, cond, nat_eq, [], ◌∷◌}
use Rattle.fuse_spec.specs.declared.Opened.{Opened}
use Rattle.fuse_spec.specs.Values.Maps.{Map}

-- 1 for an open file of this node
abbrev pub one_of : ℕ → Opened → ℕ
one_of node opened = cond (nat_eq opened.nodeid node) 1 0

-- how many of the open files are of this node
abbrev pub uses_of : Map Opened → ℕ → ℕ
uses_of [] node = 0
uses_of (e ∷ es) node = one_of node e.1 + uses_of es node
