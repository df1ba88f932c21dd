-- Names.
use Rattle.std.specs.Prelude.{ℕ, Bool, ◌&&◌, List, nat_eq}
use Rattle.std.specs.Cmp.Lexicographic.{pointwise}

-- A name is one in a directory: the node of the directory, and the name's bytes.
abbrev pub Name : Type 0
Name = ℕ × List ℕ

abbrev pub same_name : Name → Name → Bool
same_name a b = nat_eq a.0 b.0 && pointwise nat_eq a.1 b.1
