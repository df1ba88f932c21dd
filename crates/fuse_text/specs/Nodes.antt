-- Nodes as they are listed.
use Rattle.std.specs.Prelude.{ℕ, List, ◌++◌, codes, decimal, flat_map}
use Rattle.fuse_spec.specs.declared.NodeCount.{NodeCount}

-- a node: its id, its generation and its lookup count
abbrev pub node_words : NodeCount → List ℕ
node_words node = decimal node.nodeid ++ codes ":" ++ decimal node.generation ++ codes ":" ++ decimal node.count

abbrev pub spaced_node : NodeCount → List ℕ
spaced_node node = codes " " ++ node_words node

-- the line of a side and its nodes
abbrev pub nodes_text : List ℕ → List NodeCount → List ℕ
nodes_text side nodes = side ++ flat_map spaced_node nodes ++ codes "\n"
