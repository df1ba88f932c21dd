-- Lists of nodes, 8 bytes each.
use Rattle.std.specs.Prelude.{ℕ, zero, suc, ◌+◌, ◌-◌, ◌/◌, List, [], ◌∷◌, length}
use Rattle.fk_fields.specs.Fields.{number_at}
use Rattle.fuse_replies.specs.declared.node_ids.NodeIds.{NodeIds}

-- so many nodes from a place on
abbrev pub node_ids_from : (count place : ℕ) → List ℕ → List ℕ
node_ids_from zero place bytes = []
node_ids_from (suc count) place bytes = number_at place 8 bytes ∷ node_ids_from count (place + 8) bytes

-- the nodes that are left
abbrev pub node_ids_in : NodeIds → List ℕ
node_ids_in n = node_ids_from ((length n.bytes.now - n.place) / 8) n.place n.bytes.now
