-- What a caller of the table knows by its looks.
use Rattle.std.proofs.Common.{◌≡◌, ◌≢◌, ℕ, Some, false, true≢false, nat_eq, sym, ◌∙◌}
use Rattle.std.specs.List.{list_any}
use Rattle.std.proofs.lemmas.Bool.{eq-eqb}
use Rattle.fuse_spec.specs.Values.Maps.{Map, get, values}
use Rattle.fuse_spec.specs.Server.Nodes.{HeldNode}
use Rattle.fuse_tables.proofs.Maps.{any_there}

-- where `has` says no, no node is of the file
pub has_no : (rows : Map HeldNode) (file id : ℕ) (row : HeldNode)
    → list_any (λ (row : HeldNode). nat_eq row.file file) (values rows) ≡ false → get rows id ≡ Some row
    → row.file ≢ file
has_no rows file id row none is same = true≢false
    (sym (any_there rows (λ (r : HeldNode). nat_eq r.file file) id row is (eq-eqb row.file file same)) ∙ none)
