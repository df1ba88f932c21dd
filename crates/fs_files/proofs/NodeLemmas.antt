-- What a table of nodes answers, and what giving and taking back make of it.
use Rattle.std.proofs.Common.{◌≡◌, ℕ, ◌≤◌, Bool, true, false, true≢false, cond, Option, Some, None, nat_eq, refl, sym, ap, ◌∙◌, arith, T, IsTrue}
use Rattle.std.specs.Prelude.{MatchOption}
use Rattle.std.specs.List.{list_any}
use Rattle.std.specs.FinMap.{is_sorted}
use Rattle.std.specs.Ordering.{nat_cmp}
use Rattle.fuse_spec.specs.Values.Maps.{get, put, values}
use Rattle.fuse_spec.specs.Server.Nodes.{HeldNode, NodeTable, MayName, IsUnheld, given, given_row, row_of, root_row}
use Rattle.fuse_spec.specs.Server.Server.{generation_in}
use Rattle.fuse_spec.proofs.Tables.{get_put_here}
use Rattle.fs_nodes.specs.Rows.{generation_given}
use Rattle.fs_nodes.specs.Sound.{IsSoundNodeTable}
use Rattle.fuse_tables.proofs.Maps.{any_is}
use Rattle.fs_tree.proofs.Shaping.{same_number, other_number}

pub two_of : (t : NodeTable) (file id : ℕ) → IsSoundNodeTable t → MayName t file id → 2 ≤ id
two_of t file id sound may = by (get t.rows id) refl may
  where
    by : (o : Option HeldNode) → get t.rows id ≡ o → MatchOption o ((2 ≤ id) × IsUnheld t file)
        (λ row. row.file ≡ file) → 2 ≤ id
    by None e m = m.0
    by (Some row) e m = sound.from_two id row e

pub generation_is : (t : NodeTable) (file id : ℕ) → 2 ≤ id
    → generation_in (row_of (given t file id) id) ≡ generation_given t (get t.rows id)
generation_is t file id two =
    ap (λ b. generation_in (cond b (Some root_row) (get (put t.rows id (given_row t file (get t.rows id))) id)))
    (other_number id 1 (omega arith))
    ∙ ap generation_in (get_put_here t.rows id (given_row t file (get t.rows id)))
    ∙ by (get t.rows id)
  where
    by : (o : Option HeldNode) → (given_row t file o).generation ≡ generation_given t o
    by None = refl
    by (Some row) = refl

holds : (b : Bool) → b ≡ true → T b
holds true e = tt
holds false e = absurd (true≢false (sym e))

-- where a table says that a file has a node, it has
pub has_some : (t : NodeTable) (file : ℕ) → IsTrue (is_sorted nat_cmp t.rows)
    → true ≡ list_any (λ (row : HeldNode). nat_eq row.file file) (values t.rows) → IsUnheld t file → ⊥
has_some t file sorted any unheld =
    true≢false (any ∙ sym (any_is false t.rows (λ (row : HeldNode). nat_eq row.file file) (holds _ sorted)
    (λ e. absurd (true≢false (sym e)))
    (λ has. absurd (unheld has.key has.value has.there (same_number has.value.file file has.passes)))))
