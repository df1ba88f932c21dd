-- Where the tree is the root alone, the root's node denotes the root, and nothing else denotes anything.
use Rattle.std.proofs.Common.{◌≡◌, ℕ, Bool, cond, [], Some, None, option_map, ap, sym, subst, ◌∙◌, inl, inr}
use Rattle.std.proofs.lemmas.Bool.{cases_eq}
use Rattle.fuse_spec.specs.declared.Counted.{Counted}
use Rattle.fuse_spec.specs.Values.Maps.{Map, get}
use Rattle.fuse_spec.specs.Server.Nodes.{NodeTable, HeldNode, row_of, root_row}
use Rattle.fuse_spec.specs.Claim.Denotes.{generation_known, NodeDenotes}
use Rattle.fuse_theorem.proofs.Calls.Finding.{other_is}

-- a kernel that knows no node but the root
pub only_root_known : (nodes : Map Counted) (t : NodeTable) → nodes ≡ [] → (id file : ℕ) → NodeDenotes nodes t id file
    → (id ≡ 1) × (file ≡ 0)
only_root_known nodes t none id file means = elim (cases_eq id 1) [
  | inl e ↦
      let there : Some root_row ≡ Some means.denotes.row =
      subst (λ (n : ℕ). row_of t n ≡ Some means.denotes.row) e means.denotes.there in
      let is_row : root_row ≡ means.denotes.row = cc in
      (e, sym means.denotes.same_file ∙ ap (λ (r : HeldNode). r.file) (sym is_row))
  | inr ne ↦
      let unknown : generation_known nodes id ≡ None =
      ap (λ (b : Bool). cond b (Some 0) (option_map (λ (c : Counted). c.generation) (get nodes id)))
      (other_is id 1 ne) ∙ ap (λ (m : Map Counted). option_map (λ (c : Counted). c.generation) (get m id)) none in
      absurd (cc (unknown, means.known))
]
