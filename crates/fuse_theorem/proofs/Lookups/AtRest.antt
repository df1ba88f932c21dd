-- At rest the kernel and the server count the same nodes, as often and under the same generations.
use Rattle.std.proofs.Common.{◌≡◌, ℕ, ◌+◌, ◌≤◌, Bool, cond, [], Option, Some, None, refl, ap, sym, ◌∙◌, arith}
use Rattle.fuse_spec.specs.declared.Counted.{Counted}
use Rattle.fuse_spec.specs.Values.Maps.{get}
use Rattle.fuse_spec.specs.Server.Nodes.{HeldNode, row_of, root_row}
use Rattle.fuse_spec.specs.Server.Server.{count_in, forgotten}
use Rattle.fuse_spec.specs.Claim.Counts.{counted, in_flight, AtRest, SameNode}
use Rattle.fuse_spec.specs.World.Worlds.{World}
use Rattle.fuse_theorem.specs.Lookups.{LookupsSound}
use Rattle.fuse_theorem.proofs.Calls.Finding.{other_is}
use Rattle.fuse_theorem.proofs.Lookups.Lookups.{sent_forgets, copies_name, refused_name}
use Rattle.fuse_theorem.proofs.Lookups.WireCounts.{row_there}

module _ (w : World) (sound : LookupsSound w) (rest : AtRest w) (id : ℕ) where
  none_in_flight : in_flight w id ≡ 0
  none_in_flight =
      let parts : in_flight w id
      ≡ forgotten id [] + sent_forgets id [] + copies_name id [] + refused_name id w.server.copies [] =
      λ i. forgotten id (rest.forgets i) + sent_forgets id (rest.requests i) + copies_name id
      (rest.replies i) + refused_name id w.server.copies (rest.results i) in
      omega (arith, parts)

  -- the two sides' counts of the node
  same_count : 2 ≤ id → count_in (get w.server.nodes.rows id) ≡ counted (get w.kernel.nodes id)
  same_count low =
      let old = sound.balanced rest.live in
      let whole = old.balance id low in
      let none = none_in_flight in
      omega (arith, whole, none)

  pub same_node : SameNode (get w.kernel.nodes id) (get w.server.nodes.rows id)
  same_node = by (get w.kernel.nodes id) (get w.server.nodes.rows id) refl refl
    where
      by : (a : Option Counted) (b : Option HeldNode) → get w.kernel.nodes id ≡ a → get w.server.nodes.rows id ≡ b
          → SameNode a b
      by None None counts holds = tt
      by (Some c) (Some row) counts holds =
          let old = sound.balanced rest.live in
          let known = old.known id c counts in
          let low = known.0 in
          let d = known.2.1 in
          let is_row : row_of w.server.nodes id ≡ Some row =
          ap (λ (x : Bool). cond x (Some root_row) (get w.server.nodes.rows id))
          (other_is id 1 (λ e. absurd (omega (arith, e, low)))) ∙ holds in
          let same : d.row ≡ row = cc (d.there, is_row) in
          let count = same_count low in
          let server_count = ap count_in holds in
          let kernel_count = ap counted counts in (
            sym d.same_generation ∙ ap (λ (r : HeldNode). r.generation) same,
            omega (arith, count, server_count, kernel_count),
          )
      by (Some c) None counts holds =
          let old = sound.balanced rest.live in
          let known = old.known id c counts in
          absurd (row_there w.server.nodes id c.generation known.0 known.2 holds)
      by None (Some row) counts holds =
          let server = sound.server in
          let nodes = server.nodes in
          let low = nodes.ids id row holds in
          let some = nodes.counts id row holds in
          let count = same_count low in
          let server_count = ap count_in holds in
          let kernel_count = ap counted counts in
          absurd (omega (arith, some, count, server_count, kernel_count))
