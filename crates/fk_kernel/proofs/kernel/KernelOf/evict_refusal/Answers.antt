use Rattle.std.proofs.Common.{◌≡◌, true, false, ◌||◌, sym, ◌∙◌, rules}
use Rattle.std.specs.Prelude.{is_some}
use Rattle.fuse_spec.specs.Kernel.Kernel.{is_live, is_pinned, is_bound}
use Rattle.fuse_spec.specs.Values.Maps.{get}
use Rattle.fk_kernel.proofs.Evicted.{unrefused}
use Rattle.fk_kernel.proofs.kernel.KernelOf.evict_refusal.Goals as goal

pub returns : goal.returns
returns g c =
    let now = c.args.self.now in
    let live : is_live now.phase ≡ true = search rules in
    let there : is_some (get now.nodes c.args.node) ≡ true = search rules in
    let idle : (is_pinned now c.args.node || is_bound now c.args.node) ≡ false =
    rw (← c.self.view_is) (rw c.is_releasing-is_releasing.ensures at (sym c.is_node_in_use.ensures ∙ c.if-is_node_in_use.false)) in
    unrefused now c.args.node live there idle
