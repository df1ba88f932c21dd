-- Where a world is at rest a session counts each node as both sides do.
use Rattle.std.proofs.Common.{◌≡◌, true, Option, Some, None, refl, ap, ◌∙◌, arith}
use Rattle.fuse_spec.specs.declared.Counted.{Counted}
use Rattle.fuse_spec.specs.Claim.Counts.{SameNode, counted}
use Rattle.fuse_spec.specs.Kernel.Kernel.{Kernel, is_live}
use Rattle.fuse_spec.specs.Server.Nodes.{HeldNode}
use Rattle.fuse_spec.specs.Server.Server.{count_in, forgotten}
use Rattle.fuse_spec.specs.Values.Maps.{get}
use Rattle.world_sessions.specs.AtRest.{CountsAtRest}

same_count : (a : Option Counted) (b : Option HeldNode) → SameNode a b → counted a ≡ count_in b
same_count None None same = refl
same_count (Some node) (Some row) same = same.1
same_count None (Some row) same = absurd same
same_count (Some node) None same = absurd same

pub counts_as_both : CountsAtRest
counts_as_both mounts log w driven one protocol rest ts said k s is taken refused agreed judged node low =
    let count = driven.count in
    let live : is_live driven.new.kernel.phase ≡ true = ap (λ (l : Kernel). is_live l.phase) driven.same ∙ rest.live in
    let all = driven.rules.same_lookups (omega (arith, count, one)) driven.plain ts said k s is taken refused agreed judged live
    driven.idles node low in
    let nodes = ap (λ (l : Kernel). counted (get l.nodes node)) driven.same in
    let none = ap (λ (l : Kernel). forgotten node l.queues.forgets) driven.same ∙ ap (forgotten node) rest.forgets in
    let both = same_count (get w.kernel.nodes node) (get w.server.nodes.rows node) ((protocol.at_rest rest).nodes node) in
    (omega (arith, all, nodes, none), omega (arith, all, nodes, none, both))
