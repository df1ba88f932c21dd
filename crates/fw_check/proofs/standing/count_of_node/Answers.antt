use Rattle.std.proofs.Common.{ap, sym, subst, ◌∙◌}
use Rattle.std.specs.Prelude.{unwrap_or}
use Rattle.fuse_sessions.specs.Counts.{most_count}
use Rattle.fw_check.specs.Standing.{IsCountOf}
use Rattle.fw_check.proofs.HeldLaws.{count_in_row}
use Rattle.fw_check.proofs.standing.count_of_node.Goals as goal

pub returns-in-Some : goal.returns-in-Some
returns-in-Some g c s stands =
    subst (λ n. IsCountOf s n c.count_of.result) (sym c.in-Some.is)
    (sym (c.count_of.ensures ∙ ap (λ o. unwrap_or o 0) (stands.nodes_held c.in-Some.node)
    ∙ count_in_row (most_count s c.in-Some.node)))
