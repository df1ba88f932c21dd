use Rattle.std.proofs.Common.{◌≡◌, drop}
use Rattle.std.specs.Prelude.{Some, fold, map}
use Rattle.fw_expand.specs.Walks.{place_behind, walked}
use Rattle.fw_expand.proofs.walk.walk.Given as goal

-- where the names so far lead, and those that are left
abbrev pub invariant-loop-name : goal.invariant-loop-name
invariant-loop-name g l =
    fold (place_behind (g.V.KernelView.leads l.kernel)) (Some (l.directory, l.last, l.node))
    (map (λ name. name.now) (drop l.name-index l.names))
    ≡ walked (g.V.KernelView.leads l.kernel) (map (λ name. name.now) l.names)
