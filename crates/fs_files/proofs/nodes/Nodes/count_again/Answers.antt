use Rattle.std.proofs.Common.{◌≡◌, ◌+◌, ◌-◌, ◌^◌, sym, subst, arith}
use Rattle.std.specs.Prelude.{min}
use Rattle.fs_files.specs.Bounds.{HaveCountsUpTo}
use Rattle.fs_files.proofs.Lookups.{given_counted}
use Rattle.fs_files.proofs.nodes.Nodes.count_again.Goals as goal

pub give-requires-clause-count : goal.give-requires-clause-count
give-requires-clause-count g c = λ id row is same. let low =
    (rw (← c.self.view_is) at c.requires) id row is in omega (arith, low)

pub invariant_of-self : goal.invariant_of-self
invariant_of-self g c =
    let most = c.self.inside.most_lookups in
    let more = c.saturating_add-self-inside.result in
    let rises : more ≡ min (most + 1) (2 ^ 64 - 1) = omega (arith, c.saturating_add-self-inside.ensures) in
    subst (HaveCountsUpTo more) (sym c.give.ensures.table)
    (given_counted (g.S.NodeStore.table c.self.inside.store) most more c.self.invariant
    (λ id row there. let low = (rw (← c.self.view_is) at c.requires) id row there in omega (arith, low))
    rises c.in-Some.file c.give.result.0)
