use Rattle.std.proofs.Common.{◌≡◌, ◌+◌, ◌-◌, ◌^◌, sym, ap, subst, ◌∙◌, arith}
use Rattle.std.specs.Prelude.{min}
use Rattle.fuse_spec.specs.Server.Server.{generation_in}
use Rattle.fuse_spec.specs.Server.Nodes.{row_of}
use Rattle.fs_files.specs.Bounds.{HaveCountsUpTo}
use Rattle.fs_files.proofs.Lookups.{given_counted}
use Rattle.fs_files.proofs.NodeLemmas.{two_of, generation_is}
use Rattle.fs_files.proofs.nodes.Nodes.give.Goals as goal

pub returns-clause-two : goal.returns-clause-two
returns-clause-two g c =
    two_of (g.S.NodeStore.table c.self.inside.store) c.args.file c.give.result.0 c.lemma_sound.ensures c.give.ensures.id

pub returns-clause-generation : goal.returns-clause-generation
returns-clause-generation g c =
    let t = g.S.NodeStore.table c.self.inside.store in
    let two = two_of t c.args.file c.give.result.0 c.lemma_sound.ensures c.give.ensures.id in
    c.give.ensures.generation ∙ sym (generation_is t c.args.file c.give.result.0 two) ∙ ap
    (λ x. generation_in (row_of x c.give.result.0)) (sym c.give.ensures.table)

pub invariant_of-self : goal.invariant_of-self
invariant_of-self g c =
    let most = c.self.inside.most_lookups in
    let more = c.saturating_add-self-inside.result in
    let rises : more ≡ min (most + 1) (2 ^ 64 - 1) = omega (arith, c.saturating_add-self-inside.ensures) in
    subst (HaveCountsUpTo more) (sym c.give.ensures.table)
    (given_counted (g.S.NodeStore.table c.self.inside.store) most more c.self.invariant
    (rw (← c.self.view_is) at c.requires.count) rises c.args.file c.give.result.0)
