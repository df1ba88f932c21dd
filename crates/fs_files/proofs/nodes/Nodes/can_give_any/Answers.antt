use Rattle.std.proofs.Common.{◌^◌, ◌-◌, arith}
use Rattle.std.proofs.lemmas.Bool.{ltb-true}
use Rattle.fs_files.proofs.DrawsFew.{lemma_counts_in_range, generations_few}
use Rattle.fs_files.proofs.Giving.{holds_sorted}
use Rattle.fs_files.proofs.nodes.Nodes.can_give_any.Goals as goal

pub returns-then-generations_left : goal.returns-then-generations_left
returns-then-generations_left g c = λ near files few.
    let t = g.S.NodeStore.table c.self.inside.store in
    let most = c.self.inside.most_lookups in
    let low = ltb-true most (2 ^ 62 - 32) near in
    let generations = generations_few t files in
    let left = c.if-generations_left.true in
    let all = c.generations_left.ensures in
    rw (← c.self.view_is) (
      omega (arith, generations, few, left, all),
      lemma_counts_in_range t most files (holds_sorted t c.lemma_sound.ensures) c.self.invariant (omega (arith, few, low)),
    )
