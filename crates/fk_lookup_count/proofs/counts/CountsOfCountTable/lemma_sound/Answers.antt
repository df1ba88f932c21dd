use Rattle.std.proofs.Common.{arith}
use Rattle.fk_lookup_count.proofs.SlotLemmas.{sorted_nodes, fewer_nodes}
use Rattle.fk_lookup_count.proofs.counts.CountsOfCountTable.lemma_sound.Goals as goal

pub returns-clause-sorted : goal.returns-clause-sorted
returns-clause-sorted g c = sorted_nodes _

pub returns-clause-few : goal.returns-clause-few
returns-clause-few g c =
    let fewer = fewer_nodes (g.S.Slots.slots c.args.self.now.slots) in
    omega (arith, fewer, c.len-slots.ensures.len, c.len-slots.ensures.small)
