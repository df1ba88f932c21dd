use Rattle.fw_world.proofs.Counters.{world_within}
use Rattle.fw_world.proofs.sides.counters.lemma_in_range.Goals as goal

pub returns : goal.returns
returns g c world same_kernel same_server =
    world_within c.args.kernel.now c.args.server.now c.lemma_in_range.ensures c.lemma_counts_in_range.ensures.none_out c.lemma_in_range-2.ensures world same_kernel same_server
