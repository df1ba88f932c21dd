use Rattle.std.proofs.Common.{ap, sym, ◌∙◌}
use Rattle.fk_lookup_count.specs.CountedNodes.{listed_counts}
use Rattle.fk_lookup_count.specs.Slots.{nodes_among}
use Rattle.fk_lookup_count.proofs.NumberMaps.{entries-map_of}
use Rattle.fk_lookup_count.proofs.kernel_slots.KernelSlotsSlots.nodes.Goals as goal

pub returns : goal.returns
returns g c =
    let same = ap (λ es. listed_counts (nodes_among es)) (c.as_slice.ensures.value ∙ c.in_ok-slots.ensures
    ∙ sym (entries-map_of c.self.inside.slots.entries c.lemma_sound.ensures.sorted)) in
    rw (← c.self.view_is, ← same) c.list_nodes.ensures
