use Rattle.std.proofs.Common.{ap, sym, length, ◌∙◌}
use Rattle.fk_lookup_count.proofs.NumberMaps.{entries-map_of}
use Rattle.fk_lookup_count.proofs.kernel_slots.KernelSlotsSlots.len.Goals as goal

pub returns-clause-len : goal.returns-clause-len
returns-clause-len g c = rw (← c.self.view_is)
    (c.len.ensures ∙ sym (ap length (entries-map_of c.self.inside.slots.entries c.lemma_sound.ensures.sorted)))
