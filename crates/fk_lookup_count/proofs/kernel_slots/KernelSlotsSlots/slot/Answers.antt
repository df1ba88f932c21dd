use Rattle.std.proofs.Common.{sym, ◌∙◌}
use Rattle.fk_lookup_count.proofs.NumberMaps.{get-map_of}
use Rattle.fk_lookup_count.proofs.kernel_slots.KernelSlotsSlots.slot.Goals as goal

pub returns : goal.returns
returns g c = rw (← c.self.view_is)
    (c.copied.ensures ∙ c.get.ensures ∙ sym (get-map_of c.self.inside.slots.entries c.args.id))
