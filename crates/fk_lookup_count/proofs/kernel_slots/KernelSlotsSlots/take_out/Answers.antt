use Rattle.std.proofs.Common.{ap, sym, ◌∙◌}
use Rattle.fk_lookup_count.proofs.NumberMaps.{map_of, get-map_of, map_of-remove}
use Rattle.fk_lookup_count.proofs.kernel_slots.KernelSlotsSlots.take_out.Goals as goal

pub returns-clause-stood : goal.returns-clause-stood
returns-clause-stood g c = rw (← c.self.view_is)
    (c.remove.ensures.value ∙ sym (get-map_of c.self.inside.slots.entries c.args.id))

pub returns-clause-slots : goal.returns-clause-slots
returns-clause-slots g c = rw (← c.self.view_is)
    (ap map_of c.remove.ensures.entries ∙ map_of-remove c.self.inside.slots.entries c.args.id)
