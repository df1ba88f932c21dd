use Rattle.std.proofs.Common.{ap, sym, ◌∙◌}
use Rattle.fuse_spec.specs.Values.Maps.{Map, get, put}
use Rattle.fuse_spec.specs.declared.Counted.{Counted}
use Rattle.fk_lookup_count.proofs.NumberMaps.{map_of, get-map_of, map_of-put}
use Rattle.fk_lookup_count.proofs.kernel_slots.KernelSlotsSlots.add.Goals as goal

pub put-requires-clause-absent : goal.put-requires-clause-absent
put-requires-clause-absent g c =
    let old = c.self.inside.slots.entries in
    let absent = sym (get-map_of old c.args.id) ∙ (rw (← c.self.view_is) at c.requires) in
    ap (λ (es : Map Counted). get es c.args.id) c.reserve.ensures.entries ∙ absent

pub returns-clause-ok : goal.returns-clause-ok
returns-clause-ok g c =
    let old = c.self.inside.slots.entries in
    let entries = c.put.ensures.entries ∙ ap (λ (es : Map Counted). put es c.args.id c.args.slot) c.reserve.ensures.entries in
    rw (← c.self.view_is) (ap map_of entries ∙ map_of-put old c.args.id c.args.slot)
