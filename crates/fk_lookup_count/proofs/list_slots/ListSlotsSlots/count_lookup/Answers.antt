use Rattle.std.proofs.Common.{◌≡◌, Some, IsSome, is_some, ap, sym, ◌∙◌}
use Rattle.std.specs.FinMap.{get}
use Rattle.fk_lookup_count.specs.Slots.{written, slot_looked_up}
use Rattle.fk_lookup_count.proofs.NumberMaps.{map_of, get-map_of, map_of-put}
use Rattle.fk_lookup_count.proofs.list_slots.ListSlotsSlots.count_lookup.Goals as goal

pub returns-in-Some-clause-stood : goal.returns-in-Some-clause-stood
returns-in-Some-clause-stood g c = rw (← c.self.view_is)
    (c.replace.ensures.value ∙ sym (get-map_of c.self.inside.slots.entries c.args.id))

pub returns-in-Some-clause-slots : goal.returns-in-Some-clause-slots
returns-in-Some-clause-slots g c =
    let old = c.self.inside.slots.entries in
    let id = c.args.id in
    let stood : Some c.in_ok-slot.slot ≡ get (map_of old) id = rw c.self.view_is c.in_ok-slot.ensures in
    let some : IsSome c.replace.result = ap is_some (c.replace.ensures.value ∙ sym (get-map_of old id) ∙ sym stood) in
    rw (← c.self.view_is) (ap map_of (c.replace.ensures.entries some) ∙ map_of-put old id c.in-Some.more
    ∙ ap (written (map_of old) id) c.in-Some.ensures ∙ ap (slot_looked_up (map_of old) id c.args.generation) stood)
