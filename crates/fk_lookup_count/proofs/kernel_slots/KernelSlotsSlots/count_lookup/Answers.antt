use Rattle.std.proofs.Common.{ap, refl, sym, ◌∙◌}
use Rattle.std.specs.FinMap.{insert}
use Rattle.std.specs.Option.{option_copied_mut, unwrap_or}
use Rattle.fk_lookup_count.specs.Slots.{slot_counted_more, slot_looked_up}
use Rattle.fk_lookup_count.proofs.NumberMaps.{map_of, get-map_of, map_of-put}
use Rattle.fk_lookup_count.proofs.SlotLemmas.{written_or}
use Rattle.fk_lookup_count.proofs.kernel_slots.KernelSlotsSlots.count_lookup.Goals as goal

pub returns-in_default-clause-stood : goal.returns-in_default-clause-stood
returns-in_default-clause-stood g c =
    let none = sym c.get_mut.ensures.value ∙ ap option_copied_mut c.in_default.is in
    rw (← c.self.view_is) (sym (get-map_of c.self.inside.slots.entries c.args.id ∙ none))

pub returns-in_default-clause-slots : goal.returns-in_default-clause-slots
returns-in_default-clause-slots g c =
    let old = c.self.inside.slots.entries in
    let none = get-map_of old c.args.id ∙ sym c.get_mut.ensures.value ∙ ap option_copied_mut c.in_default.is in
    rw (← c.self.view_is) (sym (ap (slot_looked_up (map_of old) c.args.id c.args.generation) none))

pub one_more-requires : goal.one_more-requires
one_more-requires g c =
    let there = get-map_of c.self.inside.slots.entries c.args.id ∙ sym c.in-Some.ensures.value in
    (rw (← c.self.view_is, there) at c.requires.fits) _ refl

pub returns-clause-stood : goal.returns-clause-stood
returns-clause-stood g c =
    rw (← c.self.view_is) (c.in-Some.ensures.value ∙ sym (get-map_of c.self.inside.slots.entries c.args.id))

pub returns-clause-slots : goal.returns-clause-slots
returns-clause-slots g c =
    let old = c.self.inside.slots.entries in
    let stood = c.in-Some.slot.now in
    let there = get-map_of old c.args.id ∙ sym c.in-Some.ensures.value in
    rw (← c.self.view_is) (map_of-put old c.args.id c.unwrap_or.result
    ∙ ap (insert (map_of old) c.args.id) c.unwrap_or.ensures
    ∙ ap (λ more. insert (map_of old) c.args.id (unwrap_or more stood)) c.one_more.ensures
    ∙ written_or (map_of old) c.args.id stood (slot_counted_more c.args.generation stood) there
    ∙ ap (slot_looked_up (map_of old) c.args.id c.args.generation) (sym there))
