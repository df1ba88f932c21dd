use Rattle.std.proofs.Common.{◌<◌, true≢false, ap, is_some, sym, ◌∙◌, arith}
use Rattle.std.specs.FinMap.{get as slot_of}
use Rattle.fk_lookup_count.specs.Slots.{nodes_in}
use Rattle.fk_lookup_count.proofs.LookupLemmas.{none_unlike, room_looked_up, slot_fits, new_there, again_there, is_unlike, is_alike}
use Rattle.fk_lookup_count.proofs.SlotLemmas.{no_node}
use Rattle.fuse_spec.specs.Values.Maps.{get}
use Rattle.fk_lookup_count.proofs.counts.CountsOfCountTable.learn.Goals as goal

pub count_lookup-requires : goal.count_lookup-requires
count_lookup-requires g c = record {
  fits = λ slot is. slot_fits (g.S.Slots.slots c.args.self.now.slots) c.args.id c.args.generation slot is c.requires.fits;
}

pub returns-in_default-clause-unlike : goal.returns-in_default-clause-unlike
returns-in_default-clause-unlike g c = absurd (true≢false (sym (ap is_some c.in_default.ensures.stood ∙ c.requires.room)))

pub returns-in_default-clause-ok : goal.returns-in_default-clause-ok
returns-in_default-clause-ok g c = absurd (true≢false (sym (ap is_some c.in_default.ensures.stood ∙ c.requires.room)))

pub returns-in_default-clause-kept : goal.returns-in_default-clause-kept
returns-in_default-clause-kept g c = absurd (true≢false (sym (ap is_some c.in_default.ensures.stood ∙ c.requires.room)))

pub returns-then-slot-eq0-clause-unlike : goal.returns-then-slot-eq0-clause-unlike
returns-then-slot-eq0-clause-unlike g c =
    let s = g.S.Slots.slots c.args.self.now.slots in
    none_unlike c.args.generation (get (nodes_in s) c.args.id)
    (no_node s c.args.id c.in-Some.slot (sym c.in-Some.ensures.stood) c.if-slot-eq0.true)

pub returns-then-slot-eq0-clause-ok : goal.returns-then-slot-eq0-clause-ok
returns-then-slot-eq0-clause-ok g c = ap nodes_in c.in-Some.ensures.slots ∙ new_there
    (g.S.Slots.slots c.args.self.now.slots) c.args.id c.args.generation c.in-Some.slot (sym c.in-Some.ensures.stood)
    c.if-slot-eq0.true

pub returns-then-slot-eq0-clause-kept : goal.returns-then-slot-eq0-clause-kept
returns-then-slot-eq0-clause-kept g c = rw c.in-Some.ensures.slots
    (room_looked_up (g.S.Slots.slots c.args.self.now.slots) c.args.id c.args.generation
    (slot_of (g.S.Slots.slots c.args.self.now.slots) c.args.id))

pub returns-then-slot-generation-clause-unlike : goal.returns-then-slot-generation-clause-unlike
returns-then-slot-generation-clause-unlike g c =
    let some : 0 < c.in-Some.slot.count = omega arith in
    is_unlike (g.S.Slots.slots c.args.self.now.slots) c.args.id c.args.generation c.in-Some.slot
    (sym c.in-Some.ensures.stood) some c.if-slot-generation.true

pub returns-clause-unlike : goal.returns-clause-unlike
returns-clause-unlike g c =
    let some : 0 < c.in-Some.slot.count = omega arith in
    is_alike (g.S.Slots.slots c.args.self.now.slots) c.args.id c.args.generation c.in-Some.slot
    (sym c.in-Some.ensures.stood) some c.if-slot-generation.false

pub returns-clause-ok : goal.returns-clause-ok
returns-clause-ok g c =
    let some : 0 < c.in-Some.slot.count = omega arith in
    ap nodes_in c.in-Some.ensures.slots ∙ again_there (g.S.Slots.slots c.args.self.now.slots) c.args.id
    c.args.generation c.in-Some.slot (sym c.in-Some.ensures.stood) some c.if-slot-generation.false

pub returns-clause-kept : goal.returns-clause-kept
returns-clause-kept g c = rw c.in-Some.ensures.slots
    (room_looked_up (g.S.Slots.slots c.args.self.now.slots) c.args.id c.args.generation
    (slot_of (g.S.Slots.slots c.args.self.now.slots) c.args.id))
