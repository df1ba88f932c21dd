use Rattle.std.proofs.Common.{◌≡◌, ◌<◌, None, IsSome, ap, sym, subst, ◌∙◌, arith}
use Rattle.std.specs.Option.{is_none}
use Rattle.std.specs.FinMap.{get as slot_of}
use Rattle.fuse_spec.specs.Values.Maps.{get, put}
use Rattle.fuse_spec.specs.declared.Counted.{Counted}
use Rattle.fk_lookup_count.specs.CountedNodes.{counted_once_more}
use Rattle.fk_lookup_count.specs.Slots.{nodes_in, slot_looked_up}
use Rattle.fk_lookup_count.proofs.SlotLemmas.{Slots, no_slot, no_node, node_is, nodes-insert, room-insert}
use Rattle.fk_lookup_count.proofs.LookupLemmas.{if_err, none_unlike, room_looked_up, slot_fits, new_there, again_there, is_unlike, is_alike}
use Rattle.fk_lookup_count.proofs.counts.CountsOfCountTable.reserve_and_learn.Goals as goal

pub count_lookup-requires : goal.count_lookup-requires
count_lookup-requires g c = record {
  fits = λ slot is. slot_fits (g.S.Slots.slots c.args.self.now.slots) c.args.id c.args.generation slot is c.requires.fits;
}

pub returns-in_default-clause-unlike : goal.returns-in_default-clause-unlike
returns-in_default-clause-unlike g c =
    let s = g.S.Slots.slots c.args.self.now.slots in
    none_unlike c.args.generation (get (nodes_in s) c.args.id) (no_slot s c.args.id (sym c.in_default.ensures.stood))

pub returns-in_default-clause-new : goal.returns-in_default-clause-new
returns-in_default-clause-new g c =
    let s = g.S.Slots.slots c.args.self.now.slots in
    sym (ap is_none (no_slot s c.args.id (sym c.in_default.ensures.stood)))

pub returns-in_default-clause-ok : goal.returns-in_default-clause-ok
returns-in_default-clause-ok g c =
    let s = g.S.Slots.slots c.args.self.now.slots in
    let id = c.args.id in
    let generation = c.args.generation in
    let node : Counted = record { generation = generation; count = 1 } in
    let none : slot_of s id ≡ None = sym c.in_default.ensures.stood in
    let same : g.S.Slots.slots c.count_lookup.new.self ≡ s =
    c.in_default.ensures.slots ∙ ap (slot_looked_up s id generation) none in
    ap nodes_in c.in_ok-add.ensures.ok ∙ nodes-insert _ id node (omega arith) ∙ ap
    (λ (t : Slots). put (nodes_in t) id node) same ∙ sym (ap (counted_once_more (nodes_in s) id generation) (no_slot s id none))

pub returns-in_err-add-clause-counted : goal.returns-in_err-add-clause-counted
returns-in_err-add-clause-counted g c = if_err c.from_residual.result
    (no_slot (g.S.Slots.slots c.args.self.now.slots) c.args.id (sym c.in_default.ensures.stood))

pub returns-in_default-clause-kept : goal.returns-in_default-clause-kept
returns-in_default-clause-kept g c = λ other some.
    let s = g.S.Slots.slots c.args.self.now.slots in
    let id = c.args.id in
    let same : g.S.Slots.slots c.count_lookup.new.self ≡ s =
    c.in_default.ensures.slots ∙ ap (slot_looked_up s id c.args.generation) (sym c.in_default.ensures.stood) in
    subst (λ (t : Slots). IsSome (slot_of t other)) (sym c.in_ok-add.ensures.ok)
    (room-insert _ id _ other (subst (λ (t : Slots). IsSome (slot_of t other)) (sym same) some))

pub returns-then-slot-eq0-clause-unlike : goal.returns-then-slot-eq0-clause-unlike
returns-then-slot-eq0-clause-unlike g c =
    let s = g.S.Slots.slots c.args.self.now.slots in
    none_unlike c.args.generation (get (nodes_in s) c.args.id)
    (no_node s c.args.id c.in-Some.slot (sym c.in-Some.ensures.stood) c.if-slot-eq0.true)

pub returns-then-slot-eq0-clause-new : goal.returns-then-slot-eq0-clause-new
returns-then-slot-eq0-clause-new g c =
    let s = g.S.Slots.slots c.args.self.now.slots in
    sym (ap is_none (no_node s c.args.id c.in-Some.slot (sym c.in-Some.ensures.stood) c.if-slot-eq0.true))

pub returns-then-slot-eq0-clause-ok : goal.returns-then-slot-eq0-clause-ok
returns-then-slot-eq0-clause-ok g c = ap nodes_in c.in-Some.ensures.slots ∙ new_there
    (g.S.Slots.slots c.args.self.now.slots) c.args.id c.args.generation c.in-Some.slot (sym c.in-Some.ensures.stood)
    c.if-slot-eq0.true

pub returns-then-slot-eq0-clause-kept : goal.returns-then-slot-eq0-clause-kept
returns-then-slot-eq0-clause-kept g c = rw c.in-Some.ensures.slots
    (room_looked_up (g.S.Slots.slots c.args.self.now.slots) c.args.id c.args.generation
    (slot_of (g.S.Slots.slots c.args.self.now.slots) c.args.id))

pub returns-then-slot-generation-clause-unlike : goal.returns-then-slot-generation-clause-unlike
returns-then-slot-generation-clause-unlike g c =
    let some : 0 < c.in-Some.slot.count = omega arith in
    is_unlike (g.S.Slots.slots c.args.self.now.slots) c.args.id c.args.generation c.in-Some.slot
    (sym c.in-Some.ensures.stood) some c.if-slot-generation.true

pub returns-clause-unlike : goal.returns-clause-unlike
returns-clause-unlike g c =
    let some : 0 < c.in-Some.slot.count = omega arith in
    is_alike (g.S.Slots.slots c.args.self.now.slots) c.args.id c.args.generation c.in-Some.slot
    (sym c.in-Some.ensures.stood) some c.if-slot-generation.false

pub returns-clause-new : goal.returns-clause-new
returns-clause-new g c =
    let s = g.S.Slots.slots c.args.self.now.slots in
    let some : 0 < c.in-Some.slot.count = omega arith in
    sym (ap is_none (node_is s c.args.id c.in-Some.slot (sym c.in-Some.ensures.stood) some))

pub returns-clause-ok : goal.returns-clause-ok
returns-clause-ok g c =
    let some : 0 < c.in-Some.slot.count = omega arith in
    ap nodes_in c.in-Some.ensures.slots ∙ again_there (g.S.Slots.slots c.args.self.now.slots) c.args.id
    c.args.generation c.in-Some.slot (sym c.in-Some.ensures.stood) some c.if-slot-generation.false

pub returns-clause-kept : goal.returns-clause-kept
returns-clause-kept g c = rw c.in-Some.ensures.slots
    (room_looked_up (g.S.Slots.slots c.args.self.now.slots) c.args.id c.args.generation
    (slot_of (g.S.Slots.slots c.args.self.now.slots) c.args.id))
