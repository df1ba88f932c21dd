use Rattle.std.proofs.Common.{◌<◌, sym, ◌∙◌, arith}
use Rattle.fk_lookup_count.proofs.SlotLemmas.{no_slot, no_node, node_is, nodes-remove, room-remove}
use Rattle.fk_lookup_count.proofs.counts.CountsOf.take_out.Goals as goal

pub returns-in_err-slot-clause-node : goal.returns-in_err-slot-clause-node
returns-in_err-slot-clause-node g c = c.from_residual.ensures ∙ sym
    (no_slot _ c.args.id (sym c.take_out.ensures.stood ∙ c.in_err-slot.was))

pub returns-in_err-slot-clause-nodes : goal.returns-in_err-slot-clause-nodes
returns-in_err-slot-clause-nodes g c = rw c.take_out.ensures.slots (nodes-remove _ c.args.id)

pub returns-in_err-slot-clause-kept : goal.returns-in_err-slot-clause-kept
returns-in_err-slot-clause-kept g c = rw c.take_out.ensures.slots (room-remove _ c.args.id)

pub returns-then-slot-eq0-clause-node : goal.returns-then-slot-eq0-clause-node
returns-then-slot-eq0-clause-node g c = sym (no_node _ c.args.id c.in_ok-slot.slot
    (sym c.take_out.ensures.stood ∙ c.in_ok-slot.was) c.if-slot-eq0.true)

pub returns-then-slot-eq0-clause-nodes : goal.returns-then-slot-eq0-clause-nodes
returns-then-slot-eq0-clause-nodes g c = rw c.take_out.ensures.slots (nodes-remove _ c.args.id)

pub returns-then-slot-eq0-clause-kept : goal.returns-then-slot-eq0-clause-kept
returns-then-slot-eq0-clause-kept g c = rw c.take_out.ensures.slots (room-remove _ c.args.id)

pub returns-clause-node : goal.returns-clause-node
returns-clause-node g c =
    let some : 0 < c.in_ok-slot.slot.count = omega arith in
    sym (node_is _ c.args.id c.in_ok-slot.slot (sym c.take_out.ensures.stood ∙ c.in_ok-slot.was) some)

pub returns-clause-nodes : goal.returns-clause-nodes
returns-clause-nodes g c = rw c.take_out.ensures.slots (nodes-remove _ c.args.id)

pub returns-clause-kept : goal.returns-clause-kept
returns-clause-kept g c = rw c.take_out.ensures.slots (room-remove _ c.args.id)
