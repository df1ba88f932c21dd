use Rattle.std.proofs.Common.{true≢false, sym, ap, arith}
use Rattle.slab.specs.Slab.{Slab}
use Rattle.fs_nodes.specs.declared.stored_node.StoredNode.{StoredNode}
use Rattle.fs_nodes.proofs.Slots.{has_room}
use Rattle.fs_nodes.proofs.slab_rows.SlabRowsNodeRows.reserve.Goals as goal

pub returns-in_err-reserve-2-clause-succeeds : goal.returns-in_err-reserve-2-clause-succeeds
returns-in_err-reserve-2-clause-succeeds g c = λ fits.
    let some = c.if-more-eq0.false in
    absurd (true≢false (sym (c.in_err-reserve-2.ensures.succeeds
    (has_room _ _ _ c.args.more (omega arith) fits).slots)))

pub returns-then-capacity-gt-MOST-clause-succeeds : goal.returns-then-capacity-gt-MOST-clause-succeeds
returns-then-capacity-gt-MOST-clause-succeeds g c = λ fits.
    let some = c.if-more-eq0.false in
    let room = has_room c.args.self.now.nodes.capacity _ _ c.args.more (omega arith) fits in
    let few = room.few in
    let same = ap (λ (s : Slab StoredNode). s.capacity) (c.reserve-2.ensures.had_room room.slots) in
    let read = c.capacity.ensures.value in
    let past = c.if-capacity-gt-MOST.true in
    absurd (omega arith)
