use Rattle.std.proofs.Common.{◌≡◌, rules, refl, None}
use Rattle.std.specs.FinMap.{get}
use Rattle.fk_lookup_count.proofs.SlotLemmas.{nodes-room, room-insert, room_there}
use Rattle.fk_lookup_count.proofs.counts.CountsOfCountTable.reserve.Goals as goal

pub returns-clause-counted : goal.returns-clause-counted
returns-clause-counted g c =
    let none : get (g.S.Slots.slots c.args.self.now.slots) c.args.id ≡ None = search rules in
    rw c.in_ok-add.ensures.ok (nodes-room _ c.args.id _ refl none)

pub returns-clause-room : goal.returns-clause-room
returns-clause-room g c = rw c.in_ok-add.ensures.ok (room_there _ c.args.id _)

pub returns-clause-kept : goal.returns-clause-kept
returns-clause-kept g c = rw c.in_ok-add.ensures.ok (room-insert _ c.args.id _)
