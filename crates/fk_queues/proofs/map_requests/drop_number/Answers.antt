use Rattle.std.proofs.Common.{◌∙◌, rules, arith}
use Rattle.std.proofs.lemmas.List.Sorted.{searched}
use Rattle.fk_queues.proofs.Requests.{rises_le, gone_at, gone_none}
use Rattle.fk_queues.proofs.map_requests.drop_number.Goals as goal

pub returns-in-Ok-clause-items : goal.returns-in-Ok-clause-items
returns-in-Ok-clause-items g c =
    let numbers = c.args.numbers.now.items in
    let found = searched numbers c.args.number c.binary_search.result (search (rules, c.binary_search.ensures.position))
    (rises_le numbers c.requires) in
    let there = rw c.in-Ok.is at found in
    c.take_at-number.ensures.items ∙ gone_at c.args.number numbers c.in-Ok.place c.requires there.0 there.1

pub returns-in_default-clause-items : goal.returns-in_default-clause-items
returns-in_default-clause-items g c =
    let numbers = c.args.numbers.now.items in
    let missed = searched numbers c.args.number c.binary_search.result (search (rules, c.binary_search.ensures.position))
    (rises_le numbers c.requires) in
    let none = rw c.in_default.is at missed in
    gone_none c.args.number c.in_default.field-0 numbers none.1 none.2

pub returns-then-is_first-clause-items : goal.returns-then-is_first-clause-items
returns-then-is_first-clause-items g c =
    let first = c.is_first.ensures.0 c.if-is_first.true in
    c.take_at-first.ensures.items ∙ gone_at c.args.number c.args.numbers.now.items 0 c.requires (omega (arith, first.0)) first.1
