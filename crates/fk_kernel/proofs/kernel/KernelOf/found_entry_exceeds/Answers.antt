use Rattle.std.proofs.Common.{◌<◌, sym, ◌∙◌, arith}
use Rattle.fuse_spec.specs.Kernel.Uniques.{numbers_left_from}
use Rattle.fk_kernel.proofs.CountersInRange.{useless_within, stale_within, made_within, found_within}
use Rattle.fk_kernel.proofs.kernel.KernelOf.found_entry_exceeds.Goals as goal

pub next_request_exceeds-requires-clause-none_left : goal.next_request_exceeds-requires-clause-none_left
next_request_exceeds-requires-clause-none_left g c =
    rw (← c.self.view_is) (sym c.numbers_left.ensures ∙ c.if-numbers_left-ne0.false)

pub returns-then-numbers_left-ne0-clause-within : goal.returns-then-numbers_left-ne0-clause-within
returns-then-numbers_left-ne0-clause-within g c = λ stays.
    let now = c.args.self.now in
    let here : 0 < numbers_left_from c.self.inside.queues.queues.next =
    omega (arith, c.numbers_left.ensures, c.if-numbers_left-ne0.true) in
    let left : 0 < numbers_left_from now.queues.next = rw (← c.self.view_is) here in
    found_within now c.args.unique c.args.call c.requires.even c.requires.waits c.lemma_in_range.ensures left c.args.entry.now c.args.valid_ms c.requires.awaits

pub returns-else-looks_up-clause-within : goal.returns-else-looks_up-clause-within
returns-else-looks_up-clause-within g c = λ stays.
    let now = c.args.self.now in
    let aw = c.requires.awaits in
    made_within now c.args.unique c.args.call c.requires.even c.requires.waits c.lemma_in_range.ensures c.args.entry.now c.args.valid_ms aw (sym c.in-Usable.ensures) (λ d w ws p e. c.looks_up.ensures.other c.if-looks_up.false d w ws p (sym c.requires.unanswered ∙ aw.at ∙ e))

pub returns-in-InvalidNodeid-clause-within : goal.returns-in-InvalidNodeid-clause-within
returns-in-InvalidNodeid-clause-within g c = λ stays.
    let now = c.args.self.now in
    useless_within now c.args.unique c.args.call c.requires.even c.requires.waits c.lemma_in_range.ensures c.args.entry.now c.args.valid_ms c.requires.awaits (sym c.in-InvalidNodeid.ensures)

pub returns-in-Stale-clause-within : goal.returns-in-Stale-clause-within
returns-in-Stale-clause-within g c = λ stays.
    let now = c.args.self.now in
    stale_within now c.args.unique c.args.call c.requires.even c.requires.waits c.lemma_in_range.ensures c.args.entry.now c.args.valid_ms c.requires.awaits c.args.entry.now.nodeid (sym c.in-Stale.ensures)
