use Rattle.std.proofs.Common.{refl, sym, ◌∙◌, Some, None}
use Rattle.std.specs.Prelude.{is_some}
use Rattle.fk_kernel.proofs.Sound.{sound_collected, more_room, gone_absent, first_found}
use Rattle.fk_kernel.proofs.kernel.KernelOf.collect.Goals as goal

pub invariant_of-self : goal.invariant_of-self
invariant_of-self g c =
    let k = c.self.inside in
    let old = c.self.invariant in
    let room = more_room k.answers.room c.remove.new.self.room (is_some c.remove.result) c.remove.ensures.room in
    rw c.remove.ensures.entries
    (record { numbers = sound_collected k.calls.entries k.answers.entries k.answers.room k.next_call old.numbers c.in-Some.call c.remove.new.self.room room; idle = old.idle; sorted = old.sorted; nodes = old.nodes; files = old.files; releases = old.releases; served = old.served; clock_low = old.clock_low })

pub invariant_of-self-2 : goal.invariant_of-self-2
invariant_of-self-2 g c =
    let k = c.self.inside in
    let old = c.self.invariant in
    let room = more_room k.answers.room c.remove.new.self.room (is_some c.remove.result) c.remove.ensures.room in
    rw c.remove.ensures.entries
    (record { numbers = sound_collected k.calls.entries k.answers.entries k.answers.room k.next_call old.numbers c.in-Some.call c.remove.new.self.room room; idle = old.idle; sorted = old.sorted; nodes = old.nodes; files = old.files; releases = old.releases; served = old.served; clock_low = old.clock_low })

pub returns-in_default-remove-clause-answer : goal.returns-in_default-remove-clause-answer
returns-in_default-remove-clause-answer g c =
    let entries = c.self.inside.answers.entries in
    let first = sym c.first_key.ensures ∙ c.in-Some.is in
    rw (← c.self.view_is) (first_found entries c.in-Some.call None first
    (sym c.in_default-remove.is ∙ c.remove.ensures.value))

pub returns-in_default-remove-clause-none : goal.returns-in_default-remove-clause-none
returns-in_default-remove-clause-none g c =
    let entries = c.self.inside.answers.entries in
    let absent = sym c.remove.ensures.value ∙ c.in_default-remove.is in
    rw (← c.self.view_is, c.remove.ensures.entries, gone_absent entries c.in-Some.call absent) refl

pub returns-clause-answer : goal.returns-clause-answer
returns-clause-answer g c =
    let entries = c.self.inside.answers.entries in
    let first = sym c.first_key.ensures ∙ c.in-Some.is in
    rw (← c.self.view_is, c.into_answer.ensures) (first_found entries c.in-Some.call
    (Some c.in-Some-remove.answer) first (sym c.in-Some-remove.is ∙ c.remove.ensures.value))
