use Rattle.std.proofs.Common.{refl}
use Rattle.fk_kernel.proofs.Aborted.{sound_aborted}
use Rattle.fk_kernel.proofs.kernel.KernelOf.abandon_all.Goals as goal

pub answer_all-requires-clause-room : goal.answer_all-requires-clause-room
answer_all-requires-clause-room g c = rw c.rows.ensures c.self.invariant.numbers.room

pub answer_all-requires-clause-absent : goal.answer_all-requires-clause-absent
answer_all-requires-clause-absent g c = rw c.rows.ensures c.self.invariant.numbers.apart

pub invariant_of-self : goal.invariant_of-self
invariant_of-self g c =
    let k = c.self.inside in
    rw (
      c.clear.ensures.entries,
      c.answer_all.ensures,
      c.rows.ensures,
      c.abort.ensures,
      c.clear-2.ensures.entries,
      c.clear-3.ensures.entries,
      c.clear-5.ensures,
    )
    (sound_aborted k.phase k.calls.entries k.answers.entries k.answers.room c.answer_all.new.answers.room k.next_call k.opens.entries k.closing.entries k.queues.queues k.queues.room c.abort.new.self.room k.nodes k.clock c.self.invariant)

pub returns : goal.returns
returns g c = rw (
  ← c.self.view_is,
  c.clear.ensures.entries,
  c.answer_all.ensures,
  c.rows.ensures,
  c.abort.ensures,
  c.clear-2.ensures.entries,
  c.clear-3.ensures.entries,
  c.clear-4.ensures,
  c.clear-5.ensures,
) refl
