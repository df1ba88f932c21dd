use Rattle.std.proofs.Common.{refl}
use Rattle.fk_syscalls.specs.Values.{answer_of}
use Rattle.fk_kernel.proofs.Nodes.{sorted_gone}
use Rattle.fk_kernel.proofs.Sound.{sound_answered, there_is, length_gone}
use Rattle.fk_kernel.proofs.OpenFilesKept.{answered_files}
use Rattle.fuse_spec.specs.Values.Maps.{get}
use Rattle.fk_kernel.proofs.Rooms.{some_room}
use Rattle.fk_kernel.proofs.Served.{served_answered}
use Rattle.fk_kernel.proofs.kernel.KernelOf.finish.Goals as goal

pub answer-requires-clause-absent : goal.answer-requires-clause-absent
answer-requires-clause-absent g c =
    let k = c.self.inside in
    c.self.invariant.numbers.apart c.args.call (there_is (get k.calls.entries c.args.call)
    (rw (← c.self.view_is) at c.requires.unanswered))

pub answer-requires-clause-room : goal.answer-requires-clause-room
answer-requires-clause-room g c =
    let k = c.self.inside in
    let there = there_is (get k.calls.entries c.args.call) (rw (← c.self.view_is) at c.requires.unanswered) in
    some_room _ (length_gone k.calls.entries c.args.call there) c.self.invariant.numbers.room

pub invariant_of-self : goal.invariant_of-self
invariant_of-self g c =
    let k = c.self.inside in
    let there = there_is (get k.calls.entries c.args.call) (rw (← c.self.view_is) at c.requires.unanswered) in
    let old = c.self.invariant in
    rw (c.answer.ensures.calls, c.answer.ensures.answers)
    (record {
      numbers = sound_answered k.calls.entries k.answers.entries k.answers.room k.next_call old.numbers c.args.call
          (answer_of c.args.answer) c.answer.new.answers.room there c.answer.ensures.room;
      idle = λ down. rw (old.idle down) refl;
      sorted = sorted_gone k.calls.entries c.args.call old.sorted;
      files = answered_files k.calls.entries k.opens.entries k.closing.entries k.next_call old.files c.args.call;
      releases = old.releases;
      nodes = old.nodes;
      served = served_answered old.served c.args.call (rw (← c.self.view_is) at c.requires.ended);
      clock_low = old.clock_low;
    })
