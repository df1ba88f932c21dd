use Rattle.std.proofs.Common.{length, ◌<◌, refl}
use Rattle.fk_kernel.proofs.Sound.{gone_absent, sound_begun_answered}
use Rattle.fk_kernel.proofs.OpenFilesKept.{numbered_files}
use Rattle.fk_kernel.proofs.Rooms.{answer_room, itself}
use Rattle.fk_kernel.proofs.StillSound.{more_answers}
use Rattle.fk_kernel.proofs.kernel.KernelOf.begin_answered.Goals as goal

pub invariant_of-self-2 : goal.invariant_of-self-2
invariant_of-self-2 g c =
    let k = c.self.inside in
    let few : length k.calls.entries < 64 = rw (← c.self.view_is) at c.requires.few in
    let low = rw (← c.self.view_is) at c.requires.number in
    let room = answer_room few c.in-Ok.ensures.room c.put.ensures.room in
    let old = c.self.invariant in
    rw (c.put.ensures.entries, c.in-Ok.ensures.entries)
    (record {
      numbers = sound_begun_answered k.calls.entries k.answers.entries k.answers.room k.next_call old.numbers c.new.result
          c.put.new.self.room low room;
      idle = old.idle;
      sorted = old.sorted;
      nodes = old.nodes;
      files = numbered_files k.calls.entries k.opens.entries k.closing.entries k.next_call old.files;
      releases = old.releases;
      served = old.served;
      clock_low = old.clock_low;
    })

pub returns-clause-vfs : goal.returns-clause-vfs
returns-clause-vfs g c =
    let k = c.self.inside in
    let absent = c.self.invariant.numbers.calls_below k.next_call (itself k.next_call) in
    rw (
      ← c.self.view_is,
      c.put.ensures.entries,
      c.in-Ok.ensures.entries,
      c.new.ensures,
      gone_absent k.calls.entries k.next_call absent,
    ) refl

pub invariant_of-self : goal.invariant_of-self
invariant_of-self g c = rw c.reserve.ensures.entries (more_answers c.self.invariant c.reserve.ensures.kept)
