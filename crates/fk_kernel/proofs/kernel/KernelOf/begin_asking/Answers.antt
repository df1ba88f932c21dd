use Rattle.std.proofs.Common.{length, ◌<◌, ◌≡◌, true, false, true≢false, sym, ◌∙◌}
use Rattle.fuse_spec.specs.Kernel.Kernel.{is_aborted}
use Rattle.fuse_spec.specs.Kernel.Refusals.{is_ready}
use Rattle.fk_kernel.proofs.Phases.{live_if}
use Rattle.fk_kernel.proofs.Sound.{sound_begun_asking}
use Rattle.fk_kernel.proofs.Nodes.{still_counted, sorted_put}
use Rattle.fk_kernel.proofs.OpenFilesKept.{asking_files}
use Rattle.fk_kernel.proofs.Rooms.{still_room, room_left, call_room, itself}
use Rattle.fk_kernel.proofs.StillSound.{more_answers, more_room}
use Rattle.fk_kernel.proofs.Served.{none_for, served_asking}
use Rattle.fk_kernel.proofs.kernel.KernelOf.begin_asking.Goals as goal

pub invariant_of-self : goal.invariant_of-self
invariant_of-self g c =
    rw (c.reserve_call.ensures.state, c.reserve_call.ensures.calls, c.reserve_call.ensures.answers)
    (more_room (more_answers c.self.invariant c.reserve_call.ensures.answers_kept) c.reserve_call.ensures.queues_kept)

pub invariant_of-self-2 : goal.invariant_of-self-2
invariant_of-self-2 g c =
    let k = c.self.inside in
    let few : length k.calls.entries < 64 = rw (← c.self.view_is) at c.requires.few in
    let low = rw (← c.self.view_is) at c.requires.number in
    let room = call_room few c.in_ok-reserve_call.ensures.answers_room in
    let ready : is_ready k.phase ≡ true = rw (← c.self.view_is) at c.requires.ready in
    let going : is_aborted k.phase ≡ false = rw (← c.self.view_is) at c.requires.not_aborted in
    let live = live_if k.phase ready going in
    let old = c.self.invariant in
    rw (
      c.put.ensures.entries,
      c.reserve_call.ensures.calls,
      c.reserve_call.ensures.answers,
      c.enqueue-unique.ensures.state,
      c.reserve_call.ensures.state,
    )
    (record {
      numbers = sound_begun_asking k.calls.entries k.answers.entries k.answers.room k.next_call old.numbers c.args.state
          c.reserve_call.new.answers.room low room;
      idle = λ down. absurd (true≢false (sym live ∙ down));
      sorted = sorted_put k.calls.entries k.next_call c.args.state old.sorted;
      nodes = still_counted k.nodes k.queues.room.forgets c.enqueue-unique.new.self.room.forgets old.nodes
          (still_room c.reserve_call.ensures.queues_kept.forgets c.enqueue-unique.ensures.forgets_room);
      files = asking_files k.calls.entries k.opens.entries k.closing.entries k.next_call old.files c.args.state;
      releases = room_left c.in_ok-reserve_call.ensures.queues_room c.enqueue-unique.ensures.requests_room;
      served = served_asking old.served k.next_call c.args.state
          (none_for old.served k.next_call (old.numbers.calls_below k.next_call (itself k.next_call)));
      clock_low = old.clock_low;
    })
