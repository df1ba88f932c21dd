use Rattle.std.proofs.Common.{◌≡◌, ◌≢◌, ◌<◌, Bool, true, cond, nat_eq, length, Some, None, refl, sym, ap, ◌∙◌}
use Rattle.fuse_spec.specs.declared.Refusal.TheVariants.{NoMemory, Exhausted}
use Rattle.fuse_spec.specs.Values.Maps.{get}
use Rattle.fuse_spec.specs.Kernel.Uniques.{numbers_left_from}
use Rattle.fk_kernel.proofs.Closes.{closes_idle, idle_refusal}
use Rattle.fk_kernel.proofs.OpenFilesKept.{some_not_none, shut_files, numbered_files}
use Rattle.fk_kernel.proofs.Nodes.{still_counted}
use Rattle.fk_kernel.proofs.Sound.{sound_begun_answered, gone_absent}
use Rattle.fk_kernel.proofs.Rooms.{still_room, room_left, answer_room, itself}
use Rattle.fk_kernel.proofs.StillSound.{more_answers, more_room}
use Rattle.fk_kernel.proofs.Served.{served_less, more_released}
use Rattle.fk_kernel.proofs.kernel.KernelOf.close_idle.Goals as goal

pub returns-then-numbers_left-eq0-clause-refusal : goal.returns-then-numbers_left-eq0-clause-refusal
returns-then-numbers_left-eq0-clause-refusal g c =
    let now = c.args.self.now in
    let k = c.self.inside in
    let old = c.self.invariant in
    let here : get k.opens.entries c.args.open_call ≡ Some c.args.opened = rw (← c.self.view_is) at c.requires.open in
    let there : get k.opens.entries c.args.open_call ≢ None =
    some_not_none (get k.opens.entries c.args.open_call) c.args.opened here in
    let none : get now.closing c.args.open_call ≡ None =
    rw (← c.self.view_is) (old.files.closed_once c.args.open_call there) in
    let fresh : get now.vfs.calls now.vfs.next_call ≡ None =
    rw (← c.self.view_is) (old.numbers.calls_below k.next_call (itself k.next_call)) in
    let left : nat_eq (numbers_left_from now.queues.next) 0 ≡ true =
    rw (← c.self.view_is, ← c.numbers_left.ensures, c.if-numbers_left-eq0.true) refl in
    sym (idle_refusal now c.args.open_call c.args.opened c.requires.not_aborted c.requires.open none fresh c.requires.ready c.requires.few c.requires.number c.requires.idle ∙ ap (λ (b : Bool). cond b Exhausted NoMemory) left)

pub invariant_of-self-2 : goal.invariant_of-self-2
invariant_of-self-2 g c =
    let k = c.self.inside in
    let old = c.self.invariant in
    let few : length k.calls.entries < 64 = rw (← c.self.view_is) at c.requires.few in
    let low = rw (← c.self.view_is) at c.requires.number in
    let room = answer_room few c.in-Ok.ensures.room c.put.ensures.room in
    let numbers = sound_begun_answered k.calls.entries k.answers.entries k.answers.room k.next_call old.numbers c.new.result c.put.new.self.room low room in
    rw (
      c.put.ensures.entries,
      c.in-Ok.ensures.entries,
      c.remove-file.ensures.entries,
      c.enqueue-unique.ensures.state,
      c.reserve_request.ensures.state,
    )
    (record {
      numbers = numbers;
      idle = old.idle;
      sorted = old.sorted;
      files = numbered_files k.calls.entries _ k.closing.entries k.next_call
          (shut_files k.calls.entries k.opens.entries k.closing.entries k.next_call old.files c.args.open_call);
      releases = room_left c.in_ok-reserve_request.ensures.room c.enqueue-unique.ensures.requests_room;
      nodes = still_counted k.nodes k.queues.room.forgets
          c.enqueue-unique.new.self.room.forgets old.nodes
          (still_room c.reserve_request.ensures.kept.forgets c.enqueue-unique.ensures.forgets_room);
      served = served_less old.served (more_released k.queues.queues c.args.opened);
      clock_low = old.clock_low;
    })

pub returns-clause-begun : goal.returns-clause-begun
returns-clause-begun g c =
    let now = c.args.self.now in
    let k = c.self.inside in
    let old = c.self.invariant in
    let here : get k.opens.entries c.args.open_call ≡ Some c.args.opened = rw (← c.self.view_is) at c.requires.open in
    let there : get k.opens.entries c.args.open_call ≢ None =
    some_not_none (get k.opens.entries c.args.open_call) c.args.opened here in
    let none : get now.closing c.args.open_call ≡ None =
    rw (← c.self.view_is) (old.files.closed_once c.args.open_call there) in
    let fresh : get now.vfs.calls now.vfs.next_call ≡ None =
    rw (← c.self.view_is) (old.numbers.calls_below k.next_call (itself k.next_call)) in
    let fresh_inside : get k.calls.entries k.next_call ≡ None = old.numbers.calls_below k.next_call (itself k.next_call) in
    rw (
      closes_idle now c.args.open_call c.args.opened c.requires.not_aborted c.requires.open none fresh c.requires.idle,
      ← c.self.view_is,
      c.put.ensures.entries,
      c.in-Ok.ensures.entries,
      c.remove-file.ensures.entries,
      c.enqueue-unique.ensures.state,
      c.reserve_request.ensures.state,
      c.new.ensures,
      gone_absent k.calls.entries k.next_call fresh_inside,
    ) refl

pub invariant_of-self : goal.invariant_of-self
invariant_of-self g c = rw c.reserve.ensures.entries (more_answers c.self.invariant c.reserve.ensures.kept)

pub invariant_of-self-in_err-reserve_request : goal.invariant_of-self-in_err-reserve_request
invariant_of-self-in_err-reserve_request g c = rw (c.reserve_request.ensures.state, c.reserve.ensures.entries)
    (more_room (more_answers c.self.invariant c.reserve.ensures.kept) c.reserve_request.ensures.kept)
