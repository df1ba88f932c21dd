use Rattle.std.proofs.Common.{◌≡◌, ◌≢◌, ◌≤◌, ◌<◌, ◌^◌, length, Some, None, refl, sym, ap, ◌∙◌}
use Rattle.std.proofs.lemmas.Result.{err_from_is_err_and}
use Rattle.fuse_spec.specs.Values.Maps.{get}
use Rattle.fuse_spec.specs.Calls.Calls as call
use Rattle.fuse_spec.specs.Kernel.Refusals.{or_no_memory}
use Rattle.fk_kernel.specs.Refused.{begun_refusal}
use Rattle.fk_kernel.proofs.Closes.{closes_in_use, used_unrefused}
use Rattle.fk_kernel.proofs.OpenFilesKept.{some_not_none, closed_files, numbered_files}
use Rattle.fk_kernel.proofs.Nodes.{still_counted}
use Rattle.fk_kernel.proofs.Sound.{sound_begun_answered, gone_absent, length_put}
use Rattle.fk_kernel.proofs.Rooms.{answer_room, itself, still_room}
use Rattle.fk_kernel.proofs.StillSound.{more_answers, more_room}
use Rattle.fk_kernel.proofs.kernel.KernelOf.close_in_use.Given as given
use Rattle.fk_kernel.proofs.kernel.KernelOf.close_in_use.Goals.{After-lemma_sound}
use Rattle.fk_kernel.proofs.kernel.KernelOf.close_in_use.Goals as goal

-- the file is not closed yet
not_closed : (g : given.Over) (c : After-lemma_sound g) → get c.args.self.now.closing c.args.open_call ≡ None
not_closed g c =
    let k = c.self.inside in
    let here : get k.opens.entries c.args.open_call ≡ Some c.args.opened = rw (← c.self.view_is) at c.requires.open in
    let there : get k.opens.entries c.args.open_call ≢ None =
    some_not_none (get k.opens.entries c.args.open_call) c.args.opened here in
    rw (← c.self.view_is) (c.self.invariant.files.closed_once c.args.open_call there)

-- no call has the next number
no_such_call : (g : given.Over) (c : After-lemma_sound g)
    → get c.args.self.now.vfs.calls c.args.self.now.vfs.next_call ≡ None
no_such_call g c =
    let k = c.self.inside in
    rw (← c.self.view_is) (c.self.invariant.numbers.calls_below k.next_call (itself k.next_call))

-- nothing but out of memory refuses the close
unrefused : (g : given.Over) (c : After-lemma_sound g)
    → begun_refusal c.args.self.now (call.close c.args.open_call) ≡ None
unrefused g c =
    let now = c.args.self.now in
    let high : now.queues.next ≤ 2 ^ 62 = rw (← c.self.view_is) c.lemma_sound.ensures.sound.next.high in
    used_unrefused now c.args.open_call c.args.opened c.requires.not_aborted c.requires.open (not_closed g c)
    (no_such_call g c) c.requires.ready c.requires.few c.requires.number c.requires.used high

pub returns-in_default-clause-refusal : goal.returns-in_default-clause-refusal
returns-in_default-clause-refusal g c = sym (ap or_no_memory
    (unrefused g (goal.at.returns-in_default-clause-refusal g c).After-lemma_sound))

pub returns-in_default-reserve-clause-refusal : goal.returns-in_default-reserve-clause-refusal
returns-in_default-reserve-clause-refusal g c = sym (ap or_no_memory
    (unrefused g (goal.at.returns-in_default-reserve-clause-refusal g c).After-lemma_sound))

pub returns-in_err-reserve_request-clause-refusal : goal.returns-in_err-reserve_request-clause-refusal
returns-in_err-reserve_request-clause-refusal g c =
    let judged = unrefused g (goal.at.returns-in_err-reserve_request-clause-refusal g c).After-lemma_sound in
    let p = err_from_is_err_and c.from_residual.result c.from_residual.ensures.1 in
    rw (p.1, p.2) (c.in_err-reserve_request.ensures.refusal ∙ sym (ap or_no_memory judged))

pub invariant_of-self-2 : goal.invariant_of-self-2
invariant_of-self-2 g c =
    let k = c.self.inside in
    let old = c.self.invariant in
    let few : length k.calls.entries < 64 = rw (← c.self.view_is) at c.requires.few in
    let low = rw (← c.self.view_is) at c.requires.number in
    let room = answer_room few c.in-Ok.ensures.room c.put-2.ensures.room in
    let numbers = sound_begun_answered k.calls.entries k.answers.entries k.answers.room k.next_call old.numbers c.new.result c.put-2.new.self.room low room in
    let here : get k.opens.entries c.args.open_call ≡ Some c.args.opened = rw (← c.self.view_is) at c.requires.open in
    let there = some_not_none (get k.opens.entries c.args.open_call) c.args.opened here in
    let long = length_put k.closing.entries c.args.open_call c.args.opened in
    let reserved_request = rw c.in-Ok-reserve.ensures.entries at c.in_ok-reserve_request.ensures.room in
    rw (
      c.put-2.ensures.entries,
      c.in-Ok.ensures.entries,
      c.remove-file.ensures.entries,
      c.put.ensures.entries,
      c.in-Ok-reserve.ensures.entries,
      c.reserve_request.ensures.state,
    )
    (record {
      numbers = numbers;
      idle = old.idle;
      sorted = old.sorted;
      files = numbered_files k.calls.entries _ _ k.next_call
          (closed_files k.calls.entries k.opens.entries k.closing.entries k.next_call old.files c.args.open_call c.args.opened there);
      releases = still_room long reserved_request;
      nodes = still_counted k.nodes k.queues.room.forgets
          c.reserve_request.new.queues.room.forgets old.nodes c.reserve_request.ensures.kept.forgets;
      served = old.served;
      clock_low = old.clock_low;
    })

pub returns-clause-judged : goal.returns-clause-judged
returns-clause-judged g c = unrefused g (goal.at.returns-clause-judged g c).After-lemma_sound

pub returns-clause-begun : goal.returns-clause-begun
returns-clause-begun g c =
    let k = c.self.inside in
    let now = c.args.self.now in
    let start = (goal.at.returns-clause-begun g c).After-lemma_sound in
    let fresh = c.self.invariant.numbers.calls_below k.next_call (itself k.next_call) in
    rw (closes_in_use now c.args.open_call c.args.opened c.requires.not_aborted c.requires.open (not_closed g start) (no_such_call g start) c.requires.used, ← c.self.view_is, c.put-2.ensures.entries, c.in-Ok.ensures.entries, c.remove-file.ensures.entries, c.put.ensures.entries, c.in-Ok-reserve.ensures.entries, c.reserve_request.ensures.state, c.new.ensures, gone_absent k.calls.entries k.next_call fresh) refl

pub invariant_of-self : goal.invariant_of-self
invariant_of-self g c = rw c.reserve.ensures.entries (more_answers c.self.invariant c.reserve.ensures.kept)

pub invariant_of-self-in_default-reserve : goal.invariant_of-self-in_default-reserve
invariant_of-self-in_default-reserve g c = rw (c.reserve-2.ensures.entries, c.reserve.ensures.entries)
    (more_answers c.self.invariant c.reserve.ensures.kept)

pub invariant_of-self-in_err-reserve_request : goal.invariant_of-self-in_err-reserve_request
invariant_of-self-in_err-reserve_request g c =
    rw (c.reserve_request.ensures.state, c.reserve-2.ensures.entries, c.reserve.ensures.entries)
    (more_room (more_answers c.self.invariant c.reserve.ensures.kept) c.reserve_request.ensures.kept)
