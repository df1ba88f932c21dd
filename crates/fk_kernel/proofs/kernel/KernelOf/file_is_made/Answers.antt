use Rattle.std.proofs.Common.{◌≡◌, true, Some, refl, ap}
use Rattle.std.specs.Prelude.{is_some}
use Rattle.fuse_spec.specs.Values.Maps.{get}
use Rattle.fuse_spec.specs.Files.Operations.{create}
use Rattle.fuse_spec.specs.Kernel.QueueCalls.{waiting}
use Rattle.fuse_spec.specs.Calls.Vfs.{doing}
use Rattle.fk_kernel.proofs.OpenFilesKept.{some_not_none, opened_files}
use Rattle.fk_kernel.proofs.Nodes.{alike, looked_up_counted, answered_is, sorted_gone}
use Rattle.fk_kernel.proofs.Replied.{create_made}
use Rattle.fk_kernel.proofs.Sound.{sound_answered}
use Rattle.fk_kernel.proofs.Rooms.{still_room, one_more_fits, until_is}
use Rattle.fk_kernel.proofs.StillSound.{more_room}
use Rattle.fuse_spec.specs.declared.Purpose.TheVariants.{Call}
use Rattle.fk_kernel.proofs.Served.{served_ended}
use Rattle.fk_kernel.proofs.kernel.KernelOf.file_is_made.Goals as goal

pub bind_entry-requires-clause-names_one : goal.bind_entry-requires-clause-names_one
bind_entry-requires-clause-names_one g c =
    let made = c.requires.creates in
    (doing (create made.directory made.name), (made.directory, made.name), rw (← c.self.view_is) at made.is, refl)

pub invariant_of-self-2 : goal.invariant_of-self-2
invariant_of-self-2 g c =
    let k = c.self.inside in
    let old = c.self.invariant in
    let waits : waiting k.queues.queues c.args.unique ≡ Some (Call c.args.call) =
    rw (← c.self.view_is) at c.requires.waits in
    let made = c.requires.creates in
    let here : get k.calls.entries c.args.call ≡ Some (doing (create made.directory made.name)) =
    rw (← c.self.view_is) at made.is in
    let there = some_not_none (get k.calls.entries c.args.call) (doing (create made.directory made.name)) here in
    let room = still_room c.in_ok-bind_entry.ensures.room c.answer-kept.ensures.room.forgets in
    let fits = rw (← c.self.view_is) at c.requires.fits in
    rw (
      c.answer-kept.ensures.state,
      c.bind_entry.ensures.state,
      c.in_ok-bind_entry.ensures.nodes,
      c.remove-state.ensures.entries,
      c.put.ensures.entries,
      c.in-Ok.ensures.entries,
      c.put-2.ensures.entries,
    )
    (record {
      numbers = sound_answered k.calls.entries k.answers.entries k.answers.room k.next_call old.numbers c.args.call c.new.result c.put-2.new.self.room there c.put-2.ensures.room;
      idle = λ down. rw (old.idle down) refl;
      sorted = sorted_gone k.calls.entries c.args.call old.sorted;
      files = opened_files k.calls.entries k.opens.entries k.closing.entries k.next_call old.files old.numbers.calls_below c.args.call (record { nodeid = c.args.entry.now.nodeid; fh = c.args.fh }) there;
      releases = still_room (still_room old.releases c.bind_entry.ensures.kept.requests)
          c.answer-kept.ensures.room.requests;
      nodes = looked_up_counted k.nodes k.queues.room.forgets
          c.answer-kept.new.self.room.forgets old.nodes room c.args.entry.now fits;
      served = served_ended old.served c.args.unique c.args.call waits;
      clock_low = old.clock_low;
    })

pub returns-clause-ok : goal.returns-clause-ok
returns-clause-ok g c =
    let k = c.self.inside in
    let s = k.queues.queues in
    let made = c.requires.creates in
    let here : get k.calls.entries c.args.call ≡ Some (doing (create made.directory made.name)) =
    rw (← c.self.view_is) at made.is in
    let waits : is_some (waiting s c.args.unique) ≡ true = rw (← c.self.view_is) at (ap is_some c.requires.waits) in
    let until = until_is k.clock c.args.valid_ms c.saturating_add-until.result c.self.invariant.clock_low c.requires.day
    c.saturating_add-until.ensures in
    let names = c.in_ok-bind_entry.ensures.names (doing (create made.directory made.name))
    (made.directory, made.name) here refl in
    rw (
      c.answer-kept.ensures.state,
      c.bind_entry.ensures.state,
      answered_is s c.args.unique waits,
      names,
      until,
      c.in_ok-bind_entry.ensures.nodes,
      c.remove-state.ensures.entries,
      c.put.ensures.entries,
      c.in-Ok.ensures.entries,
      c.put-2.ensures.entries,
      c.new.ensures,
      ← c.self.view_is,
    )
    (rw (← c.self.view_is) at
    (create_made c.args.self.now c.args.unique c.args.call c.requires.even c.requires.waits made.directory made.name made.is c.args.entry.now c.args.valid_ms c.args.fh c.requires.usable))

pub bind_entry-requires-clause-fits : goal.bind_entry-requires-clause-fits
bind_entry-requires-clause-fits g c = λ x at.
    one_more_fits (c.self.invariant.nodes.below.below c.args.entry.now.nodeid x at)

pub invariant_of-self : goal.invariant_of-self
invariant_of-self g c = rw c.reserve.ensures.entries c.self.invariant

pub invariant_of-self-in_err-bind_entry : goal.invariant_of-self-in_err-bind_entry
invariant_of-self-in_err-bind_entry g c =
    rw (c.bind_entry.ensures.state, c.in_err-bind_entry.ensures.err_nodes, c.in-Ok.ensures.entries)
    (more_room c.self.invariant c.bind_entry.ensures.kept)

pub bind_entry-requires-clause-alike : goal.bind_entry-requires-clause-alike
bind_entry-requires-clause-alike g c =
    alike c.self.inside.nodes c.args.entry.now (rw (← c.self.view_is) at c.requires.usable)
