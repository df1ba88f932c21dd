use Rattle.std.proofs.Common.{◌≡◌, true, Some, refl, ap}
use Rattle.std.specs.Prelude.{is_some}
use Rattle.fuse_spec.specs.Values.Maps.{get}
use Rattle.fuse_spec.specs.Files.Operations.{opening}
use Rattle.fuse_spec.specs.Kernel.QueueCalls.{waiting}
use Rattle.fuse_spec.specs.Calls.Vfs.{doing}
use Rattle.fk_kernel.proofs.OpenFilesKept.{some_not_none, opened_files}
use Rattle.fk_kernel.proofs.Nodes.{still_counted, answered_is, sorted_gone}
use Rattle.fk_kernel.proofs.Replied.{open_done}
use Rattle.fk_kernel.proofs.Sound.{sound_answered}
use Rattle.fk_kernel.proofs.Rooms.{still_room}
use Rattle.fuse_spec.specs.declared.Purpose.TheVariants.{Call}
use Rattle.fk_kernel.proofs.Served.{served_ended}
use Rattle.fk_kernel.proofs.kernel.KernelOf.file_is_open.Goals as goal

pub invariant_of-self-2 : goal.invariant_of-self-2
invariant_of-self-2 g c =
    let k = c.self.inside in
    let old = c.self.invariant in
    let waits : waiting k.queues.queues c.args.unique ≡ Some (Call c.args.call) =
    rw (← c.self.view_is) at c.requires.waits in
    let here : get k.calls.entries c.args.call ≡ Some (doing (opening c.requires.opens.node)) =
    rw (← c.self.view_is) at c.requires.opens.is in
    let there = some_not_none (get k.calls.entries c.args.call) (doing (opening c.requires.opens.node)) here in
    rw (
      c.answer-kept.ensures.state,
      c.remove-state.ensures.entries,
      c.put.ensures.entries,
      c.in-Ok.ensures.entries,
      c.put-2.ensures.entries,
    )
    (record {
      numbers = sound_answered k.calls.entries k.answers.entries k.answers.room k.next_call old.numbers c.args.call c.new.result c.put-2.new.self.room there c.put-2.ensures.room;
      idle = λ down. rw (old.idle down) refl;
      sorted = sorted_gone k.calls.entries c.args.call old.sorted;
      files = opened_files k.calls.entries k.opens.entries k.closing.entries k.next_call old.files old.numbers.calls_below c.args.call (record { nodeid = c.node_opened-nodeid.result; fh = c.args.fh }) there;
      releases = still_room old.releases c.answer-kept.ensures.room.requests;
      nodes = still_counted k.nodes k.queues.room.forgets
          c.answer-kept.new.self.room.forgets old.nodes c.answer-kept.ensures.room.forgets;
      served = served_ended old.served c.args.unique c.args.call waits;
      clock_low = old.clock_low;
    })

pub returns-clause-ok : goal.returns-clause-ok
returns-clause-ok g c =
    let k = c.self.inside in
    let s = k.queues.queues in
    let o = c.requires.opens in
    let waits : is_some (waiting s c.args.unique) ≡ true = rw (← c.self.view_is) at (ap is_some c.requires.waits) in
    let node = c.node_opened-nodeid.ensures o.node o.is in
    rw (
      c.answer-kept.ensures.state,
      answered_is s c.args.unique waits,
      c.remove-state.ensures.entries,
      c.put.ensures.entries,
      c.in-Ok.ensures.entries,
      c.put-2.ensures.entries,
      c.new.ensures,
      node,
      ← c.self.view_is,
    )
    (rw (← c.self.view_is) at
    (open_done c.args.self.now c.args.unique c.args.call c.requires.even c.requires.waits o.node o.is c.args.fh))
