use Rattle.std.proofs.Common.{◌≡◌, ℕ, true, length, Some, refl, ap, sym, subst, ◌∙◌}
use Rattle.std.proofs.lemmas.List.{length-map}
use Rattle.std.specs.Prelude.{is_some}
use Rattle.fuse_spec.specs.Values.Maps.{get}
use Rattle.fuse_spec.specs.Files.Operations as reply
use Rattle.fuse_spec.specs.Files.Operations.{Operation, readdirplus}
use Rattle.fuse_spec.specs.Kernel.QueueCalls.{waiting}
use Rattle.fuse_spec.specs.Kernel.Replies.{each_forgotten, goes_with}
use Rattle.fuse_spec.specs.Calls.Vfs.{doing, asked}
use Rattle.fuse_spec.specs.declared.Opened.{Opened}
use Rattle.fk_wire.specs.Records.{pluses_in}
use Rattle.fuse_frames.specs.ReplyTies.{pair_in}
use Rattle.fk_nodes.specs.LookedUp.{looked_up_from, stale_by}
use Rattle.fk_nodes.specs.ListedFiles.{pairs_left_in}
use Rattle.fk_kernel.proofs.CountsAfterReply.{pairs_below}
use Rattle.fk_kernel.proofs.Nodes.{answered_is, listed_counted}
use Rattle.fk_kernel.proofs.Replied.{list_done}
use Rattle.fk_kernel.proofs.CallStates.{asked_is, lists_from}
use Rattle.fk_kernel.proofs.Rooms.{still_room, room_to_list}
use Rattle.fuse_spec.specs.declared.Purpose.{Purpose}
use Rattle.fuse_spec.specs.declared.Purpose.TheVariants.{Call}
use Rattle.fuse_spec.specs.Kernel.Queues.{QueueState}
use Rattle.fk_kernel.proofs.Served.{same_requests, served_less, fewer_answered, none_answered}
use Rattle.fk_kernel.proofs.kernel.KernelOf.pairs_listed.Goals as goal

pub count_listed-requires : goal.count_listed-requires
count_listed-requires g c = rw (← c.self.view_is) at
    (pairs_below c.args.self.now.nodes (pairs_left_in c.args.pairs) c.requires.counts)

pub invariant_of-self-2 : goal.invariant_of-self-2
invariant_of-self-2 g c =
    let k = c.self.inside in
    let old = c.self.invariant in
    let pairs = pairs_left_in c.args.pairs in
    let below = rw (← c.self.view_is) at (pairs_below c.args.self.now.nodes pairs c.requires.counts) in
    let room = room_to_list (length k.nodes) (length (pluses_in c.args.pairs)) (length pairs) c.count_left.result _ _
    c.answer-kept.new.self.room.forgets c.count_left.ensures.count (length-map (pluses_in c.args.pairs) pair_in)
    c.in_ok-reserve_forgets.ensures.room c.take_listed.ensures.forgets c.answer-kept.ensures.room.forgets in
    rw (
      c.answer-kept.ensures.state,
      c.take_listed.ensures.state,
      c.reserve_forgets.ensures.state,
      c.in-Ok-count_listed.ensures.ok,
    )
    (record {
      numbers = old.numbers;
      idle = old.idle;
      sorted = old.sorted;
      files = old.files;
      releases = still_room (still_room (still_room old.releases c.reserve_forgets.ensures.kept.requests)
          c.take_listed.ensures.requests) c.answer-kept.ensures.room.requests;
      nodes = listed_counted k.nodes c.answer-kept.new.self.room.forgets pairs below room;
      served = served_less (served_less old.served (same_requests refl))
          (fewer_answered (each_forgotten k.queues.queues (stale_by (looked_up_from k.nodes pairs) pairs)) c.args.unique);
      clock_low = old.clock_low;
    })

pub finish-requires-clause-ended : goal.finish-requires-clause-ended
finish-requires-clause-ended g c =
    let k = c.self.inside in
    let pairs = pairs_left_in c.args.pairs in
    let queued : QueueState Purpose = each_forgotten k.queues.queues (stale_by (looked_up_from k.nodes pairs) pairs) in
    let waits : waiting queued c.args.unique ≡ Some (Call c.args.call) = rw (← c.self.view_is) at c.requires.waits in
    rw (
      c.answer-kept.ensures.state,
      c.take_listed.ensures.state,
      c.reserve_forgets.ensures.state,
      c.in-Ok-count_listed.ensures.ok,
    )
    (none_answered (served_less c.self.invariant.served (same_requests {t = queued} refl)) c.args.unique c.args.call
    waits)

pub returns-clause-ok : goal.returns-clause-ok
returns-clause-ok g c =
    let k = c.self.inside in
    let s = k.queues.queues in
    let now = c.args.self.now in
    let pairs = pairs_left_in c.args.pairs in
    let aw = c.requires.awaits in
    let lists = lists_from aw.operation aw.state pairs aw.stands aw.goes in
    let asks : Operation ℕ Opened = readdirplus lists.directory lists.after lists.size in
    let at : get now.vfs.calls c.args.call ≡ Some (doing asks) = aw.at ∙ lists.is in
    let state : aw.state ≡ doing asks = cc (lists.is) in
    let same : aw.operation ≡ asks = sym (asked_is aw.operation aw.state aw.stands) ∙ ap asked state in
    let goes : goes_with asks (reply.listed_plus pairs) ≡ true =
    subst (λ (o : Operation ℕ Opened). goes_with o (reply.listed_plus pairs) ≡ true) same aw.goes in
    let directory : c.directory_listed-directory.result ≡ lists.directory =
    c.directory_listed-directory.ensures lists.directory lists.after lists.size at in
    let waits : is_some (waiting s c.args.unique) ≡ true = rw (← c.self.view_is) at (ap is_some c.requires.waits) in
    let stale = stale_by (looked_up_from k.nodes pairs) pairs in
    rw (
      c.finish.ensures,
      c.answer-kept.ensures.state,
      c.take_listed.ensures.state,
      c.reserve_forgets.ensures.state,
      c.take_listed.ensures.names,
      c.count_listed.ensures.names,
      c.in-Ok-count_listed.ensures.ok,
      answered_is (each_forgotten s stale) c.args.unique waits,
      directory,
      c.in-Ok.ensures,
      ← c.self.view_is,
    )
    (rw (← c.self.view_is) at
    (list_done now c.args.unique c.args.call c.requires.even c.requires.waits lists.directory pairs lists.after lists.size at goes))
