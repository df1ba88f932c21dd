use Rattle.std.proofs.Common.{◌≡◌, [], ◌∷◌, true, false, Some, refl, ap, sym, subst, ◌∙◌}
use Rattle.std.specs.Prelude.{is_some}
use Rattle.fuse_spec.specs.Values.Maps.{get}
use Rattle.fuse_spec.specs.Kernel.QueueCalls.{waiting, without}
use Rattle.fuse_spec.specs.Kernel.Kernel.{Kernel, advanced}
use Rattle.fuse_spec.specs.Kernel.Replies.{looked_up}
use Rattle.fuse_spec.specs.Calls.Answers.{failed}
use Rattle.fuse_spec.specs.declared.WriteResult.{WriteResult}
use Rattle.fuse_spec.specs.declared.WriteResult.TheVariants.{Accepted}
use Rattle.fk_syscalls.specs.States.{HasCachedNames, IsWalking}
use Rattle.fk_syscalls.specs.Values.{comes_to}
use Rattle.fuse_spec.specs.Calls.Vfs.{Vfs, Advance, walking, walks_on, bound, asking, answered, no_more}
use Rattle.fuse_spec.specs.declared.Opened.{Opened}
use Rattle.fuse_spec.proofs.Tables.{get_gone_here}
use Rattle.fuse_spec.specs.Kernel.Refusals.{is_kernel_past_end}
use Rattle.fk_kernel.proofs.Nodes.{alike, looked_up_counted, answered_is, still_counted, put_gone, length_again, sorted_put, sorted_gone}
use Rattle.fk_kernel.proofs.Replied.{lookup_found}
use Rattle.fk_kernel.proofs.Sound.{sound_answered, sound_walks, there_is}
use Rattle.fk_kernel.proofs.Walking.{asked_left}
use Rattle.fk_kernel.proofs.OpenFilesKept.{walking_files, answered_files}
use Rattle.fk_kernel.proofs.Rooms.{still_room, room_left, some_same, one_more_fits, until_is}
use Rattle.fk_kernel.proofs.StillSound.{more_room}
use Rattle.fuse_spec.specs.declared.Purpose.TheVariants.{Call}
use Rattle.fk_kernel.proofs.Served.{served_anew, served_ended}
use Rattle.fk_kernel.proofs.kernel.KernelOf.walk_on.Goals as goal

pub bind_entry-requires-clause-names_one : goal.bind_entry-requires-clause-names_one
bind_entry-requires-clause-names_one g c =
    let stands = c.requires.looks_up in (
      walking stands.directory stands.word stands.words stands.plan,
      (stands.directory, stands.word),
      rw (← c.self.view_is) at stands.is,
      refl,
    )

pub advance-requires : goal.advance-requires
advance-requires g c =
    let k = c.self.inside in
    let stands = c.requires.looks_up in
    let here : get k.calls.entries c.args.call ≡ Some (walking stands.directory stands.word stands.words stands.plan) =
    rw (← c.self.view_is) at stands.is in
    let state : c.in-Some.state ≡ walking stands.directory stands.word stands.words stands.plan =
    some_same (sym c.in-Some.is ∙ c.remove.ensures.value ∙ here) in
    subst IsWalking (sym state) tt

pub enqueue-unique-requires-clause-number : goal.enqueue-unique-requires-clause-number
enqueue-unique-requires-clause-number g c =
    let k = c.self.inside in
    let s = k.queues.queues in
    let stands = c.requires.looks_up in
    let here : get k.calls.entries c.args.call ≡ Some (walking stands.directory stands.word stands.words stands.plan) =
    rw (← c.self.view_is) at stands.is in
    let waits : is_some (waiting s c.args.unique) ≡ true = rw (← c.self.view_is) at (ap is_some c.requires.waits) in
    let state : c.in-Some.state ≡ walking stands.directory stands.word stands.words stands.plan =
    some_same (sym c.in-Some.is ∙ c.remove.ensures.value ∙ here) in
    let now = c.args.self.now in
    let until = until_is k.clock c.args.valid_ms c.saturating_add-until.result c.self.invariant.clock_low c.requires.day
    c.saturating_add-until.ensures in
    let names = c.in_ok-bind_entry.ensures.names (walking stands.directory stands.word stands.words stands.plan)
    (stands.directory, stands.word) here refl in
    let vfs : Vfs Opened = bound now.vfs stands.directory stands.word (Some c.args.entry.now.nodeid) c.args.valid_ms in
    let has : HasCachedNames vfs c.bind_entry.new.names.names k.clock =
    rw (← c.self.view_is, names, until) (record { names = refl; clock = refl; root = refl }) in
    let comes : walks_on vfs c.args.call c.args.entry.now.nodeid stands.words stands.plan
    ≡ asking vfs c.args.call c.in-Ask.state =
    c.advance.ensures vfs c.args.call stands.directory stands.word stands.words stands.plan has state ∙ ap
    (comes_to vfs c.args.call) c.in-Ask.is in
    let knows : Kernel = record now {
      queues = without now.queues c.args.unique;
      nodes = looked_up now.nodes (c.args.entry.now ∷ []);
    } in
    let asks : is_kernel_past_end (advanced knows c.args.call (asking vfs c.args.call c.in-Ask.state)) ≡ false =
    sym (ap (λ (a : Advance Opened). is_kernel_past_end (advanced knows c.args.call a)) comes)
    ∙ sym (ap (λ (r : WriteResult × Kernel). is_kernel_past_end r.1)
    (lookup_found now c.args.unique c.args.call c.requires.even c.requires.waits stands.directory stands.word stands.words stands.plan stands.is c.args.entry.now c.args.valid_ms c.requires.usable))
    ∙ c.requires.within in
    let left = asked_left now.queues.next now.vfs.next_call asks in
    rw (c.answer-kept.ensures.state, c.bind_entry.ensures.state, c.reserve_request.ensures.state, answered_is s c.args.unique waits)
    (rw (← c.self.view_is) at left)

pub put-requires-clause-absent : goal.put-requires-clause-absent
put-requires-clause-absent g c = rw c.remove.ensures.entries (get_gone_here c.self.inside.calls.entries c.args.call)

pub invariant_of-self-in-Ask : goal.invariant_of-self-in-Ask
invariant_of-self-in-Ask g c =
    let k = c.self.inside in
    let stands = c.requires.looks_up in
    let here : get k.calls.entries c.args.call ≡ Some (walking stands.directory stands.word stands.words stands.plan) =
    rw (← c.self.view_is) at stands.is in
    let old = c.self.invariant in
    let waits : waiting k.queues.queues c.args.unique ≡ Some (Call c.args.call) =
    rw (← c.self.view_is) at c.requires.waits in
    let some : is_some (get k.calls.entries c.args.call) ≡ true = ap is_some here in
    let there = there_is (get k.calls.entries c.args.call) some in
    let room = still_room c.in_ok-bind_entry.ensures.room c.answer-kept.ensures.room.forgets in
    let fits = rw (← c.self.view_is) at c.requires.fits in
    let counted = looked_up_counted k.nodes k.queues.room.forgets
    c.answer-kept.new.self.room.forgets old.nodes room c.args.entry.now fits in
    rw (
      c.enqueue-unique.ensures.state,
      c.answer-kept.ensures.state,
      c.bind_entry.ensures.state,
      c.reserve_request.ensures.state,
      c.in_ok-bind_entry.ensures.nodes,
      c.put.ensures.entries,
      c.remove.ensures.entries,
      put_gone k.calls.entries c.args.call c.in-Ask.state old.sorted,
    )
    (record {
      numbers = sound_walks k.calls.entries k.answers.entries k.answers.room k.next_call old.numbers c.args.call c.in-Ask.state there (length_again k.calls.entries c.args.call c.in-Ask.state old.sorted some);
      idle = λ down. absurd (there (ap (λ m. get m c.args.call) (old.idle down)));
      sorted = sorted_put k.calls.entries c.args.call c.in-Ask.state old.sorted;
      files = walking_files k.calls.entries k.opens.entries k.closing.entries k.next_call old.files c.args.call c.in-Ask.state there;
      releases = room_left (still_room (still_room c.in_ok-reserve_request.ensures.room
          c.bind_entry.ensures.kept.requests) c.answer-kept.ensures.room.requests) c.enqueue-unique.ensures.requests_room;
      nodes = still_counted _ c.answer-kept.new.self.room.forgets
          c.enqueue-unique.new.self.room.forgets counted c.enqueue-unique.ensures.forgets_room;
      served = served_anew old.served c.args.unique c.args.call c.in-Ask.state waits;
      clock_low = old.clock_low;
    })

pub invariant_of-self-in-Answer : goal.invariant_of-self-in-Answer
invariant_of-self-in-Answer g c =
    let k = c.self.inside in
    let stands = c.requires.looks_up in
    let here : get k.calls.entries c.args.call ≡ Some (walking stands.directory stands.word stands.words stands.plan) =
    rw (← c.self.view_is) at stands.is in
    let old = c.self.invariant in
    let waits : waiting k.queues.queues c.args.unique ≡ Some (Call c.args.call) =
    rw (← c.self.view_is) at c.requires.waits in
    let there = there_is (get k.calls.entries c.args.call) (ap is_some here) in
    let room = still_room c.in_ok-bind_entry.ensures.room c.answer-kept.ensures.room.forgets in
    let fits = rw (← c.self.view_is) at c.requires.fits in
    rw (
      c.answer-kept.ensures.state,
      c.bind_entry.ensures.state,
      c.reserve_request.ensures.state,
      c.in_ok-bind_entry.ensures.nodes,
      c.put-in-Answer.ensures.entries,
      c.remove.ensures.entries,
    )
    (record {
      numbers = sound_answered k.calls.entries k.answers.entries k.answers.room k.next_call old.numbers c.args.call _ c.put-in-Answer.new.self.room there c.put-in-Answer.ensures.room;
      idle = λ down. absurd (there (ap (λ m. get m c.args.call) (old.idle down)));
      sorted = sorted_gone k.calls.entries c.args.call old.sorted;
      files = answered_files k.calls.entries k.opens.entries k.closing.entries k.next_call old.files c.args.call;
      releases = still_room (still_room (still_room old.releases c.reserve_request.ensures.kept.requests)
          c.bind_entry.ensures.kept.requests) c.answer-kept.ensures.room.requests;
      nodes = looked_up_counted k.nodes k.queues.room.forgets
          c.answer-kept.new.self.room.forgets old.nodes room c.args.entry.now fits;
      served = served_ended old.served c.args.unique c.args.call waits;
      clock_low = old.clock_low;
    })

pub returns-in-Ask-clause-ok : goal.returns-in-Ask-clause-ok
returns-in-Ask-clause-ok g c =
    let k = c.self.inside in
    let s = k.queues.queues in
    let stands = c.requires.looks_up in
    let here : get k.calls.entries c.args.call ≡ Some (walking stands.directory stands.word stands.words stands.plan) =
    rw (← c.self.view_is) at stands.is in
    let waits : is_some (waiting s c.args.unique) ≡ true = rw (← c.self.view_is) at (ap is_some c.requires.waits) in
    let state : c.in-Some.state ≡ walking stands.directory stands.word stands.words stands.plan =
    some_same (sym c.in-Some.is ∙ c.remove.ensures.value ∙ here) in
    let now = c.args.self.now in
    let until = until_is k.clock c.args.valid_ms c.saturating_add-until.result c.self.invariant.clock_low c.requires.day
    c.saturating_add-until.ensures in
    let names = c.in_ok-bind_entry.ensures.names (walking stands.directory stands.word stands.words stands.plan)
    (stands.directory, stands.word) here refl in
    let vfs : Vfs Opened = bound now.vfs stands.directory stands.word (Some c.args.entry.now.nodeid) c.args.valid_ms in
    let has : HasCachedNames vfs c.bind_entry.new.names.names k.clock =
    rw (← c.self.view_is, names, until) (record { names = refl; clock = refl; root = refl }) in
    let comes : walks_on vfs c.args.call c.args.entry.now.nodeid stands.words stands.plan
    ≡ asking vfs c.args.call c.in-Ask.state =
    c.advance.ensures vfs c.args.call stands.directory stands.word stands.words stands.plan has state ∙ ap
    (comes_to vfs c.args.call) c.in-Ask.is in
    lookup_found now c.args.unique c.args.call c.requires.even c.requires.waits stands.directory stands.word stands.words stands.plan stands.is c.args.entry.now c.args.valid_ms c.requires.usable
    ∙ ap (λ (a : Advance Opened). (
      Accepted,
      advanced
          (record now {
            queues = without now.queues c.args.unique;
            nodes = looked_up now.nodes (c.args.entry.now ∷ []);
          }) c.args.call a,
    )) comes
    ∙ rw (
      ← c.self.view_is,
      c.enqueue-unique.ensures.state,
      c.answer-kept.ensures.state,
      c.bind_entry.ensures.state,
      c.reserve_request.ensures.state,
      answered_is s c.args.unique waits,
      names,
      until,
      c.in_ok-bind_entry.ensures.nodes,
      c.put.ensures.entries,
      c.remove.ensures.entries,
      put_gone k.calls.entries c.args.call c.in-Ask.state c.self.invariant.sorted,
    ) refl

pub returns-in-Answer-clause-ok : goal.returns-in-Answer-clause-ok
returns-in-Answer-clause-ok g c =
    let k = c.self.inside in
    let s = k.queues.queues in
    let stands = c.requires.looks_up in
    let here : get k.calls.entries c.args.call ≡ Some (walking stands.directory stands.word stands.words stands.plan) =
    rw (← c.self.view_is) at stands.is in
    let waits : is_some (waiting s c.args.unique) ≡ true = rw (← c.self.view_is) at (ap is_some c.requires.waits) in
    let state : c.in-Some.state ≡ walking stands.directory stands.word stands.words stands.plan =
    some_same (sym c.in-Some.is ∙ c.remove.ensures.value ∙ here) in
    let now = c.args.self.now in
    let until = until_is k.clock c.args.valid_ms c.saturating_add-until.result c.self.invariant.clock_low c.requires.day
    c.saturating_add-until.ensures in
    let names = c.in_ok-bind_entry.ensures.names (walking stands.directory stands.word stands.words stands.plan)
    (stands.directory, stands.word) here refl in
    let vfs : Vfs Opened = bound now.vfs stands.directory stands.word (Some c.args.entry.now.nodeid) c.args.valid_ms in
    let has : HasCachedNames vfs c.bind_entry.new.names.names k.clock =
    rw (← c.self.view_is, names, until) (record { names = refl; clock = refl; root = refl }) in
    let comes : walks_on vfs c.args.call c.args.entry.now.nodeid stands.words stands.plan
    ≡ no_more (answered vfs c.args.call (failed c.in-Answer.errno)) =
    c.advance.ensures vfs c.args.call stands.directory stands.word stands.words stands.plan has state ∙ ap
    (comes_to vfs c.args.call) c.in-Answer.is in
    lookup_found now c.args.unique c.args.call c.requires.even c.requires.waits stands.directory stands.word stands.words stands.plan stands.is c.args.entry.now c.args.valid_ms c.requires.usable
    ∙ ap (λ (a : Advance Opened). (
      Accepted,
      advanced
          (record now {
            queues = without now.queues c.args.unique;
            nodes = looked_up now.nodes (c.args.entry.now ∷ []);
          }) c.args.call a,
    )) comes
    ∙ rw (
      ← c.self.view_is,
      c.answer-kept.ensures.state,
      c.bind_entry.ensures.state,
      c.reserve_request.ensures.state,
      answered_is s c.args.unique waits,
      names,
      until,
      c.in_ok-bind_entry.ensures.nodes,
      c.put-in-Answer.ensures.entries,
      c.new.ensures,
      c.remove.ensures.entries,
    ) refl

pub bind_entry-requires-clause-fits : goal.bind_entry-requires-clause-fits
bind_entry-requires-clause-fits g c = λ x at.
    one_more_fits (c.self.invariant.nodes.below.below c.args.entry.now.nodeid x at)

pub bind_entry-requires-clause-alike : goal.bind_entry-requires-clause-alike
bind_entry-requires-clause-alike g c =
    alike c.self.inside.nodes c.args.entry.now (rw (← c.self.view_is) at c.requires.usable)

pub invariant_of-self-in_err-bind_entry : goal.invariant_of-self-in_err-bind_entry
invariant_of-self-in_err-bind_entry g c =
    rw (c.bind_entry.ensures.state, c.reserve_request.ensures.state, c.in_err-bind_entry.ensures.err_nodes)
    (more_room (more_room c.self.invariant c.reserve_request.ensures.kept)
    c.bind_entry.ensures.kept)
