use Rattle.std.proofs.Common.{◌≡◌, Some}
use Rattle.fuse_spec.specs.Values.Maps.{get}
use Rattle.fuse_spec.specs.Calls.Vfs.{doing}
use Rattle.fk_kernel.proofs.Nodes.{alike, looked_up_counted}
use Rattle.fk_kernel.proofs.Replied.{made_found}
use Rattle.fk_kernel.proofs.CallStates.{makes_place}
use Rattle.fk_kernel.proofs.Rooms.{still_room, one_more_fits, until_is}
use Rattle.fk_kernel.proofs.StillSound.{more_room}
use Rattle.fk_kernel.proofs.kernel.KernelOf.name_is_made.Goals as goal

pub bind_entry-requires-clause-names_one : goal.bind_entry-requires-clause-names_one
bind_entry-requires-clause-names_one g c =
    let makes = c.requires.makes in (
      doing makes.operation,
      makes.place,
      rw (← c.self.view_is) at makes.is,
      makes_place makes.operation makes.place makes.makes,
    )

pub invariant_of-self-2 : goal.invariant_of-self-2
invariant_of-self-2 g c =
    let k = c.self.inside in
    let old = c.self.invariant in
    let fits = rw (← c.self.view_is) at c.requires.fits in
    rw (c.bind_entry.ensures.state, c.in_ok-bind_entry.ensures.nodes)
    (record {
      numbers = old.numbers;
      idle = old.idle;
      sorted = old.sorted;
      files = old.files;
      releases = still_room old.releases c.bind_entry.ensures.kept.requests;
      nodes = looked_up_counted k.nodes k.queues.room.forgets
          c.bind_entry.new.queues.room.forgets old.nodes c.in_ok-bind_entry.ensures.room
          c.args.entry.now fits;
      served = old.served;
      clock_low = old.clock_low;
    })

pub returns-clause-ok : goal.returns-clause-ok
returns-clause-ok g c =
    let k = c.self.inside in
    let makes = c.requires.makes in
    let here : get k.calls.entries c.args.call ≡ Some (doing makes.operation) = rw (← c.self.view_is) at makes.is in
    let until = until_is k.clock c.args.valid_ms c.saturating_add-until.result c.self.invariant.clock_low c.requires.day
    c.saturating_add-until.ensures in
    let names = c.in_ok-bind_entry.ensures.names (doing makes.operation) makes.place here
    (makes_place makes.operation makes.place makes.makes) in
    rw (
      c.answer_call.ensures,
      c.bind_entry.ensures.state,
      names,
      until,
      c.in_ok-bind_entry.ensures.nodes,
      ← c.self.view_is,
    )
    (rw (← c.self.view_is) at
    (made_found c.args.self.now c.args.unique c.args.call c.requires.even c.requires.waits makes.operation makes.place makes.makes makes.is c.args.entry.now c.args.valid_ms c.requires.usable))

pub bind_entry-requires-clause-fits : goal.bind_entry-requires-clause-fits
bind_entry-requires-clause-fits g c = λ x at.
    one_more_fits (c.self.invariant.nodes.below.below c.args.entry.now.nodeid x at)

pub bind_entry-requires-clause-alike : goal.bind_entry-requires-clause-alike
bind_entry-requires-clause-alike g c =
    alike c.self.inside.nodes c.args.entry.now (rw (← c.self.view_is) at c.requires.usable)

pub invariant_of-self : goal.invariant_of-self
invariant_of-self g c = rw (c.bind_entry.ensures.state, c.in_err-bind_entry.ensures.err_nodes)
    (more_room c.self.invariant c.bind_entry.ensures.kept)
