use Rattle.std.proofs.Common.{◌≡◌, true, false, Some, None, refl, sym, ap, ◌∙◌}
use Rattle.std.specs.Prelude.{is_some}
use Rattle.std.specs.List.{list_any}
use Rattle.fuse_spec.specs.Kernel.Kernel.{is_using, is_used}
use Rattle.fuse_spec.specs.Values.Maps.{Map, get, values}
use Rattle.fuse_spec.specs.Calls.Vfs.{CallState}
use Rattle.fuse_spec.specs.declared.Opened.{Opened}
use Rattle.fk_kernel.proofs.Closes.{released_used, released_none, released_some}
use Rattle.fk_kernel.proofs.OpenFilesKept.{some_not_none, released_files}
use Rattle.fk_kernel.proofs.Nodes.{still_counted}
use Rattle.fk_kernel.proofs.Sound.{gone_absent, length_gone}
use Rattle.fk_kernel.proofs.Rooms.{room_left, some_room, still_room}
use Rattle.fk_kernel.proofs.Served.{served_less, more_released}
use Rattle.fk_kernel.proofs.kernel.KernelOf.release_if_idle.Goals as goal

pub returns-then-is_in_use : goal.returns-then-is_in_use
returns-then-is_in_use g c =
    let use_is = ap (λ (calls : Map (CallState Opened)). list_any (is_using c.args.open_call)
    (values calls)) c.rows.ensures in
    let used : is_used c.args.self.now c.args.open_call ≡ true =
    rw (← c.self.view_is) (sym (c.is_in_use.ensures ∙ use_is) ∙ c.if-is_in_use.true) in
    sym (released_used c.args.self.now c.args.open_call used)

pub invariant_of-self : goal.invariant_of-self
invariant_of-self g c =
    let k = c.self.inside in
    let old = c.self.invariant in
    let none : get k.closing.entries c.args.open_call ≡ None = sym c.remove.ensures.value ∙ c.in_default.is in
    rw (c.remove.ensures.entries, gone_absent k.closing.entries c.args.open_call none) old

pub returns-in_default : goal.returns-in_default
returns-in_default g c =
    let k = c.self.inside in
    let none : get k.closing.entries c.args.open_call ≡ None = sym c.remove.ensures.value ∙ c.in_default.is in
    let none_now : get c.args.self.now.closing c.args.open_call ≡ None = rw (← c.self.view_is) none in
    rw (
      released_none c.args.self.now c.args.open_call none_now,
      ← c.self.view_is,
      c.remove.ensures.entries,
      gone_absent k.closing.entries c.args.open_call none,
    ) refl

pub enqueue-unique-requires-clause-room : goal.enqueue-unique-requires-clause-room
enqueue-unique-requires-clause-room g c =
    let k = c.self.inside in
    let old = c.self.invariant in
    let there = some_not_none (get k.closing.entries c.args.open_call) c.in-Some.opened
    (sym c.remove.ensures.value ∙ c.in-Some.is) in
    let shorter = length_gone k.closing.entries c.args.open_call there in
    some_room _ shorter old.releases

pub enqueue-unique-requires-clause-number : goal.enqueue-unique-requires-clause-number
enqueue-unique-requires-clause-number g c =
    let use_is = ap (λ (calls : Map (CallState Opened)). list_any (is_using c.args.open_call)
    (values calls)) c.rows.ensures in
    let closed : is_some (get c.args.self.now.closing c.args.open_call) ≡ true =
    rw (← c.self.view_is) (ap is_some (sym c.remove.ensures.value ∙ c.in-Some.is)) in
    let idle : is_used c.args.self.now c.args.open_call ≡ false =
    rw (← c.self.view_is) (sym (c.is_in_use.ensures ∙ use_is) ∙ c.if-is_in_use.false) in
    rw (← c.self.view_is) at (c.requires closed idle)

pub invariant_of-self-2 : goal.invariant_of-self-2
invariant_of-self-2 g c =
    let k = c.self.inside in
    let old = c.self.invariant in
    let there = some_not_none (get k.closing.entries c.args.open_call) c.in-Some.opened
    (sym c.remove.ensures.value ∙ c.in-Some.is) in
    let shorter = length_gone k.closing.entries c.args.open_call there in
    rw (c.remove.ensures.entries, c.enqueue-unique.ensures.state)
    (record {
      numbers = old.numbers;
      idle = old.idle;
      sorted = old.sorted;
      files = released_files k.calls.entries k.opens.entries k.closing.entries k.next_call old.files c.args.open_call;
      releases = room_left (still_room shorter old.releases) c.enqueue-unique.ensures.requests_room;
      nodes = still_counted k.nodes k.queues.room.forgets
          c.enqueue-unique.new.self.room.forgets old.nodes c.enqueue-unique.ensures.forgets_room;
      served = served_less old.served (more_released k.queues.queues c.in-Some.opened);
      clock_low = old.clock_low;
    })

pub returns : goal.returns
returns g c =
    let use_is = ap (λ (calls : Map (CallState Opened)). list_any (is_using c.args.open_call)
    (values calls)) c.rows.ensures in
    let at : get c.args.self.now.closing c.args.open_call ≡ Some c.in-Some.opened =
    rw (← c.self.view_is) (sym c.remove.ensures.value ∙ c.in-Some.is) in
    let idle : is_used c.args.self.now c.args.open_call ≡ false =
    rw (← c.self.view_is) (sym (c.is_in_use.ensures ∙ use_is) ∙ c.if-is_in_use.false) in
    rw (
      released_some c.args.self.now c.args.open_call c.in-Some.opened at idle,
      ← c.self.view_is,
      c.remove.ensures.entries,
      c.enqueue-unique.ensures.state,
    ) refl
