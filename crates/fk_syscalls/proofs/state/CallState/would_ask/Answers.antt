use Rattle.std.proofs.Common.{◌≡◌, Some, None, sym, ap, ◌∙◌}
use Rattle.fuse_spec.specs.Files.Operations as op
use Rattle.std.specs.Prelude.{is_some}
use Rattle.fuse_spec.specs.Calls.Vfs.{Advance, walks_on}
use Rattle.fuse_spec.specs.declared.Opened.{Opened}
use Rattle.fuse_spec.specs.Calls.Walks.{go, arrived}
use Rattle.fk_syscalls.specs.NewNames.{with_new_name}
use Rattle.fk_syscalls.specs.Plans.{plan_of, IsLast}
use Rattle.fk_syscalls.specs.States.{walking_at}
use Rattle.fk_syscalls.specs.Walks.{known, stop_at}
use Rattle.fk_syscalls.specs.Words.{words_from}
use Rattle.fk_syscalls.proofs.Advances.{waits, finds_none, looks_on, some_left, none_left, renames, links, root_asks}
use Rattle.fk_syscalls.proofs.state.CallState.would_ask.Goals as goal

pub returns-in_default-walk_past : goal.returns-in_default-walk_past
returns-in_default-walk_past g c = λ vfs call directory word words plan has walks.
    let self = c.self.inside in
    let bytes = self.words.items in
    let plan_now = plan_of (λ s. s.items) c.in-Walks.plan in
    let from = c.args.new.now.node in
    let names = with_new_name c.args.names.now.names c.args.new.now in
    let left = words_from bytes self.at in
    let next = words_from bytes c.next_place-next.result in
    let view : walking_at self.node left plan_now ≡ c.args.self.now = rw c.in-Walks.is at c.self.view_is in
    let behind = rw c.deref.ensures.value at c.next_place-next.ensures.words in
    let on = looks_on vfs call from self.node left plan_now directory word words plan next (view ∙ walks) behind in
    let stop = rw c.deref-2.ensures.value at c.in_default-walk_past.ensures.stop in
    ap (λ (a : Advance Opened). is_some a.operation)
    (on ∙ finds_none vfs names c.args.clock has call next plan_now from stop)

pub returns-then-is_some : goal.returns-then-is_some
returns-then-is_some g c = λ vfs call directory word words plan has walks.
    let self = c.self.inside in
    let bytes = self.words.items in
    let plan_now = plan_of (λ s. s.items) c.in-Walks.plan in
    let from = c.args.new.now.node in
    let names = with_new_name c.args.names.now.names c.args.new.now in
    let left = words_from bytes self.at in
    let next = words_from bytes c.next_place-next.result in
    let view : walking_at self.node left plan_now ≡ c.args.self.now = rw c.in-Walks.is at c.self.view_is in
    let behind = rw c.deref.ensures.value at c.next_place-next.ensures.words in
    let on = looks_on vfs call from self.node left plan_now directory word words plan next (view ∙ walks) behind in
    let stop = rw c.deref-2.ensures.value at c.in-Some.ensures.stop in
    let there = sym c.is_some.ensures ∙ c.if-is_some.true in
    ap (λ (a : Advance Opened). is_some a.operation)
    (on ∙ waits vfs names c.args.clock has call next plan_now from c.in-Some.stop.node
    (words_from bytes c.in-Some.stop.at) (λ none. some_left bytes c.in-Some.stop.at there none) stop)

pub walk_past-requires-in-Rename : goal.walk_past-requires-in-Rename
walk_past-requires-in-Rename g c =
    let sound = rw c.in-Walks.is at c.self.invariant.sound in
    let parts = rw c.in-Rename.is at sound.0 in
    rw c.deref-in-Rename.ensures.value parts.1

pub walk_past-requires-in-Link : goal.walk_past-requires-in-Link
walk_past-requires-in-Link g c =
    let sound = rw c.in-Walks.is at c.self.invariant.sound in
    let parts = rw c.in-Link.is at sound.0 in
    rw c.deref-in-Link.ensures.value parts.0

pub returns-in-Last : goal.returns-in-Last
returns-in-Last g c = λ vfs call directory word words plan has walks.
    let self = c.self.inside in
    let bytes = self.words.items in
    let plan_now = plan_of (λ s. s.items) c.in-Walks.plan in
    let from = c.args.new.now.node in
    let names = with_new_name c.args.names.now.names c.args.new.now in
    let left = words_from bytes self.at in
    let next = words_from bytes c.next_place-next.result in
    let view : walking_at self.node left plan_now ≡ c.args.self.now = rw c.in-Walks.is at c.self.view_is in
    let behind = rw c.deref.ensures.value at c.next_place-next.ensures.words in
    let on = looks_on vfs call from self.node left plan_now directory word words plan next (view ∙ walks) behind in
    let stop = rw c.deref-2.ensures.value at c.in-Some.ensures.stop in
    let ends : IsLast plan_now = rw c.in-Last.is tt in
    ap (λ (a : Advance Opened). is_some a.operation)
    (on ∙ waits vfs names c.args.clock has call next plan_now from c.in-Some.stop.node
    (words_from bytes c.in-Some.stop.at) (λ none. ends) stop)

pub returns-in-Rename : goal.returns-in-Rename
returns-in-Rename g c = λ vfs call directory word words plan has walks.
    let self = c.self.inside in
    let bytes = self.words.items in
    let plan_now = plan_of (λ s. s.items) c.in-Walks.plan in
    let from = c.args.new.now.node in
    let names = with_new_name c.args.names.now.names c.args.new.now in
    let left = words_from bytes self.at in
    let next = words_from bytes c.next_place-next.result in
    let view : walking_at self.node left plan_now ≡ c.args.self.now = rw c.in-Walks.is at c.self.view_is in
    let behind = rw c.deref.ensures.value at c.next_place-next.ensures.words in
    let on = looks_on vfs call from self.node left plan_now directory word words plan next (view ∙ walks) behind in
    let stop = rw c.deref-2.ensures.value at c.in-Some.ensures.stop in
    let none = none_left bytes c.in-Some.stop.at (sym c.is_some.ensures ∙ c.if-is_some.false) in
    let arrives : go (known names c.args.clock) from next ≡ arrived c.in-Some.stop.node =
    stop ∙ ap (stop_at c.in-Some.stop.node) none in
    let r = c.in-Rename in
    let more = words_from r.words.items r.at in
    let stop-2 = rw c.deref-in-Rename.ensures.value at c.walk_past-in-Rename.ensures.stop in
    ap (λ (a : Advance Opened). is_some a.operation)
    (on ∙ ap (λ p. walks_on vfs call from next (plan_of
    (λ s. s.items) p)) r.is ∙ renames vfs names c.args.clock has call from next r.old.items more r.new.items c.in-Some.stop.node arrives)
    ∙ root_asks vfs names c.args.clock has call more
    (op.rename (Some c.in-Some.stop.node) r.old.items None r.new.items) r.words.items c.walk_past-in-Rename.result stop-2 ∙ sym c.is_some-in-Rename.ensures

pub returns-in-Link : goal.returns-in-Link
returns-in-Link g c = λ vfs call directory word words plan has walks.
    let self = c.self.inside in
    let bytes = self.words.items in
    let plan_now = plan_of (λ s. s.items) c.in-Walks.plan in
    let from = c.args.new.now.node in
    let names = with_new_name c.args.names.now.names c.args.new.now in
    let left = words_from bytes self.at in
    let next = words_from bytes c.next_place-next.result in
    let view : walking_at self.node left plan_now ≡ c.args.self.now = rw c.in-Walks.is at c.self.view_is in
    let behind = rw c.deref.ensures.value at c.next_place-next.ensures.words in
    let on = looks_on vfs call from self.node left plan_now directory word words plan next (view ∙ walks) behind in
    let stop = rw c.deref-2.ensures.value at c.in-Some.ensures.stop in
    let none = none_left bytes c.in-Some.stop.at (sym c.is_some.ensures ∙ c.if-is_some.false) in
    let arrives : go (known names c.args.clock) from next ≡ arrived c.in-Some.stop.node =
    stop ∙ ap (stop_at c.in-Some.stop.node) none in
    let r = c.in-Link in
    let more = words_from r.words.items r.at in
    let stop-2 = rw c.deref-in-Link.ensures.value at c.walk_past-in-Link.ensures.stop in
    ap (λ (a : Advance Opened). is_some a.operation)
    (on ∙ ap (λ p. walks_on vfs call from next (plan_of
    (λ s. s.items) p)) r.is ∙ links vfs names c.args.clock has call from next more r.name.items c.in-Some.stop.node arrives)
    ∙ root_asks vfs names c.args.clock has call more
    (op.link (Some c.in-Some.stop.node) None r.name.items) r.words.items c.walk_past-in-Link.result stop-2 ∙ sym c.is_some-in-Link.ensures
