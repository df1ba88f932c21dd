use Rattle.std.proofs.Common.{◌≡◌, sym, ap, ◌∙◌}
use Rattle.fuse_spec.specs.Calls.Walks.{go, arrived}
use Rattle.fk_syscalls.specs.Plans.{plan_of}
use Rattle.fk_syscalls.specs.States.{walking_at}
use Rattle.fk_syscalls.specs.Walks.{known, stop_at}
use Rattle.fk_syscalls.specs.Words.{words_from}
use Rattle.fk_syscalls.proofs.Advances.{waits, finds_none, looks_on, some_left, none_left}
use Rattle.fk_syscalls.proofs.state.CallState.advance.Goals as goal

pub returns-in_default-walk : goal.returns-in_default-walk
returns-in_default-walk g c = λ vfs call directory word words plan has walks.
    let self = c.self.inside in
    let bytes = self.words.items in
    let plan_now = plan_of (λ s. s.items) c.in-Walks.plan in
    let from = c.args.node in
    let names = c.args.names.now.names in
    let left = words_from bytes self.at in
    let next = words_from bytes c.next_place-next.result in
    let view : walking_at self.node left plan_now ≡ c.args.self = rw c.in-Walks.is at c.self.view_is in
    let behind = rw c.deref.ensures.value at c.next_place-next.ensures.words in
    let on = looks_on vfs call from self.node left plan_now directory word words plan next (view ∙ walks) behind in
    let stop = rw c.deref-2.ensures.value at c.in_default-walk.ensures.stop in
    on ∙ finds_none vfs names c.args.clock has call next plan_now from stop

pub returns-then-is_some : goal.returns-then-is_some
returns-then-is_some g c = λ vfs call directory word words plan has walks.
    let self = c.self.inside in
    let bytes = self.words.items in
    let plan_now = plan_of (λ s. s.items) c.in-Walks.plan in
    let from = c.args.node in
    let names = c.args.names.now.names in
    let left = words_from bytes self.at in
    let next = words_from bytes c.next_place-next.result in
    let view : walking_at self.node left plan_now ≡ c.args.self = rw c.in-Walks.is at c.self.view_is in
    let behind = rw c.deref.ensures.value at c.next_place-next.ensures.words in
    let on = looks_on vfs call from self.node left plan_now directory word words plan next (view ∙ walks) behind in
    let stop = rw c.deref-2.ensures.value at c.in-Some.ensures.stop in
    let there = sym c.is_some.ensures ∙ c.if-is_some.true in
    on ∙ waits vfs names c.args.clock has call next plan_now from c.in-Some.stop.node
    (words_from bytes c.in-Some.stop.at) (λ none. some_left bytes c.in-Some.stop.at there none) stop

pub returns : goal.returns
returns g c = λ vfs call directory word words plan has walks.
    let self = c.self.inside in
    let bytes = self.words.items in
    let plan_now = plan_of (λ s. s.items) c.in-Walks.plan in
    let from = c.args.node in
    let names = c.args.names.now.names in
    let left = words_from bytes self.at in
    let next = words_from bytes c.next_place-next.result in
    let view : walking_at self.node left plan_now ≡ c.args.self = rw c.in-Walks.is at c.self.view_is in
    let behind = rw c.deref.ensures.value at c.next_place-next.ensures.words in
    let on = looks_on vfs call from self.node left plan_now directory word words plan next (view ∙ walks) behind in
    let stop = rw c.deref-2.ensures.value at c.in-Some.ensures.stop in
    let none = none_left bytes c.in-Some.stop.at (sym c.is_some.ensures ∙ c.if-is_some.false) in
    let arrives : go (known names c.args.clock) from next ≡ arrived c.in-Some.stop.node =
    stop ∙ ap (stop_at c.in-Some.stop.node) none in
    on ∙ c.walk_finished.ensures vfs call from next has arrives
