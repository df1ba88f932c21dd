use Rattle.std.proofs.Common.{◌≡◌, ℕ, [], sym, ap, ◌∙◌, Some, None}
use Rattle.fuse_spec.specs.Files.Operations as op
use Rattle.fuse_spec.specs.Calls.Begins.{sets_out}
use Rattle.fuse_spec.specs.Calls.Vfs.{Vfs, after_beginning}
use Rattle.fuse_spec.specs.Calls.Walks.{go, arrived, last, rename, link}
use Rattle.fuse_spec.specs.declared.Opened.{Opened}
use Rattle.fk_syscalls.specs.Plans.{plan_of, IsLast}
use Rattle.fk_syscalls.specs.States.{walking_at, HasCachedNames}
use Rattle.fk_syscalls.specs.Walks.{known, stop_at}
use Rattle.fk_syscalls.specs.Words.{words_from}
use Rattle.fk_syscalls.proofs.Advances.{all_root_waits, renames, links, root_is, some_left, none_left, if_err, begun_so, asks_so}
use Rattle.fk_syscalls.proofs.beginning.start_walk.Goals as goal

pub returns-then-is_some-clause-begun : goal.returns-then-is_some-clause-begun
returns-then-is_some-clause-begun g c = λ vfs call has.
    let words = c.args.words.now in
    let names = c.args.names.now.names in
    let from = words_from words c.args.at in
    let plan = plan_of (λ s. s.now) c.args.plan in
    let stop = c.in-Some.stop in
    let there = sym c.is_some.ensures ∙ c.if-is_some.true in
    let ends : words_from words stop.at ≡ [] → IsLast plan = λ none. some_left words stop.at there none in
    rw c.in_ok-state.ensures (all_root_waits vfs names c.args.clock has call from plan stop.node
    (words_from words stop.at) ends c.in-Some.ensures.stop)

pub returns-in_err-state-clause-out_of_memory : goal.returns-in_err-state-clause-out_of_memory
returns-in_err-state-clause-out_of_memory g c =
    let words = c.args.words.now in
    let names = c.args.names.now.names in
    let from = words_from words c.args.at in
    let plan = plan_of (λ s. s.now) c.args.plan in
    let stop = c.in-Some.stop in
    let there = sym c.is_some.ensures ∙ c.if-is_some.true in
    let ends : words_from words stop.at ≡ [] → IsLast plan = λ none. some_left words stop.at there none in
    if_err c.from_residual.result (λ vfs call has. (
      walking_at stop.node (words_from words stop.at) plan,
      all_root_waits vfs names c.args.clock has call from plan stop.node
          (words_from words stop.at) ends c.in-Some.ensures.stop,
    ))

pub returns-in_ok-state-in-Last-clause-begun : goal.returns-in_ok-state-in-Last-clause-begun
returns-in_ok-state-in-Last-clause-begun g c = λ vfs call has.
    let words = c.args.words.now in
    let names = c.args.names.now.names in
    let from = words_from words c.args.at in
    let plan = plan_of (λ s. s.now) c.args.plan in
    let stop = c.in-Some.stop in
    let none = none_left words stop.at (sym c.is_some.ensures ∙ c.if-is_some.false) in
    let ends : IsLast plan = rw c.in-Last.is tt in
    rw c.in_ok-state-in-Last.ensures (all_root_waits vfs names c.args.clock has call from plan stop.node []
    (λ e. ends) (c.in-Some.ensures.stop ∙ ap (stop_at stop.node) none))

pub returns-in_err-state-in-Last-clause-out_of_memory : goal.returns-in_err-state-in-Last-clause-out_of_memory
returns-in_err-state-in-Last-clause-out_of_memory g c =
    let words = c.args.words.now in
    let names = c.args.names.now.names in
    let from = words_from words c.args.at in
    let plan = plan_of (λ s. s.now) c.args.plan in
    let stop = c.in-Some.stop in
    let ends : IsLast plan = rw c.in-Last.is tt in
    if_err c.from_residual-in_err-state-in-Last.result
    (λ vfs call has. (
      walking_at stop.node (words_from words stop.at) plan,
      all_root_waits vfs names c.args.clock has call from plan stop.node (words_from words stop.at)
          (λ e. ends) c.in-Some.ensures.stop,
    ))

pub returns-in-Rename-clause-begun : goal.returns-in-Rename-clause-begun
returns-in-Rename-clause-begun g c =
    let words = c.args.words.now in
    let names = c.args.names.now.names in
    let from = words_from words c.args.at in
    let stop = c.in-Some.stop in
    let none = none_left words stop.at (sym c.is_some.ensures ∙ c.if-is_some.false) in
    let arrives : go (known names c.args.clock) 1 from ≡ arrived stop.node =
    c.in-Some.ensures.stop ∙ ap (stop_at stop.node) none in
    let r = c.in-Rename in
    let more = words_from r.words.now r.at in
    let same : (vfs : Vfs Opened) (call : ℕ) → HasCachedNames vfs names c.args.clock
    → after_beginning vfs call (sets_out from (rename r.old.now more r.new.now))
    ≡ after_beginning vfs call (sets_out more (last (op.rename (Some stop.node) r.old.now None r.new.now))) =
    λ vfs call has. root_is vfs names c.args.clock has call from
    (rename r.old.now more r.new.now) ∙ renames vfs names c.args.clock has call 1 from r.old.now more r.new.now stop.node arrives in
    rw r.is (begun_so names c.args.clock (sets_out from (rename r.old.now more r.new.now))
    (sets_out more (last (op.rename (Some stop.node) r.old.now None r.new.now))) same c.set_out_again.result c.set_out_again.ensures.begun)

pub returns-in-Rename-clause-out_of_memory : goal.returns-in-Rename-clause-out_of_memory
returns-in-Rename-clause-out_of_memory g c =
    let words = c.args.words.now in
    let names = c.args.names.now.names in
    let from = words_from words c.args.at in
    let stop = c.in-Some.stop in
    let none = none_left words stop.at (sym c.is_some.ensures ∙ c.if-is_some.false) in
    let arrives : go (known names c.args.clock) 1 from ≡ arrived stop.node =
    c.in-Some.ensures.stop ∙ ap (stop_at stop.node) none in
    let r = c.in-Rename in
    let more = words_from r.words.now r.at in
    let same : (vfs : Vfs Opened) (call : ℕ) → HasCachedNames vfs names c.args.clock
    → after_beginning vfs call (sets_out from (rename r.old.now more r.new.now))
    ≡ after_beginning vfs call (sets_out more (last (op.rename (Some stop.node) r.old.now None r.new.now))) =
    λ vfs call has. root_is vfs names c.args.clock has call from
    (rename r.old.now more r.new.now) ∙ renames vfs names c.args.clock has call 1 from r.old.now more r.new.now stop.node arrives in
    rw r.is (asks_so names c.args.clock (sets_out from (rename r.old.now more r.new.now))
    (sets_out more (last (op.rename (Some stop.node) r.old.now None r.new.now))) same c.set_out_again.result c.set_out_again.ensures.out_of_memory)

pub returns-in-Link-clause-begun : goal.returns-in-Link-clause-begun
returns-in-Link-clause-begun g c =
    let words = c.args.words.now in
    let names = c.args.names.now.names in
    let from = words_from words c.args.at in
    let stop = c.in-Some.stop in
    let none = none_left words stop.at (sym c.is_some.ensures ∙ c.if-is_some.false) in
    let arrives : go (known names c.args.clock) 1 from ≡ arrived stop.node =
    c.in-Some.ensures.stop ∙ ap (stop_at stop.node) none in
    let r = c.in-Link in
    let more = words_from r.words.now r.at in
    let same : (vfs : Vfs Opened) (call : ℕ) → HasCachedNames vfs names c.args.clock
    → after_beginning vfs call (sets_out from (link more r.name.now))
    ≡ after_beginning vfs call (sets_out more (last (op.link (Some stop.node) None r.name.now))) =
    λ vfs call has. root_is vfs names c.args.clock has call from
    (link more r.name.now) ∙ links vfs names c.args.clock has call 1 from more r.name.now stop.node arrives in
    rw r.is (begun_so names c.args.clock (sets_out from (link more r.name.now))
    (sets_out more (last (op.link (Some stop.node) None r.name.now))) same c.set_out_again-in-Link.result c.set_out_again-in-Link.ensures.begun)

pub returns-in-Link-clause-out_of_memory : goal.returns-in-Link-clause-out_of_memory
returns-in-Link-clause-out_of_memory g c =
    let words = c.args.words.now in
    let names = c.args.names.now.names in
    let from = words_from words c.args.at in
    let stop = c.in-Some.stop in
    let none = none_left words stop.at (sym c.is_some.ensures ∙ c.if-is_some.false) in
    let arrives : go (known names c.args.clock) 1 from ≡ arrived stop.node =
    c.in-Some.ensures.stop ∙ ap (stop_at stop.node) none in
    let r = c.in-Link in
    let more = words_from r.words.now r.at in
    let same : (vfs : Vfs Opened) (call : ℕ) → HasCachedNames vfs names c.args.clock
    → after_beginning vfs call (sets_out from (link more r.name.now))
    ≡ after_beginning vfs call (sets_out more (last (op.link (Some stop.node) None r.name.now))) =
    λ vfs call has. root_is vfs names c.args.clock has call from
    (link more r.name.now) ∙ links vfs names c.args.clock has call 1 from more r.name.now stop.node arrives in
    rw r.is (asks_so names c.args.clock (sets_out from (link more r.name.now))
    (sets_out more (last (op.link (Some stop.node) None r.name.now))) same c.set_out_again-in-Link.result c.set_out_again-in-Link.ensures.out_of_memory)
