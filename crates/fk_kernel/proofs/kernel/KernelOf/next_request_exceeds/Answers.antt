use Rattle.std.proofs.Common.{◌≡◌, ℕ, List, [], ◌∷◌, Some, true≢false, refl, ap, sym, subst, ◌∙◌}
use Rattle.std.specs.Prelude.{is_some}
use Rattle.fuse_spec.specs.declared.Opened.{Opened}
use Rattle.fuse_spec.specs.declared.WriteResult.{WriteResult}
use Rattle.fuse_spec.specs.Kernel.Kernel.{Kernel}
use Rattle.fuse_spec.specs.Kernel.QueueCalls.{without}
use Rattle.fuse_spec.specs.Kernel.Replies.{looked_up}
use Rattle.fuse_spec.specs.Calls.Vfs.{Advance, asked, walking, walks_on, bound}
use Rattle.fuse_spec.specs.Files.Operations.{Operation, lookup}
use Rattle.fuse_spec.specs.Calls.Paths.{Name}
use Rattle.fuse_spec.specs.Calls.Walks.{WalkPlan}
use Rattle.fk_syscalls.specs.States.{IsWalking}
use Rattle.fuse_spec.specs.Kernel.Refusals.{is_kernel_past_end}
use Rattle.fk_kernel.proofs.Phases.{within_ends}
use Rattle.fk_kernel.proofs.Replied.{lookup_found}
use Rattle.fk_kernel.proofs.Walking.{asks_past}
use Rattle.fk_kernel.proofs.CountersInRange.{walks_within}
use Rattle.fk_kernel.proofs.Rooms.{some_same, until_is}
use Rattle.fk_kernel.proofs.kernel.KernelOf.next_request_exceeds.Given as given
use Rattle.fk_kernel.proofs.kernel.KernelOf.next_request_exceeds.Goals as goal

pub would_ask-requires : goal.would_ask-requires
would_ask-requires g c =
    let stands = c.requires.looks_up in
    let is = stands.is in
    let same : c.args.state.now ≡ walking stands.directory stands.word stands.words stands.plan = some_same is in
    subst IsWalking (sym same) tt

-- whether it would ask is whether the machine's walk asks
walks_so : (g : given.Over) (c : goal.After-would_ask g) (directory : ℕ) (word : Name) (words : List Name)
    (plan : WalkPlan ℕ) → Some c.args.state.now ≡ Some (walking directory word words plan)
    → is_some (walks_on (bound c.args.self.now.vfs directory word
    (Some c.args.entry.now.nodeid) c.args.valid_ms) c.args.call c.args.entry.now.nodeid words plan).operation
    ≡ c.would_ask.result
walks_so g c directory word words plan stands =
    let k = c.self.inside in
    let same : c.args.state.now ≡ walking directory word words plan = some_same stands in
    let asks : ◌≡◌ {A = Operation ℕ Opened} (lookup c.in-Lookup.directory c.in-Lookup.name.now)
    (lookup directory word) = c.in-Lookup.ensures.operation ∙ ap asked same in
    let first : c.in-Lookup.directory ≡ directory = cc asks in
    let second : c.in-Lookup.name.now ≡ word = cc asks in
    let until = until_is k.clock c.args.valid_ms c.saturating_add.result c.self.invariant.clock_low c.requires.day
    c.saturating_add.ensures in
    c.would_ask.ensures (bound c.args.self.now.vfs directory word
    (Some c.args.entry.now.nodeid) c.args.valid_ms) c.args.call directory word words plan
    (rw (← c.self.view_is, first, second, until) (record { names = refl; clock = refl; root = refl })) same

pub returns-clause-past : goal.returns-clause-past
returns-clause-past g c = λ would.
    let now = c.args.self.now in
    let entry = c.args.entry.now in
    let stands = c.requires.looks_up in
    let asks = walks_so g c stands.directory stands.word stands.words stands.plan stands.is ∙ would in
    let next : Advance Opened = walks_on (bound now.vfs stands.directory stands.word
    (Some entry.nodeid) c.args.valid_ms) c.args.call entry.nodeid stands.words stands.plan in
    ap (λ (r : WriteResult × Kernel). is_kernel_past_end r.1)
    (lookup_found now c.args.unique c.args.call c.requires.even c.requires.waits stands.directory stands.word stands.words stands.plan (c.requires.unanswered ∙ stands.is) entry c.args.valid_ms c.requires.usable)
    ∙ asks_past (record now {
      vfs = next.vfs;
      queues = without now.queues c.args.unique;
      nodes = looked_up now.nodes (entry ∷ []);
    }) c.args.call next.operation asks c.requires.none_left

pub returns-clause-within : goal.returns-clause-within
returns-clause-within g c = λ would.
    let now = c.args.self.now in
    let entry = c.args.entry.now in
    let stands = c.requires.looks_up in
    let ends = within_ends now.queues.next now.vfs.next_call c.lemma_in_range.ensures in
    let asks = walks_so g c stands.directory stands.word stands.words stands.plan stands.is ∙ would in
    ap (λ (r : WriteResult × Kernel). is_kernel_past_end r.1)
    (lookup_found now c.args.unique c.args.call c.requires.even c.requires.waits stands.directory stands.word stands.words stands.plan (c.requires.unanswered ∙ stands.is) entry c.args.valid_ms c.requires.usable)
    ∙ walks_within now c.args.unique c.args.call stands.directory stands.word stands.words stands.plan entry c.args.valid_ms ends.0 ends.1 (λ some. absurd (true≢false (sym some ∙ asks)))
