use Rattle.std.proofs.Common.{◌≡◌, Bool, false, nat_eq, sym, ap, ◌∙◌, arith, rules}
use Rattle.std.specs.Prelude.{◌||◌}
use Rattle.std.specs.List.{list_any}
use Rattle.std.proofs.lemmas.Bool.Decides.{nat_tests}
use Rattle.fuse_spec.specs.Kernel.Kernel.{nodes_of_state}
use Rattle.fk_syscalls.specs.Words.{words_from}
use Rattle.fk_syscalls.specs.Plans.{plan_of}
use Rattle.fuse_spec.specs.Calls.Walks.{files_of_plan}
use Rattle.fk_syscalls.specs.States.{state_of}
use Rattle.fk_syscalls.proofs.Advances.{names_walked, names_self, plan_ends}
use Rattle.fk_syscalls.proofs.state.CallState.names_node.Goals as goal

pub returns-then-self-node : goal.returns-then-self-node
returns-then-self-node g c =
    let self = c.self.inside in
    rw (← c.self.view_is) (sym (names_self c.args.node self.node (words_from self.words.items self.at) self.at self.waits_for
    c.self.invariant.sound (search rules)))

pub returns-in-Walks : goal.returns-in-Walks
returns-in-Walks g c =
    let self = c.self.inside in
    let plan = plan_of (λ s. s.items) c.in-Walks.plan in
    let words = words_from self.words.items self.at in
    let apart : nat_eq c.args.node self.node ≡ false = grind (arith, nat_tests) in
    let named = list_any (nat_eq c.args.node) (files_of_plan plan) in
    let sound = rw c.in-Walks.is at c.self.invariant.sound in
    let told = names_walked c.args.node self.node words plan (plan_ends c.in-Walks.plan sound.0) ∙ ap (λ (b : Bool). b || named) apart in
    rw (← c.self.view_is) (c.names_node.ensures ∙ sym told ∙ ap
    (λ aim. list_any (nat_eq c.args.node) (nodes_of_state (state_of self.node words aim))) (sym c.in-Walks.is))
