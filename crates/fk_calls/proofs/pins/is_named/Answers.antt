use Rattle.std.proofs.Common.{ℕ, Bool, refl, sym, ◌∙◌}
use Rattle.std.specs.Prelude.{nat_eq}
use Rattle.std.specs.List.{list_any}
use Rattle.fuse_spec.specs.Kernel.Kernel.{nodes_of_state}
use Rattle.fuse_spec.specs.Values.Maps.{Map, values}
use Rattle.fuse_spec.specs.Calls.Vfs.{CallState}
use Rattle.fuse_spec.specs.declared.Opened.{Opened}
use Rattle.fk_calls.proofs.AnyRow.{one_passes, next_row, none_passes}
use Rattle.fk_calls.proofs.pins.is_named.Goals as goal

abbrev names : ℕ → CallState Opened → Bool
names node state = list_any (nat_eq node) (nodes_of_state state)

abbrev one_names : ℕ → Map (CallState Opened) → Bool
one_names node calls = list_any (names node) (values calls)

pub returns-then-names_node : goal.returns-then-names_node
returns-then-names_node g c = one_passes (one_names c.args.node) (λ row. names c.args.node row.1)
    (λ _ _. refl) c.args.calls.now c.loop-call.call-index c.call-item.result c.loop-call.invariant c.call-item.is
    c.loop-call-test.true (sym c.if-names_node.true ∙ c.names_node.ensures)

pub returns : goal.returns
returns g c = none_passes (one_names c.args.node) (λ row. names c.args.node row.1) (λ _ _. refl) refl
    c.args.calls.now c.loop-call.call-index c.loop-call.invariant c.loop-call-test.false

pub loop-call-preserved : goal.loop-call-preserved
loop-call-preserved g c = next_row (one_names c.args.node) (λ row. names c.args.node row.1)
    (λ _ _. refl) c.args.calls.now c.loop-call.call-index c.call-item.result c.loop-call.invariant c.call-item.is
    c.loop-call-test.true (sym c.if-names_node.false ∙ c.names_node.ensures)
