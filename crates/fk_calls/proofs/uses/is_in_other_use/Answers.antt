use Rattle.std.proofs.Common.{ℕ, Bool, refl, sym, ◌∙◌}
use Rattle.std.specs.Prelude.{◌&&◌, not, nat_eq}
use Rattle.std.specs.List.{list_any}
use Rattle.fuse_spec.specs.Kernel.Kernel.{is_using}
use Rattle.fuse_spec.specs.Values.Maps.{Map}
use Rattle.fuse_spec.specs.Calls.Vfs.{CallState}
use Rattle.fuse_spec.specs.declared.Opened.{Opened}
use Rattle.fk_calls.proofs.AnyRow.{one_passes, next_row, none_passes}
use Rattle.fk_calls.proofs.uses.is_in_other_use.Goals as goal

abbrev other_use : ℕ → ℕ → ℕ × CallState Opened → Bool
other_use but open_call row = not (nat_eq row.0 but) && is_using open_call row.1

abbrev in_other_use : ℕ → ℕ → Map (CallState Opened) → Bool
in_other_use but open_call calls = list_any (other_use but open_call) calls

pub returns-then-is_other_use : goal.returns-then-is_other_use
returns-then-is_other_use g c = one_passes (in_other_use c.args.but c.args.open_call) (other_use c.args.but c.args.open_call)
    (λ _ _. refl) c.args.calls.now c.loop-call.call-index c.call-item.result c.loop-call.invariant c.call-item.is
    c.loop-call-test.true (sym c.if-is_other_use.true ∙ c.is_other_use.ensures)

pub returns : goal.returns
returns g c = none_passes (in_other_use c.args.but c.args.open_call) (other_use c.args.but c.args.open_call) (λ _ _. refl) refl
    c.args.calls.now c.loop-call.call-index c.loop-call.invariant c.loop-call-test.false

pub loop-call-preserved : goal.loop-call-preserved
loop-call-preserved g c = next_row (in_other_use c.args.but c.args.open_call) (other_use c.args.but c.args.open_call)
    (λ _ _. refl) c.args.calls.now c.loop-call.call-index c.call-item.result c.loop-call.invariant c.call-item.is
    c.loop-call-test.true (sym c.if-is_other_use.false ∙ c.is_other_use.ensures)
