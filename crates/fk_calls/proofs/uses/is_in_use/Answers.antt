use Rattle.std.proofs.Common.{ℕ, Bool, refl, sym, ◌∙◌}
use Rattle.std.specs.List.{list_any}
use Rattle.fuse_spec.specs.Kernel.Kernel.{is_using}
use Rattle.fuse_spec.specs.Values.Maps.{Map, values}
use Rattle.fuse_spec.specs.Calls.Vfs.{CallState}
use Rattle.fuse_spec.specs.declared.Opened.{Opened}
use Rattle.fk_calls.proofs.AnyRow.{one_passes, next_row, none_passes}
use Rattle.fk_calls.proofs.uses.is_in_use.Goals as goal

abbrev in_use : ℕ → Map (CallState Opened) → Bool
in_use open_call calls = list_any (is_using open_call) (values calls)

abbrev uses : ℕ → ℕ × CallState Opened → Bool
uses open_call row = is_using open_call row.1

pub returns-then-uses : goal.returns-then-uses
returns-then-uses g c = one_passes (in_use c.args.open_call) (uses c.args.open_call) (λ _ _. refl) c.args.calls.now
    c.loop-call.call-index c.call-item.result c.loop-call.invariant c.call-item.is c.loop-call-test.true
    (sym c.if-uses.true ∙ c.uses.ensures)

pub returns : goal.returns
returns g c = none_passes (in_use c.args.open_call) (uses c.args.open_call) (λ _ _. refl) refl c.args.calls.now
    c.loop-call.call-index c.loop-call.invariant c.loop-call-test.false

pub loop-call-preserved : goal.loop-call-preserved
loop-call-preserved g c = next_row (in_use c.args.open_call) (uses c.args.open_call) (λ _ _. refl) c.args.calls.now
    c.loop-call.call-index c.call-item.result c.loop-call.invariant c.call-item.is c.loop-call-test.true
    (sym c.if-uses.false ∙ c.uses.ensures)
