use Rattle.fw_reference.proofs.GoingOn.{then_continues}
use Rattle.fw_reference.proofs.reference.Reference.serve_one.Goals as goal

pub returns-in_err-step : goal.returns-in_err-step
returns-in_err-step g c = then_continues _ _ _ _ _ _ c.step.ensures c.step-2.ensures

pub returns-in_ok-step : goal.returns-in_ok-step
returns-in_ok-step g c = then_continues _ _ _ _ _ _ c.step.ensures c.step-2.ensures

pub returns-in_ok-step-2 : goal.returns-in_ok-step-2
returns-in_ok-step-2 g c = then_continues _ _ _ _ _ _ c.step.ensures c.step-2.ensures

pub returns-in_err-step-2 : goal.returns-in_err-step-2
returns-in_err-step-2 g c = then_continues _ _ _ _ _ _ (then_continues _ _ _ _ _ _ c.step.ensures c.step-2.ensures) c.step-in-Taken-default-Held.ensures

pub returns-in_err-step-3 : goal.returns-in_err-step-3
returns-in_err-step-3 g c = then_continues _ _ _ _ _ _ (then_continues _ _ _ _ _ _ (then_continues _ _ _ _ _ _ c.step.ensures c.step-2.ensures) c.step-in-Taken-default-Held.ensures) c.step-in-Taken-default-Held-2.ensures

pub returns-in_err-step-4 : goal.returns-in_err-step-4
returns-in_err-step-4 g c = then_continues _ _ _ _ _ _ (then_continues _ _ _ _ _ _ (then_continues _ _ _ _ _ _ (then_continues _ _ _ _ _ _ c.step.ensures c.step-2.ensures) c.step-in-Taken-default-Held.ensures) c.step-in-Taken-default-Held-2.ensures) c.step-in-Taken-default-Held-3.ensures

pub returns-in_ok-step-4 : goal.returns-in_ok-step-4
returns-in_ok-step-4 g c = then_continues _ _ _ _ _ _ (then_continues _ _ _ _ _ _ (then_continues _ _ _ _ _ _ (then_continues _ _ _ _ _ _ c.step.ensures c.step-2.ensures) c.step-in-Taken-default-Held.ensures) c.step-in-Taken-default-Held-2.ensures) c.step-in-Taken-default-Held-3.ensures
