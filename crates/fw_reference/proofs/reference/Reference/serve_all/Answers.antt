use Rattle.fw_reference.proofs.GoingOn.{continues, then_continues}
use Rattle.fw_reference.proofs.reference.Reference.serve_all.Goals as goal

pub loop-request-init : goal.loop-request-init
loop-request-init g c = continues _ _

pub loop-request-preserved : goal.loop-request-preserved
loop-request-preserved g c = then_continues _ _ _ _ _ _ c.loop-request.invariant c.serve_one.ensures

pub returns-in_err-serve_one : goal.returns-in_err-serve_one
returns-in_err-serve_one g c = then_continues _ _ _ _ _ _ c.loop-request.invariant c.serve_one.ensures

pub returns-then-not-branch : goal.returns-then-not-branch
returns-then-not-branch g c = then_continues _ _ _ _ _ _ c.loop-request.invariant c.serve_one.ensures
