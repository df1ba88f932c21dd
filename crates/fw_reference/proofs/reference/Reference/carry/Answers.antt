use Rattle.std.proofs.Common.{refl}
use Rattle.fk_syscalls.specs.Values.{call_of}
use Rattle.fuse_spec.specs.World.Events as event
use Rattle.fw_world.specs.Values.{outcome_of}
use Rattle.fw_reference.proofs.GoingOn.{begins, is_begun, steps_on, then_continues}
use Rattle.fw_reference.proofs.reference.Reference.carry.Goals as goal

pub returns-in-Err-clause-goes_on : goal.returns-in-Err-clause-goes_on
returns-in-Err-clause-goes_on g c =
    (steps_on outcome_of _ (event.call (call_of c.args.call.now)) c.step.result _ c.step.ensures.step.err c.step.ensures.step.happens, refl)

-- a call that happens begins
pub returns-in_default : goal.returns-in_default
returns-in_default g c =
    let old = c.args.self.now.world.sides in
    let happens = c.in-Ok.ensures.step.happens in
    let begun = begins old (call_of c.args.call.now) (outcome_of c.in-Ok.outcome) c.step.new.self.sides happens in
    let (call, is) = is_begun c.in-Ok.outcome old.kernel.vfs.next_call begun in
    absurd (c.in_default.not-Begun call is)

pub returns-in_err-serve_all-clause-goes_on : goal.returns-in_err-serve_all-clause-goes_on
returns-in_err-serve_all-clause-goes_on g c = then_continues _ _ _ _ _ _
    (steps_on outcome_of _ (event.call (call_of c.args.call.now)) c.step.result _ c.step.ensures.step.err c.step.ensures.step.happens, refl) c.serve_all.ensures

pub returns-clause-goes_on : goal.returns-clause-goes_on
returns-clause-goes_on g c = then_continues _ _ _ _ _ _
    (steps_on outcome_of _ (event.call (call_of c.args.call.now)) c.step.result _ c.step.ensures.step.err c.step.ensures.step.happens, refl) c.serve_all.ensures
