use Rattle.std.proofs.Common.{subst, sym}
use Rattle.fk_wire.specs.Requests.{request_content, request_message}
use Rattle.fk_drive_frames.specs.Filling.{IsFilled}
use Rattle.fk_drive_frames.specs.declared.filling.Filled.TheVariants as filled
use Rattle.fk_drive_frames.proofs.filling.filled_in.Goals as goal

pub returns-in-Open-clause-some : goal.returns-in-Open-clause-some
returns-in-Open-clause-some c = (
  request_message c.in-Ok.request,
  c.in-Ok.ensures.ok,
  subst (λ b. IsFilled filled.Open (request_content b)) (sym c.in-Open.is) tt,
)

pub returns-in-Create-clause-some : goal.returns-in-Create-clause-some
returns-in-Create-clause-some c = (
  request_message c.in-Ok.request,
  c.in-Ok.ensures.ok,
  subst (λ b. IsFilled filled.Create (request_content b)) (sym c.in-Create.is) tt,
)

pub returns-in-Init-clause-some : goal.returns-in-Init-clause-some
returns-in-Init-clause-some c = (
  request_message c.in-Ok.request,
  c.in-Ok.ensures.ok,
  subst (λ b. IsFilled filled.Init (request_content b)) (sym c.in-Init.is) tt,
)
