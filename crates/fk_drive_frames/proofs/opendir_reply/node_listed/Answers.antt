use Rattle.std.proofs.Common.{inl, inr, refl, subst, sym}
use Rattle.fk_wire.specs.Requests.{request_content, request_message}
use Rattle.fk_drive_frames.specs.Filling.{IsListing}
use Rattle.fk_drive_frames.proofs.opendir_reply.node_listed.Goals as goal

pub returns-in-Readdir-clause-some : goal.returns-in-Readdir-clause-some
returns-in-Readdir-clause-some c = (
  request_message c.in-Ok.request,
  c.in-Ok.ensures.ok,
  refl,
  elim c.in-Readdir.is [
    | inl one ↦ subst (λ b. IsListing (request_content b)) (sym one.2) tt
    | inr one ↦ subst (λ b. IsListing (request_content b)) (sym one.2) tt
  ],
)
