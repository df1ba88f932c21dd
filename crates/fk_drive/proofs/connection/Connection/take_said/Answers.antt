use Rattle.std.proofs.Common.{false, inl, inr, refl, subst, sym, [], ◌∷◌}
use Rattle.std.specs.Prelude.{ℤ}
use Rattle.fuse_device.specs.Transfers.{received}
use Rattle.fk_drive_frames.specs.OwnRequests.{SaysOfOpendir}
use Rattle.fk_drive_frames.specs.declared.opendir_reply.OpendirSaid.{OpendirSaid}
use Rattle.fk_drive.specs.Driven.{driven}
use Rattle.fk_drive.specs.Driving.{is_garbled, is_not_known, is_refused, opening, unopened}
use Rattle.fk_drive.specs.Openings.{StopsAsking, turn_of}
use Rattle.fk_drive.specs.Steps.{SendStep}
use Rattle.fk_drive.proofs.Changes.{step_given}
use Rattle.fk_drive.proofs.connection.Connection.take_said.Goals as goal

pub returns-in-Handle-clause-said : goal.returns-in-Handle-clause-said
returns-in-Handle-clause-said g c free_fields kernel request own frame under says =
    subst (λ (s : OpendirSaid). SendStep free_fields (driven kernel c.args.self.now (opening request own c.args.listing.node))
    (received frame ∷ []) (driven kernel c.put_directory.new.self (turn_of request s))) (sym c.in-Handle.is)
    (step_given kernel c.args.self.now c.put_directory.new.self request own c.args.listing.node c.in-Handle.fh
    c.args.listing.unique under c.put_directory.ensures.put c.put_directory.ensures.same frame
    (subst (SaysOfOpendir frame own) c.in-Handle.is says) free_fields)

pub returns-in-NotKnown-clause-said : goal.returns-in-NotKnown-clause-said
returns-in-NotKnown-clause-said g c free_fields kernel request own frame under says =
    subst (λ (s : OpendirSaid). SendStep free_fields (driven kernel c.args.self.now (opening request own c.args.listing.node))
    (received frame ∷ []) (driven kernel (record c.args.self.now { asks = false }) (turn_of request s)))
    (sym c.in-NotKnown.is)
    (is_not_known request own c.args.listing.node refl frame (subst (SaysOfOpendir frame own) c.in-NotKnown.is says), tt)

pub returns-in-NotKnown-clause-asks : goal.returns-in-NotKnown-clause-asks
returns-in-NotKnown-clause-asks g c =
    subst (λ (s : OpendirSaid). StopsAsking s false) (sym c.in-NotKnown.is) refl

pub returns-in-Handle-clause-asks : goal.returns-in-Handle-clause-asks
returns-in-Handle-clause-asks g c =
    subst (λ (s : OpendirSaid). StopsAsking s c.put_directory.new.self.asks) (sym c.in-Handle.is) tt

pub returns-in-Failed-clause-asks : goal.returns-in-Failed-clause-asks
returns-in-Failed-clause-asks g c =
    subst (λ (s : OpendirSaid). StopsAsking s c.args.self.now.asks) (sym c.in-Failed.is) tt

pub returns-in-Failed-clause-said : goal.returns-in-Failed-clause-said
returns-in-Failed-clause-said g c free_fields kernel request own frame under says =
    subst (λ (s : OpendirSaid). SendStep free_fields (driven kernel c.args.self.now (opening request own c.args.listing.node))
    (received frame ∷ []) (driven kernel c.args.self.now (turn_of request s))) (sym c.in-Failed.is)
    (elim (subst (SaysOfOpendir frame own) c.in-Failed.is says) [
      | inl refused ↦ (is_refused request own c.args.listing.node refl frame c.in-Failed._error refused.0 refused.1, tt)
      | inr garbled ↦ subst (λ (e : ℤ). SendStep free_fields (driven kernel c.args.self.now (opening request own c.args.listing.node))
          (received frame ∷ []) (driven kernel c.args.self.now (unopened request e))) (sym garbled.3)
          (is_garbled request own c.args.listing.node refl frame garbled.0 garbled.1 garbled.2, tt)
    ])
