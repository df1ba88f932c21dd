use Rattle.std.proofs.Common.{refl}
use Rattle.fuse_spec.specs.Claim.Sessions.{linked}
use Rattle.fuse_theorem.proofs.OverLinks.LostOnce.{lost_in, never_lost}
use Rattle.fuse_theorem.proofs.sessions.lost_once.Goals as goal

pub returns-clause-never : goal.returns-clause-never
returns-clause-never g = λ w events records after recorded. never_lost (linked w) events records
    (linked after) recorded refl refl

pub returns-clause-once : goal.returns-clause-once
returns-clause-once g = λ w events records after recorded gone. lost_in
    (linked w) events records after recorded refl gone
