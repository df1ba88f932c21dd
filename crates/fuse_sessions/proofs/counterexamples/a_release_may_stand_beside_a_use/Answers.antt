use Rattle.std.proofs.Common.{refl, true≢false}
use Rattle.fuse_sessions.specs.declared.fault.Fault.{Fault}
use Rattle.fuse_sessions.specs.declared.fault.Fault.TheVariants as fault
use Rattle.fuse_sessions.specs.Counterexamples.{listed_without_opening, root_under_zero}
use Rattle.fuse_sessions.specs.Faults.{BreaksRelease}
use Rattle.fuse_sessions.proofs.counterexamples.a_release_may_stand_beside_a_use.Goals as goal

pub returns-clause-open_once : goal.returns-clause-open_once
returns-clause-open_once c = refl

pub returns-clause-used : goal.returns-clause-used
returns-clause-used c = refl

none : (f : Fault) → BreaksRelease listed_without_opening root_under_zero f → ⊥
none fault.ReleaseOfWhatIsNotOpen may_not = may_not tt
none fault.ReleaseBesideAUse b = true≢false b.0
none f b = b

pub returns-clause-faultless : goal.returns-clause-faultless
returns-clause-faultless c = none
