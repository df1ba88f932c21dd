use Rattle.std.proofs.Common.{ℕ, false, true≢false, refl, sym, [], ◌∷◌}
use Rattle.fuse_spec.specs.Kernel.Messages.{asks}
use Rattle.fuse_spec.specs.Files.Operations.{getattr}
use Rattle.fuse_spec.specs.Reference.Plain.{first_plain}
use Rattle.fuse_spec.specs.Server.Server.{HeldRequest}
use Rattle.fuse_theorem.specs.Counterexamples.{with_a_late_request}
use Rattle.fuse_theorem.specs.EachEvent.{CanServe, performs, performs_unreceived, declines, initiates, releases}
use Rattle.fuse_theorem.proofs.WholeLists.NoPremise.{stray_sound}
use Rattle.fuse_theorem.proofs.counterexamples.performing_needs_more.Goals as goal

abbrev late : HeldRequest
late = record { body = asks (getattr 2); generations = (2, 1) ∷ []; marked = false }

none_serves : (choice : ℕ → ℕ) → CanServe choice with_a_late_request first_plain 2 late → ⊥
none_serves choice (performs operation can aborted tables one known may) = true≢false (sym can.still)
none_serves choice (performs_unreceived operation can aborted one) = true≢false (sym can.still)
none_serves choice (declines operation can) = true≢false (sym can.marked)
none_serves choice (initiates flags body unmarked still) = cc (body)
none_serves choice (releases o can one held opens) = cc (can.body_is)

pub returns : goal.returns
returns g = (stray_sound, λ choice needs. none_serves choice (needs late refl))
