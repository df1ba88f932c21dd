-- The refusals of a held request and of a kept reply, case by case.
use Rattle.std.proofs.Common.{◌≡◌, ℕ, Bool, true, false, not, Option, Some, None, ap, ◌∙◌}
use Rattle.fuse_spec.specs.Values.Maps.{get}
use Rattle.fuse_spec.specs.declared.Refusal.TheVariants.{NoSuch, NoCopy, Exhausted}
use Rattle.fuse_spec.specs.Kernel.Refusals.{unless, refusal_in, accepted}
use Rattle.fuse_spec.specs.Server.Refusals.{held_found, kept_found}
use Rattle.fuse_spec.specs.Server.Nodes.{count_overflows}
use Rattle.fuse_spec.specs.Server.Performs.{files_given}
use Rattle.fuse_spec.specs.Server.Copies.{is_current, files_named}
use Rattle.fuse_spec.specs.Server.Server.{Server, HeldRequest, Kept}
use Rattle.fs_server.specs.Effects.{RefusesHeld, as_judged, RefusesAgain, judged_again}

module _ (s : Server) (unique : ℕ) where
  pub not_held : get s.held unique ≡ None → RefusesHeld s unique NoSuch
  not_held none = as_judged NoSuch
      (ap (λ (o : Option HeldRequest). refusal_in (held_found s o (λ (held : HeldRequest). accepted))) none)

  pub counted_too_often : (held : HeldRequest) → get s.held unique ≡ Some held
      → count_overflows s.nodes (files_given s held) ≡ true → RefusesHeld s unique Exhausted
  counted_too_often held there out = as_judged Exhausted
      (ap (λ (o : Option HeldRequest). refusal_in (held_found s o (λ (held : HeldRequest). accepted))) there
      ∙ ap (λ (b : Bool). refusal_in (unless b Exhausted accepted)) out)

  pub not_kept : get s.kept unique ≡ None → RefusesAgain s unique NoCopy
  not_kept none = judged_again NoCopy
      (ap (λ (o : Option Kept). refusal_in (kept_found s o (λ (kept : Kept). accepted))) none)

  pub not_current : (kept : Kept) → get s.kept unique ≡ Some kept → is_current s kept.wire ≡ false
      → RefusesAgain s unique NoCopy
  not_current kept there stale = judged_again NoCopy
      (ap (λ (o : Option Kept). refusal_in (kept_found s o (λ (kept : Kept). accepted))) there
      ∙ ap (λ (b : Bool). refusal_in (unless (not b) NoCopy
      (unless (count_overflows s.nodes (files_named s kept.wire)) Exhausted accepted))) stale)

  pub copied_too_often : (kept : Kept) → get s.kept unique ≡ Some kept → is_current s kept.wire ≡ true
      → count_overflows s.nodes (files_named s kept.wire) ≡ true → RefusesAgain s unique Exhausted
  copied_too_often kept there current out = judged_again Exhausted
      (ap (λ (o : Option Kept). refusal_in (kept_found s o (λ (kept : Kept). accepted))) there
      ∙ ap (λ (b : Bool). refusal_in (unless (not b) NoCopy
      (unless (count_overflows s.nodes (files_named s kept.wire)) Exhausted accepted))) current
      ∙ ap (λ (b : Bool). refusal_in (unless b Exhausted accepted)) out)
