-- What is on the links was sent in a live mount, which can be aborted.
use Rattle.std.proofs.Common.{◌≡◌, Bool, true, false, [], refl}
use Rattle.fuse_spec.specs.Kernel.Kernel.{is_live}
use Rattle.fuse_spec.specs.World.Worlds.{World, after_abort}
use Rattle.fuse_spec.specs.World.Events.{abort, aborted}
use Rattle.fuse_spec.specs.World.Steps.{Happens}
use Rattle.fuse_theorem.specs.Links.{LinksSound}

abbrev AbortHappens : World → Type 0
AbortHappens w = (last : World) × Happens w abort aborted last

pub abort_follows : (w : World) → LinksSound w → ((w.requests ≡ []) × (w.replies ≡ []) × (w.results ≡ []) → ⊥)
    → (last : World) × Happens w abort aborted last
abort_follows w sound some = by (is_live w.kernel.phase) refl
  where
    by : (live : Bool) → is_live w.kernel.phase ≡ live → AbortHappens w
    by true is = (after_abort w, ((λ file. file), tt, cc (is)))
    by false is = let idle = sound.idle is in absurd (some (idle.requests, idle.replies, idle.results))
