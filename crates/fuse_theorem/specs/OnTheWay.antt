-- Where a request stands that was read and is unanswered, whatever happened.
use Rattle.std.specs.Prelude.{◌≡◌, ◌≢◌, ℕ, true, false, Some, None}
use Rattle.fuse_spec.specs.declared.Purpose.{Purpose}
use Rattle.fuse_spec.specs.declared.QueuedRequest.{QueuedRequest}
use Rattle.fuse_spec.specs.Kernel.Kernel.{is_live}
use Rattle.fuse_spec.specs.Values.Maps.{get}
use Rattle.fuse_spec.specs.Kernel.Messages.{RequestBody, Request, init, asks, release, forget, batch_forget, interrupt}
use Rattle.fuse_spec.specs.Kernel.Queues.{is_unread, request_under}
use Rattle.fuse_spec.specs.World.Worlds.{World, Sent}
use Rattle.fuse_theorem.specs.Copies.{SomeHas}

-- The server holds it once it has taken it, until it performs it.
abbrev pub IsToBeHeld : RequestBody → Type 0
IsToBeHeld (init flags) = Unit {0}
IsToBeHeld (asks operation) = Unit {0}
IsToBeHeld (release o) = Unit {0}
IsToBeHeld (forget f) = ⊥
IsToBeHeld (batch_forget fs) = ⊥
IsToBeHeld (interrupt original) = ⊥

-- The request under this number is on the request link, or held, or a copy of its reply is on the reply link.
pub data IsOnItsWay (w : World) (unique : ℕ) : Type 0 where
  sent : SomeHas (λ (r : Request). (r.unique ≡ unique) × IsToBeHeld r.body) w.requests → IsOnItsWay w unique
  held : get w.server.held unique ≢ None → IsOnItsWay w unique
  replied : SomeHas (λ (s : Sent). s.unique ≡ unique) w.replies → IsOnItsWay w unique

-- So is each request that was read and is unanswered, while the mount is live.
abbrev pub ReadAreOnTheirWay : World → Type 0
ReadAreOnTheirWay w = is_live w.kernel.phase ≡ true → (unique : ℕ) (r : QueuedRequest Purpose)
    → request_under w.kernel.queues unique ≡ Some r → is_unread r.mark ≡ false → IsOnItsWay w unique
