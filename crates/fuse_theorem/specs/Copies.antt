-- What is true of the copies of replies between the server and the kernel, whatever happened.
use Rattle.std.specs.Prelude.{◌≡◌, ◌≢◌, ◌≤◌, ◌+◌, ℕ, List, ◌∷◌, Some, None, All, nat_eq, count_by}
use Rattle.fuse_spec.specs.declared.ReplyResult.{ReplyResult}
use Rattle.fuse_spec.specs.Values.Maps.{Map, get}
use Rattle.fuse_spec.specs.Server.Server.{Kept, Copy}
use Rattle.fuse_spec.specs.Kernel.Queues.{request_under}
use Rattle.fuse_spec.specs.World.Worlds.{World, Sent}

-- The server knows the copy under its number, as it was sent.
pub record IsKnownCopy (copies : Map Copy) (sent : Sent) : Type 0 where
  pub copy : Copy
  pub there : get copies sent.number ≡ Some copy
  pub same_unique : copy.unique ≡ sent.unique
  pub same_wire : copy.wire ≡ sent.wire

-- The server knows each copy on the reply link, and each whose result is on its way back. A number stands once on the
-- two links.
pub record CopiesSound (w : World) : Type 0 where
  pub sent : All (IsKnownCopy w.server.copies) w.replies
  pub results : All (λ (r : ReplyResult). get w.server.copies r.number ≢ None) w.results
  pub once : (number : ℕ) → count_by (λ (s : Sent). nat_eq number s.number) w.replies + count_by
      (λ (r : ReplyResult). nat_eq number r.number) w.results ≤ 1

-- Some element has the property.
pub data SomeHas {X : Type 0} (P : X → Type 0) : List X → Type 0 where
  here : (x : X) (xs : List X) → P x → SomeHas P (x ∷ xs)
  there : (x : X) (xs : List X) → SomeHas P xs → SomeHas P (x ∷ xs)

-- A kept reply whose request is unanswered has a copy on the link.
abbrev pub KeptAreSent : World → Type 0
KeptAreSent w = (unique : ℕ) (k : Kept) → get w.server.kept unique ≡ Some k
    → request_under w.kernel.queues unique ≢ None → SomeHas
    (λ (s : Sent). (s.unique ≡ unique) × (s.wire ≡ k.wire)) w.replies
