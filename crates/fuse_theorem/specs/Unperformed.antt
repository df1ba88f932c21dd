-- What is true of the requests that are not performed, whatever happened.
use Rattle.std.specs.Prelude.{◌≡◌, ◌≢◌, ◌≤◌, ◌+◌, ◌%◌, ℕ, None, All, cond, count_by, is_some, nat_eq}
use Rattle.fuse_spec.specs.declared.Purpose.{Purpose}
use Rattle.fuse_spec.specs.declared.QueuedRequest.{QueuedRequest}
use Rattle.fuse_spec.specs.Kernel.Queues.{pending}
use Rattle.fuse_spec.specs.Values.Maps.{get}
use Rattle.fuse_spec.specs.Kernel.Messages.{Request, RequestBody, init, asks, release, forget, batch_forget, interrupt}
use Rattle.fuse_spec.specs.Kernel.Uniques.{interrupt_number}
use Rattle.fuse_spec.specs.World.Worlds.{World, Sent}

-- How often a request that is not performed stands under a number: pending, on the link, or held.
abbrev pub unperformed : World → ℕ → ℕ
unperformed w unique =
    count_by (λ (e : ℕ × QueuedRequest Purpose). nat_eq unique e.0) (pending w.kernel.queues) + count_by
    (λ (r : Request). nat_eq unique r.unique) w.requests + cond (is_some (get w.server.held unique)) 1 0

-- Under an even number one request at most is pending, on the link or held. INTERRUPTs, which have odd numbers, may be
-- queued anew.
abbrev pub StandsOnce : World → Type 0
StandsOnce w = (unique : ℕ) → unique % 2 ≡ 0 → unperformed w unique ≤ 1

-- An INTERRUPT has its original's number with the lowest bit set, and any other request an even number.
abbrev pub BearsNumber : ℕ → RequestBody → Type 0
BearsNumber unique (interrupt original) = unique ≡ interrupt_number original
BearsNumber unique (init flags) = unique % 2 ≡ 0
BearsNumber unique (asks operation) = unique % 2 ≡ 0
BearsNumber unique (release o) = unique % 2 ≡ 0
BearsNumber unique (forget f) = unique % 2 ≡ 0
BearsNumber unique (batch_forget fs) = unique % 2 ≡ 0

-- No reply under this number is on the link, and none is kept.
pub record IsUnanswered (w : World) (unique : ℕ) : Type 0 where
  pub copies : All (λ (s : Sent). s.unique ≢ unique) w.replies
  pub kept : get w.server.kept unique ≡ None

-- A request that is not performed stands once and has no reply.
pub record RequestsSound (w : World) : Type 0 where
  pub once : StandsOnce w
  pub numbers : All (λ (r : Request). BearsNumber r.unique r.body) w.requests
  pub unanswered : (unique : ℕ) → unique % 2 ≡ 0 → 1 ≤ unperformed w unique → IsUnanswered w unique
