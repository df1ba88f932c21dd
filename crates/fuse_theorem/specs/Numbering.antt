-- What every world keeps of its numbers: which were allocated, and which request serves which call.
use Rattle.std.specs.Prelude.{◌≡◌, ◌≤◌, ◌<◌, ℕ, true, false, cond, Some, None, All, count_by, is_some}
use Rattle.fuse_spec.specs.declared.Purpose.{Purpose}
use Rattle.fuse_spec.specs.declared.QueuedRequest.{QueuedRequest}
use Rattle.fuse_spec.specs.Values.Maps.{get}
use Rattle.fuse_spec.specs.Kernel.Queues.{QueueState, IsSound, empty_queues}
use Rattle.fuse_spec.specs.Kernel.Messages.{Request}
use Rattle.fuse_spec.specs.Kernel.Kernel.{is_live, is_for}
use Rattle.fuse_spec.specs.Server.Server.{HeldRequest, Kept}
use Rattle.fuse_spec.specs.World.Worlds.{World, Sent}

-- how many requests serve a call
abbrev pub requests_for : ℕ → QueueState Purpose → ℕ
requests_for call s = count_by (λ (e : ℕ × QueuedRequest Purpose). is_for call e.1.kept) s.requests

-- No call of the next number or a later one is unanswered; an unanswered call has one request at most, and an answered
-- one none. What is on the links, held or kept has a number that this mount has allocated.
pub record IsNumbered (w : World) : Type 0 where
  pub queues : IsSound w.kernel.queues
  pub calls_below : (call : ℕ) → w.kernel.vfs.next_call ≤ call → get w.kernel.vfs.calls call ≡ None
  pub one_request : (call : ℕ) → requests_for call w.kernel.queues ≤ cond (is_some (get w.kernel.vfs.calls call)) 1 0
  pub sent_below : All (λ (r : Request). r.unique < w.kernel.queues.next) w.requests
  pub replies_below : All (λ (sent : Sent). sent.unique < w.kernel.queues.next) w.replies
  pub held_below : is_live w.kernel.phase ≡ true → (unique : ℕ) (t : HeldRequest) → get w.server.held unique ≡ Some t
      → unique < w.kernel.queues.next
  pub kept_below : is_live w.kernel.phase ≡ true → (unique : ℕ) (k : Kept) → get w.server.kept unique ≡ Some k
      → unique < w.kernel.queues.next

-- The numbers are in order while the mount is live, and else no request is unanswered. More cannot be kept then: after
-- an abort the server holds what it held under the numbers of the mount that ended, and where INIT is not agreed on,
-- the links stay full, until the next mount empties all.
pub record IsNumberedWhileLive (w : World) : Type 0 where
  pub live : is_live w.kernel.phase ≡ true → IsNumbered w
  pub idle : is_live w.kernel.phase ≡ false → w.kernel.queues ≡ empty_queues

-- No two nodes denote the same file, and no node denotes two.
abbrev pub IsOneToOne : (ℕ → ℕ → Type 0) → Type 0
IsOneToOne R = (a b c d : ℕ) → R a c → R b d → (a ≡ b → c ≡ d) × (c ≡ d → a ≡ b)
