-- What is true of the requests that were read and are not performed, while their mount is live.
use Rattle.std.specs.Prelude.{◌≡◌, ◌≢◌, ◌<◌, ◌≤◌, ◌%◌, ℕ, Bool, true, false, Some, All}
use Rattle.fuse_spec.specs.declared.Purpose.{Purpose}
use Rattle.fuse_spec.specs.declared.Purpose.TheVariants as purpose
use Rattle.fuse_spec.specs.declared.QueuedRequest.{QueuedRequest}
use Rattle.fuse_spec.specs.Values.Maps.{get}
use Rattle.fuse_spec.specs.Kernel.Queues.{QueueState, request_under, is_unread, has_interrupt, is_signalled}
use Rattle.fuse_spec.specs.Kernel.Messages.{RequestBody, Request, init, asks, release, forget, batch_forget, interrupt}
use Rattle.fuse_spec.specs.Kernel.Kernel.{Kernel, is_live, body_of}
use Rattle.fuse_spec.specs.Server.Server.{HeldRequest}
use Rattle.fuse_spec.specs.World.Worlds.{World}

-- The kernel's request under this number was read and is unanswered, and asks this.
pub record IsAsked (k : Kernel) (unique : ℕ) (body : RequestBody) : Type 0 where
  pub request : QueuedRequest Purpose
  pub under : request_under k.queues unique ≡ Some request
  pub read : is_unread request.mark ≡ false
  pub asks : body_of k request.kept ≡ Some body

-- Whether a request serves a call.
abbrev pub serves_call : Purpose → Bool
serves_call purpose.Init = false
serves_call (purpose.Release o) = false
serves_call (purpose.Call call) = true

-- The number was allocated, and as long as its request is unanswered, it serves a call and its INTERRUPT was queued.
pub record IsInterrupted (k : Kernel) (unique : ℕ) : Type 0 where
  pub even : unique % 2 ≡ 0
  pub allocated : unique < k.queues.next
  pub marked : (request : QueuedRequest Purpose) → request_under k.queues unique ≡ Some request
      → has_interrupt request.mark ≡ true
  pub of_call : (request : QueuedRequest Purpose) → request_under k.queues unique ≡ Some request
      → serves_call request.kept ≡ true

-- A request on the link is its kernel's. A FORGET has no reply, so none awaits it; an INTERRUPT is one of a request
-- that was interrupted.
abbrev pub SentAsked : Kernel → ℕ → RequestBody → Type 0
SentAsked k unique (init flags) = IsAsked k unique (init flags)
SentAsked k unique (asks operation) = IsAsked k unique (asks operation)
SentAsked k unique (release o) = IsAsked k unique (release o)
SentAsked k unique (forget f) = Unit {0}
SentAsked k unique (batch_forget fs) = Unit {0}
SentAsked k unique (interrupt original) = IsInterrupted k original

-- A held request is its kernel's, and a marked one was interrupted.
pub record HeldAsked (k : Kernel) (unique : ℕ) (t : HeldRequest) : Type 0 where
  pub is_asked : IsAsked k unique t.body
  pub interrupted : t.marked ≡ true → IsInterrupted k unique

-- Only requests of calls have signals.
abbrev pub SignalsReachCalls : QueueState Purpose → Type 0
SignalsReachCalls q = All (λ (e : ℕ × QueuedRequest Purpose). is_signalled e.1.mark ≡ true
    → serves_call e.1.kept ≡ true) q.requests

-- INIT has the first number of a mount, and nothing else does.
abbrev pub BearsFirst : ℕ → Purpose → Type 0
BearsFirst unique purpose.Init = unique ≡ 2
BearsFirst unique (purpose.Release o) = unique ≢ 2
BearsFirst unique (purpose.Call call) = unique ≢ 2

pub record InitIsFirst (q : QueueState Purpose) : Type 0 where
  pub next : 4 ≤ q.next
  pub entries : All (λ (e : ℕ × QueuedRequest Purpose). BearsFirst e.0 e.1.kept) q.requests

-- What is on the link or held is what the kernel asks.
pub record RequestsAsked (w : World) : Type 0 where
  pub sent : All (λ (r : Request). SentAsked w.kernel r.unique r.body) w.requests
  pub held : (unique : ℕ) (t : HeldRequest) → get w.server.held unique ≡ Some t → HeldAsked w.kernel unique t
  pub signals : SignalsReachCalls w.kernel.queues
  pub first : InitIsFirst w.kernel.queues

-- So it is while the mount is live. After an abort the server holds requests of which the kernel knows no more.
abbrev pub RequestsAskedWhileLive : World → Type 0
RequestsAskedWhileLive w = is_live w.kernel.phase ≡ true → RequestsAsked w
