-- The queues of a kernel's requests, as contracts and theorems see them.
use Rattle.std.specs.Prelude.{ℕ, ◌≤◌, ◌%◌, Bool, true, false, not, if◌then◌else◌, ◌&&◌, List, [], filter, count_by, Option, option_map, nat_eq, nat_lt, nat_le}
use Rattle.std.specs.Map.{lookup}
use Rattle.std.specs.Option.{option_map_or}
use Rattle.fuse_spec.specs.Kernel.Uniques.{first_number, IsNextNumber}
use Rattle.fuse_spec.specs.declared.Mark.{Mark}
use Rattle.fuse_spec.specs.declared.Mark.TheVariants.{Unread, Flagged, Read, Interrupted}
use Rattle.fuse_spec.specs.declared.QueuedRequest.{QueuedRequest}

-- The requests in order of queuing, each under its number: those unread are pending, those read are in processing, and
-- to read one changes its mark alone; `W` is what the kernel keeps of a request. (fuse.rst)
pub record QueueState (W : Type 0) : Type 0 where
  pub requests : List (ℕ × QueuedRequest W)
  -- the numbers of the requests whose INTERRUPT is queued, the oldest first
  pub interrupts : List ℕ
  -- nodes and how many lookups of each to forget, the oldest first
  pub forgets : List (ℕ × ℕ)
  -- the coming number
  pub next : ℕ
  -- whether an INTERRUPT of this mount was answered ENOSYS
  pub interrupts_off : Bool

-- The queues of a new mount: no request, no INTERRUPT, no forget, and the first number coming.
abbrev pub empty_queues : {W : Type 0} → QueueState W
empty_queues = record { requests = []; interrupts = []; forgets = []; next = first_number; interrupts_off = false }

-- Whether a request is unread: it is until it is read, flagged or not. (fuse.rst)
abbrev pub is_unread : Mark → Bool
is_unread Unread = true
is_unread Flagged = true
is_unread Read = false
is_unread Interrupted = false

-- Whether the INTERRUPT of a request was queued, or would have been but for an ENOSYS before. (fuse.rst)
abbrev pub has_interrupt : Mark → Bool
has_interrupt Unread = false
has_interrupt Flagged = false
has_interrupt Read = false
has_interrupt Interrupted = true

-- Whether a request has a signal to its call: it is flagged, or its INTERRUPT was due. (fuse.rst)
abbrev pub is_signalled : Mark → Bool
is_signalled Unread = false
is_signalled Flagged = true
is_signalled Read = false
is_signalled Interrupted = true

-- The pending requests, in order of queuing. (fuse.rst)
abbrev pub pending : {W : Type 0} → QueueState W → List (ℕ × QueuedRequest W)
pending s = filter (λ e. is_unread e.1.mark) s.requests

-- The requests in processing, read and unanswered, in order of queuing. (fuse.rst)
abbrev pub processing : {W : Type 0} → QueueState W → List (ℕ × QueuedRequest W)
processing s = filter (λ e. not (is_unread e.1.mark)) s.requests

-- The request under a number, if there is one. (linux/fuse.h, struct fuse_in_header)
abbrev pub request_under : {W : Type 0} → QueueState W → ℕ → Option (QueuedRequest W)
request_under s unique = lookup (nat_eq unique) s.requests

-- The mark of the request under a number, if there is one. (fuse.rst)
abbrev pub mark_under : {W : Type 0} → QueueState W → ℕ → Option Mark
mark_under s unique = option_map (λ r. r.mark) (request_under s unique)

-- Whether the request under a number was read, is unanswered, and has a signal, so that its INTERRUPT was due.
-- (fuse.rst)
abbrev pub is_interrupted : {W : Type 0} → QueueState W → ℕ → Bool
is_interrupted s unique = option_map_or has_interrupt (mark_under s unique) false

-- Whether a number was allocated where `next` is the coming one.
abbrev pub was_allocated : ℕ → ℕ → Bool
was_allocated next unique = nat_le first_number unique && (nat_lt unique next && nat_eq (unique % 2) 0)

-- What is true of the queues after each call.
pub record IsSound {W : Type 0} (s : QueueState W) : Type 0 where
  pub next : IsNextNumber s.next
  -- a number that was allocated has one request at most, and no other number has one
  pub requests : (u : ℕ) → count_by (λ e. nat_eq u e.0) s.requests ≤ (if was_allocated s.next u then 1 else 0)
  -- a number stands on the list of INTERRUPTs once at most, and only while its request is read, interrupted and
  -- unanswered
  pub interrupts : (u : ℕ) → count_by (nat_eq u) s.interrupts ≤ (if is_interrupted s u then 1 else 0)
