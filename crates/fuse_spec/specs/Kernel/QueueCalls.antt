-- What each call on the queues gives, and what it makes of them.
use Rattle.std.specs.Prelude.{ℕ, ◌+◌, Bool, true, not, if◌then◌else◌, ◌&&◌, nat_lt, nat_le, List, [], ◌∷◌, ◌++◌, length, take, drop, filter, slice_get, Option, None, Some, nat_eq, is_some, option_map}
use Rattle.std.specs.List.{list_any}
use Rattle.std.specs.Option.{option_map_or}
use Rattle.std.specs.Map.{remove_entry}
use Rattle.fuse_spec.specs.Values.Numbers.{max_forgets}
use Rattle.fuse_spec.specs.Kernel.Queues.{QueueState, is_unread, pending, request_under, mark_under}
use Rattle.fuse_spec.specs.Kernel.Signals.{signal_effect, reply_effect}
use Rattle.fuse_spec.specs.declared.Mark.{Mark}
use Rattle.fuse_spec.specs.declared.Mark.TheVariants.{Unread, Flagged, Read, Interrupted}
use Rattle.fuse_spec.specs.declared.QueuedRequest.{QueuedRequest}
use Rattle.fuse_spec.specs.declared.IntrEffect.{IntrEffect}
use Rattle.fuse_spec.specs.declared.IntrEffect.TheVariants.{Dequeued, Flagged as IsFlagged, Queued, None as NoEffect}
use Rattle.fuse_spec.specs.declared.InterruptReply.{InterruptReply}
use Rattle.fuse_spec.specs.declared.InterruptReplyEffect.{InterruptReplyEffect}
use Rattle.fuse_spec.specs.declared.InterruptReplyEffect.TheVariants.{QueuedAgain, TurnedOff, None as NoReplyEffect}

module _ {W : Type 0} where
  -- queuing

  -- A request goes last among the pending ones, under the coming number. (fuse.rst)
  abbrev pub after_enqueue : QueueState W → W → QueueState W
  after_enqueue s kept = record s {
    requests = s.requests ++ (s.next, record { mark = Unread; kept = kept }) ∷ [];
    next = s.next + 2;
  }

  -- A forget goes last on the list of forgets. (libfuse, low-level: forget)
  abbrev pub after_forget : QueueState W → ℕ → ℕ → QueueState W
  after_forget s node count = record s { forgets = s.forgets ++ (node, count) ∷ [] }

  -- reading a request

  -- The request at a place among the pending ones, under its number; any of them may be read. (this project's rule)
  abbrev pub pending_at : QueueState W → ℕ → Option (ℕ × W)
  pending_at s place = option_map (λ e. (e.0, e.1.kept)) (slice_get (pending s) place)

  -- The requests, where that under a number has this mark.
  abbrev pub set_mark : ℕ → List (ℕ × QueuedRequest W) → Mark → List (ℕ × QueuedRequest W)
  set_mark unique [] mark = []
  set_mark unique (e ∷ es) mark = if nat_eq unique e.0 then
      (e.0, record { mark = mark; kept = e.1.kept }) ∷ es else e ∷ set_mark unique es mark

  -- The request under a number gets this mark. (fuse.rst)
  abbrev pub with_mark : QueueState W → ℕ → Mark → QueueState W
  with_mark s unique mark = record s { requests = set_mark unique s.requests mark }

  -- The INTERRUPT of a request goes last on its list, unless none is queued any more. (fuse.rst)
  abbrev pub with_interrupt : QueueState W → ℕ → QueueState W
  with_interrupt s unique = record s {
    interrupts = if s.interrupts_off then s.interrupts else s.interrupts
        ++ unique ∷ [];
  }

  -- A pending request is in processing once it is read, and the INTERRUPT of a flagged one is queued, unless none is
  -- queued any more. (fuse.rst)
  abbrev pub after_reading : QueueState W → ℕ → Mark → QueueState W
  after_reading s unique Unread = with_mark s unique Read
  after_reading s unique Flagged = with_interrupt (with_mark s unique Interrupted) unique
  after_reading s unique Read = s
  after_reading s unique Interrupted = s

  -- The queues once the pending request at this place is read; where there is none, as they were. (fuse.rst)
  abbrev pub after_read_pending : QueueState W → ℕ → QueueState W
  after_read_pending s place = option_map_or (λ e. after_reading s e.0 e.1.mark) (slice_get (pending s) place) s

  -- reading INTERRUPTs and forgets

  -- The queues once the oldest INTERRUPT is read: it leaves its list. (fuse.rst)
  abbrev pub after_read_interrupt : QueueState W → QueueState W
  after_read_interrupt s = record s { interrupts = drop 1 s.interrupts }

  -- Whether this many forgets can be read as one frame: it has room for 1 to `max_forgets`, and as many have to be
  -- queued. (this project's rule)
  abbrev pub can_read_forgets : QueueState W → ℕ → Bool
  can_read_forgets s count = nat_lt 0 count && (nat_le count max_forgets && nat_le count (length s.forgets))

  -- The number that the frame of this many forgets allocates as it is read, and these forgets, the oldest first. (this
  -- project's rule)
  abbrev pub first_forgets : QueueState W → ℕ → Option (ℕ × List (ℕ × ℕ))
  first_forgets s count = if can_read_forgets s count then Some (s.next, take count s.forgets) else None

  -- The queues once this many forgets are read as one frame, which allocates a number.
  abbrev pub after_read_forgets : QueueState W → ℕ → QueueState W
  after_read_forgets s count = if can_read_forgets s count then record s {
    forgets = drop count s.forgets;
    next = s.next + 2;
  } else s

  -- ending a request

  -- The request under a number is gone, and its INTERRUPT with it. (fuse.rst)
  abbrev pub without : QueueState W → ℕ → QueueState W
  without s unique = record s {
    requests = remove_entry (nat_eq unique) s.requests;
    interrupts = filter (λ i. not (nat_eq unique i)) s.interrupts;
  }

  -- What an answer under a number ends: a request that was read and is unanswered. (fuse.rst)
  abbrev pub waiting : QueueState W → ℕ → Option W
  waiting s unique = option_map_or (λ r. if is_unread r.mark then None else Some r.kept) (request_under s unique) None

  -- The queues once the request under a number is answered; an unread one stays. (fuse.rst)
  abbrev pub after_answer : QueueState W → ℕ → QueueState W
  after_answer s unique = if is_some (waiting s unique) then without s unique else s

  -- signals

  -- The effect of a signal on the request under a number; where there is none, nothing. (fuse.rst)
  abbrev pub interrupt_effect : QueueState W → ℕ → Bool → IntrEffect
  interrupt_effect s unique fatal = option_map_or (λ r. signal_effect r.mark fatal s.interrupts_off)
      (request_under s unique) NoEffect

  -- An unread request is gone; it has no INTERRUPT queued. (fuse.rst)
  abbrev pub after_dequeue : QueueState W → ℕ → QueueState W
  after_dequeue s unique = record s { requests = remove_entry (nat_eq unique) s.requests }

  -- What each effect of a signal makes of the queues. (fuse.rst)
  abbrev pub after_effect : QueueState W → ℕ → IntrEffect → QueueState W
  after_effect s unique Dequeued = after_dequeue s unique
  after_effect s unique IsFlagged = with_mark s unique Flagged
  after_effect s unique Queued = with_interrupt (with_mark s unique Interrupted) unique
  after_effect s unique NoEffect = s

  -- The queues after a signal to the request under a number. (fuse.rst)
  abbrev pub after_interrupt : QueueState W → ℕ → Bool → QueueState W
  after_interrupt s unique fatal = after_effect s unique (interrupt_effect s unique fatal)

  -- replies to an INTERRUPT

  -- ENOSYS to an INTERRUPT: the list of INTERRUPTs is emptied, and none is queued again in this mount. (this project's
  -- rule)
  abbrev pub after_no_interrupts : QueueState W → QueueState W
  after_no_interrupts s = record s { interrupts = []; interrupts_off = true }

  -- What each effect of a reply to an INTERRUPT makes of the queues. (fuse.rst)
  abbrev pub after_reply_effect : QueueState W → ℕ → InterruptReplyEffect → QueueState W
  after_reply_effect s unique QueuedAgain = with_interrupt s unique
  after_reply_effect s unique TurnedOff = after_no_interrupts s
  after_reply_effect s unique NoReplyEffect = s

  -- The queues after a reply to the INTERRUPT of the request under a number; where no request is left under it, as they
  -- were. (fuse.rst)
  abbrev pub after_interrupt_reply : QueueState W → ℕ → InterruptReply → QueueState W
  after_interrupt_reply s unique reply = option_map_or
      (λ mark. after_reply_effect s unique (reply_effect reply mark
      (list_any (nat_eq unique) s.interrupts) s.interrupts_off)) (mark_under s unique) s
