-- The queues and the kernel once a pending request is read.
use Rattle.std.proofs.Common.{◌≡◌, ℕ, Bool, true, false, true≢false, cond, List, [], ◌∷◌, ◌++◌, Option, Some, slice_get, ap, sym, ◌∙◌}
use Rattle.std.specs.Option.{option_map_or}
use Rattle.fuse_spec.specs.declared.Mark.{Mark}
use Rattle.fuse_spec.specs.declared.Mark.TheVariants.{Unread, Flagged, Read, Interrupted}
use Rattle.fuse_spec.specs.declared.Purpose.{Purpose}
use Rattle.fuse_spec.specs.declared.QueuedRequest.{QueuedRequest}
use Rattle.fuse_spec.specs.Kernel.QueueCalls.{after_read_pending, after_reading, set_mark}
use Rattle.fuse_spec.specs.Kernel.QueueLaws.{mark_read}
use Rattle.fuse_spec.specs.Kernel.Queues.{QueueState, is_unread, pending}

-- the INTERRUPTs once the request under this number is read, where none was queued
abbrev pub queued_by : Mark → Bool → ℕ → List ℕ
queued_by Flagged off unique = cond off [] (unique ∷ [])
queued_by mark off unique = []

-- the queues once an entry is read
abbrev pub queues_read : QueueState Purpose → ℕ × QueuedRequest Purpose → QueueState Purpose
queues_read q e =
    record q {
      requests = set_mark e.0 q.requests (mark_read e.1.mark);
      interrupts = queued_by e.1.mark q.interrupts_off e.0;
    }

read_is : (q : QueueState Purpose) (unique : ℕ) (mark : Mark) (kept : Purpose) → q.interrupts ≡ []
    → is_unread mark ≡ true
    → after_reading q unique mark ≡ queues_read q (unique, record { mark = mark; kept = kept })
read_is q unique Unread kept free unread = ap
    (λ (is : List ℕ). record q { requests = set_mark unique q.requests Read; interrupts = is }) free
read_is q unique Flagged kept free unread = by q.interrupts_off
  where
    by : (off : Bool) → record q {
      requests = set_mark unique q.requests Interrupted;
      interrupts = cond off q.interrupts (q.interrupts ++ unique ∷ []);
    } ≡ record q {
      requests = set_mark unique q.requests Interrupted;
      interrupts = cond off [] (unique ∷ []);
    }
    by true = ap (λ (is : List ℕ). record q { requests = set_mark unique q.requests Interrupted; interrupts = is }) free
    by false = ap
        (λ (is : List ℕ). record q {
          requests = set_mark unique q.requests Interrupted;
          interrupts = is ++ unique ∷ [];
        }) free
read_is q unique Read kept free unread = absurd (true≢false (sym unread))
read_is q unique Interrupted kept free unread = absurd (true≢false (sym unread))

-- The queues once the pending request at a place is read, where no INTERRUPT was queued.
pub reading_is : (q : QueueState Purpose) (place : ℕ) (e : ℕ × QueuedRequest Purpose) → q.interrupts ≡ []
    → slice_get (pending q) place ≡ Some e → is_unread e.1.mark ≡ true
    → after_read_pending q place ≡ queues_read q e
reading_is q place e free at unread = ap
    (λ (o : Option (ℕ × QueuedRequest Purpose)). option_map_or (λ (d : ℕ × QueuedRequest Purpose). after_reading q d.0 d.1.mark) o q)
    at ∙ read_is q e.0 e.1.mark e.1.kept free unread
