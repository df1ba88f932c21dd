-- A number that was allocated and under which no request waits has none again, whatever becomes of the kernel but a
-- mount.
use Rattle.std.proofs.Common.{◌≡◌, ℕ, ◌-◌, ◌≤◌, ◌<◌, Bool, true, false, cond, List, [], ◌∷◌, ◌++◌, Option, Some, None, nat_eq, slice_get, option_map, find, refl, ap, sym, subst, ◌∙◌, arith}
use Rattle.std.specs.Prelude.{◌%◌, nat_lt}
use Rattle.std.specs.List.{list_any}
use Rattle.std.specs.Map.{lookup, remove_entry}
use Rattle.std.specs.Option.{option_map_or}
use Rattle.std.proofs.lemmas.Bool.Decides.{nat_tests}
use Rattle.fuse_spec.specs.declared.InterruptReply.{InterruptReply}
use Rattle.fuse_spec.specs.declared.InterruptReplyEffect.{InterruptReplyEffect}
use Rattle.fuse_spec.specs.declared.InterruptReplyEffect.TheVariants.{QueuedAgain, TurnedOff, None as NoReplyEffect}
use Rattle.fuse_spec.specs.declared.IntrEffect.{IntrEffect}
use Rattle.fuse_spec.specs.declared.Mark.{Mark}
use Rattle.fuse_spec.specs.declared.Mark.TheVariants as mark
use Rattle.fuse_spec.specs.declared.Opened.{Opened}
use Rattle.fuse_spec.specs.declared.Purpose.{Purpose}
use Rattle.fuse_spec.specs.declared.Purpose.TheVariants as purpose
use Rattle.fuse_spec.specs.declared.QueuedRequest.{QueuedRequest}
use Rattle.fuse_spec.specs.Calls.Calls.{Call}
use Rattle.fuse_spec.specs.Calls.Vfs.{CallState, begun}
use Rattle.fuse_spec.specs.Files.Operations.{done, failed}
use Rattle.fuse_spec.specs.Kernel.Kernel.{Kernel, is_aborted, is_for, kernel_aborted, advanced, closed_by, closing_of, call_begun, call_signalled, signalled_at}
use Rattle.fuse_spec.specs.Kernel.Messages.{WireReply}
use Rattle.fuse_spec.specs.Kernel.QueueCalls.{after_interrupt_reply, after_read_pending, after_reading, after_reply_effect, set_mark, waiting, without}
use Rattle.fuse_spec.specs.Kernel.Queues.{QueueState, mark_under, pending, request_under}
use Rattle.fuse_spec.specs.Kernel.Replies.{ended_by, interrupt_replied, interrupt_reply_of, interrupt_reply_written, is_agreement, made_ready, replied_to_call, reply_written, request_reply_written}
use Rattle.fuse_spec.specs.Kernel.Signals.{reply_effect}
use Rattle.fuse_spec.specs.Values.Maps.{get}
use Rattle.fuse_theorem.proofs.Calls.CallsContinue.{begun_goes_on}
use Rattle.fuse_theorem.proofs.Requests.QueueMoves.{MovesBy, stays, queues, ends, marks, moves_on, begun_reads_none, signalled_reads_none, replied_reads_none}
use Rattle.fk_drive_theorem.proofs.Stable.{Stable, same_truth, is_nothing, is_empty}

-- ---- requests under a number

abbrev Requests : Type 0
Requests = List (ℕ × QueuedRequest Purpose)

none_pushed : (u : ℕ) (es : Requests) (e : ℕ × QueuedRequest Purpose) → nat_eq u e.0 ≡ false
    → lookup (nat_eq u) es ≡ None → lookup (nat_eq u) (es ++ e ∷ []) ≡ None
none_pushed u [] e apart none = ap (λ (b : Bool). cond b (Some e.1) None) apart
none_pushed u (x ∷ es) e apart none = by (nat_eq u x.0) none (none_pushed u es e apart)
  where
    by : (b : Bool) → cond b (Some x.1) (lookup (nat_eq u) es) ≡ None
        → (lookup (nat_eq u) es ≡ None → lookup (nat_eq u) (es ++ e ∷ []) ≡ None)
        → cond b (Some x.1) (lookup (nat_eq u) (es ++ e ∷ [])) ≡ None
    by true n rest = cc n
    by false n rest = rest n

none_removed : (u : ℕ) (test : ℕ → Bool) (es : Requests) → lookup (nat_eq u) es ≡ None
    → lookup (nat_eq u) (remove_entry test es) ≡ None
none_removed u test [] none = refl
none_removed u test (x ∷ es) none = by (nat_eq u x.0) (test x.0) refl none (none_removed u test es)
  where
    by : (b t : Bool) → nat_eq u x.0 ≡ b → cond b (Some x.1) (lookup (nat_eq u) es) ≡ None
        → (lookup (nat_eq u) es ≡ None → lookup (nat_eq u) (remove_entry test es) ≡ None)
        → lookup (nat_eq u) (cond t es (x ∷ remove_entry test es)) ≡ None
    by true t is n rest = cc n
    by false true is n rest = n
    by false false is n rest = ap (λ (b : Bool). cond b (Some x.1) (lookup (nat_eq u) (remove_entry test es))) is
        ∙ rest n

none_marked : (u v : ℕ) (m : Mark) (es : Requests) → lookup (nat_eq u) es ≡ None
    → lookup (nat_eq u) (set_mark v es m) ≡ None
none_marked u v m [] none = refl
none_marked u v m (x ∷ es) none = by (nat_eq u x.0) (nat_eq v x.0) refl none (none_marked u v m es)
  where
    by : (b t : Bool) → nat_eq u x.0 ≡ b → cond b (Some x.1) (lookup (nat_eq u) es) ≡ None
        → (lookup (nat_eq u) es ≡ None → lookup (nat_eq u) (set_mark v es m) ≡ None)
        → lookup (nat_eq u) (cond t ((x.0, record { mark = m; kept = x.1.kept }) ∷ es) (x ∷ set_mark v es m)) ≡ None
    by true t is n rest = cc n
    by false true is n rest =
        ap (λ (b : Bool). cond b (Some (record { mark = m; kept = x.1.kept })) (lookup (nat_eq u) es)) is ∙ n
    by false false is n rest = ap (λ (b : Bool). cond b (Some x.1) (lookup (nat_eq u) (set_mark v es m))) is ∙ rest n

-- ---- the number is gone

-- No request waits under the number, which is not to be allocated: it was, or the mount is aborted.
pub record Gone (u : ℕ) (k : Kernel) : Type 0 where
  pub none : request_under k.queues u ≡ None
  pub allocated : k.queues.next ≤ u → (is_aborted k.phase ≡ true) × (k.queues.requests ≡ [])

pub gone_stable : (u : ℕ) (k : Kernel) → Stable (Gone u k)
gone_stable u k s = record {
  none = is_nothing (request_under k.queues u) (λ no. s (λ gone. no gone.none));
  allocated = λ le. (
    same_truth (is_aborted k.phase) true (λ no. s (λ gone. no (gone.allocated le).0)),
    is_empty k.queues.requests (λ no. s (λ gone. no (gone.allocated le).1)),
  );
}

-- It was allocated and is gone.
abbrev pub Left : ℕ → QueueState Purpose → Type 0
Left u q = (u < q.next) × (request_under q u ≡ None)

moves_left : (May : Mark → Mark → Type 0) (u : ℕ) (q r : QueueState Purpose) → MovesBy May q r → Left u q → Left u r
moves_left May u q r (stays a b same next) left =
    (subst (λ (n : ℕ). u < n) (sym next) left.0, ap (λ (es : Requests). lookup (nat_eq u) es) same ∙ left.1)
moves_left May u q r (queues a kept) left =
    let low = left.0 in
    let apart : nat_eq u q.next ≡ false = grind (arith, nat_tests, low) in
    (omega (arith, low), none_pushed u q.requests _ apart left.1)
moves_left May u q r (ends a b v same next) left = (
  subst (λ (n : ℕ). u < n) (sym next) left.0,
  ap (λ (es : Requests). lookup (nat_eq u) es) same ∙ none_removed u (nat_eq v) q.requests left.1,
)
moves_left May u q r (marks a b v old m found may same next) left = (
  subst (λ (n : ℕ). u < n) (sym next) left.0,
  ap (λ (es : Requests). lookup (nat_eq u) es) same ∙ none_marked u v m q.requests left.1,
)
moves_left May u q r (moves_on a b c first rest) left =
    moves_left May u b r rest (moves_left May u q b first left)

-- Without requests nothing is taken.
pub none_taken : (k : Kernel) (unique : ℕ) (wire : WireReply) → k.queues.requests ≡ []
    → (reply_written k unique wire).1 ≡ k
none_taken k unique wire empty = by (nat_eq (unique % 2) 1)
  where
    none : (v : ℕ) → waiting k.queues v ≡ None
    none v = ap (λ (es : Requests). waiting (record k.queues { requests = es }) v) empty

    by : (b : Bool) → (cond b (interrupt_reply_written k unique wire (waiting k.queues (unique - 1)))
        (request_reply_written k unique wire (waiting k.queues unique))).1 ≡ k
    by true = ap (λ (w : Option Purpose). (interrupt_reply_written k unique wire w).1) (none (unique - 1))
    by false = ap (λ (w : Option Purpose). (request_reply_written k unique wire w).1) (none unique)

-- A call that begins once the mount is aborted queues nothing.
pub begun_aborted : (k : Kernel) (call : Call) → is_aborted k.phase ≡ true → (call_begun k call).queues ≡ k.queues
begun_aborted k call aborted = ap (λ (b : Bool). (closing_of (advanced k k.vfs.next_call (begun b k.vfs call))
    (cond b None (closed_by k.vfs.opens call))).queues) aborted

module _ (u : ℕ) where
  -- a number that was allocated is gone
  pub left_gone : (k : Kernel) → Left u k.queues → Gone u k
  left_gone k left = let low = left.0 in record { none = left.1; allocated = λ le. absurd (omega (arith, low, le)) }

  -- the same requests, and no number given back
  pub same_gone : (k l : Kernel) → Gone u k → l.queues.requests ≡ k.queues.requests → k.queues.next ≤ l.queues.next
      → l.phase ≡ k.phase → Gone u l
  same_gone k l gone requests later phase = record {
    none = ap (λ (es : Requests). lookup (nat_eq u) es) requests ∙ gone.none;
    allocated = λ le.
        let was = gone.allocated (omega (arith, le, later)) in
        (ap is_aborted phase ∙ was.0, requests ∙ was.1);
  }

  -- By whether the number was allocated: it was, or the mount is aborted.
  by_allocated : (k : Kernel) → Gone u k → (P : Type 0) → (Left u k.queues → P)
      → (is_aborted k.phase ≡ true → k.queues.requests ≡ [] → P) → P
  by_allocated k gone P allocated aborted = by (nat_lt u k.queues.next) refl
    where
      by : (b : Bool) → nat_lt u k.queues.next ≡ b → P
      by true e = allocated (grind (arith, nat_tests, e), gone.none)
      by false e = let was = gone.allocated (grind (arith, nat_tests, e)) in aborted was.0 was.1

  -- An abort ends them all.
  pub aborted_gone : (k : Kernel) → Gone u (kernel_aborted k)
  aborted_gone k = record { none = refl; allocated = λ le. (refl, refl) }

  -- A call begins, which asks nothing once the mount is aborted.
  pub begun_gone : (k : Kernel) (call : Call) → Gone u k → Gone u (call_begun k call)
  begun_gone k call gone = by_allocated k gone (Gone u (call_begun k call))
      (λ left. left_gone (call_begun k call)
      (moves_left _ u k.queues (call_begun k call).queues (begun_reads_none k call) left))
      (λ aborted empty.
      let same = begun_aborted k call aborted in
      same_gone k (call_begun k call) gone (ap (λ (q : QueueState Purpose). q.requests) same)
      (begun_goes_on k call).rises (begun_goes_on k call).phase)

  -- A signal reaches a call.
  pub signalled_gone : (k : Kernel) (call : ℕ) (state : CallState Opened) (fatal : Bool) → Gone u k
      → Gone u (call_signalled k call state fatal).1
  signalled_gone k call state fatal gone = by_allocated k gone (Gone u (call_signalled k call state fatal).1)
      (λ left. left_gone (call_signalled k call state fatal).1
      (moves_left _ u k.queues (call_signalled k call state fatal).1.queues
      (signalled_reads_none k call state fatal) left))
      (λ aborted empty. subst (λ (r : IntrEffect × Kernel). Gone u r.1)
      (sym (ap (λ (es : Requests). signalled_at k call state fatal
      (option_map (λ e. e.0) (find (λ e. is_for call e.1.kept) es))) empty)) gone)

  -- ---- reads

  pub read_gone : (k : Kernel) (place : ℕ) → Gone u k
      → Gone u (record k { queues = after_read_pending k.queues place })
  read_gone k place gone = by (slice_get (pending k.queues) place)
    where
      marked : (v : ℕ) (m : Mark)
          → Gone u (record k { queues = record k.queues { requests = set_mark v k.queues.requests m } })
      marked v m = record {
        none = none_marked u v m k.queues.requests gone.none;
        allocated = λ le.
            let was = gone.allocated le in
            (was.0, ap (λ (es : Requests). set_mark v es m) was.1);
      }

      read_as : (v : ℕ) (m : Mark) → Gone u (record k { queues = after_reading k.queues v m })
      read_as v mark.Unread = marked v mark.Read
      read_as v mark.Flagged = let now = marked v mark.Interrupted in record { none = now.none; allocated = now.allocated }
      read_as v mark.Read = gone
      read_as v mark.Interrupted = gone

      by : (o : Option (ℕ × QueuedRequest Purpose))
          → Gone u (record k { queues = option_map_or (λ e. after_reading k.queues e.0 e.1.mark) o k.queues })
      by None = gone
      by (Some e) = read_as e.0 e.1.mark

  -- ---- replies

  module _ (k : Kernel) (unique : ℕ) (wire : WireReply) where
    reply_same : (original : ℕ) (reply : InterruptReply) → Gone u k
        → Gone u (record k { queues = after_interrupt_reply k.queues original reply })
    reply_same original reply gone = by (mark_under k.queues original)
      where
        effect : (x : InterruptReplyEffect) → Gone u (record k { queues = after_reply_effect k.queues original x })
        effect QueuedAgain = record { none = gone.none; allocated = gone.allocated }
        effect TurnedOff = record { none = gone.none; allocated = gone.allocated }
        effect NoReplyEffect = gone

        by : (o : Option Mark) → Gone u (record k {
          queues = option_map_or (λ m. after_reply_effect k.queues original
              (reply_effect reply m (list_any (nat_eq original) k.queues.interrupts) k.queues.interrupts_off)) o k.queues;
        })
        by None = gone
        by (Some m) = effect (reply_effect reply m (list_any (nat_eq original) k.queues.interrupts) k.queues.interrupts_off)

    interrupt_gone : (x : WireReply) → Gone u k → Gone u (interrupt_replied k (unique - 1) x).1
    interrupt_gone (failed errno) gone = reply_same (unique - 1) (interrupt_reply_of errno) gone
    interrupt_gone done gone = gone
    interrupt_gone x gone = gone

    -- A request ends, by its reply.
    pub ended_gone : (kept : Purpose) → Left u (without k.queues unique)
        → Gone u (ended_by (record k { queues = without k.queues unique }) kept wire).1
    ended_gone kept less = by kept
      where
        k1 : Kernel
        k1 = record k { queues = without k.queues unique }

        agreed_or : (b : Bool) → Gone u (cond b (made_ready k1 wire) (kernel_aborted k1))
        agreed_or true = left_gone (made_ready k1 wire) less
        agreed_or false = aborted_gone k1

        by : (x : Purpose) → Gone u (ended_by k1 x wire).1
        by purpose.Init = agreed_or (is_agreement wire)
        by (purpose.Release o) = left_gone k1 less
        by (purpose.Call call) =
            let l = (replied_to_call k1 call wire (get k.vfs.calls call)).1 in
            left_gone l (moves_left _ u k1.queues l.queues
            (replied_reads_none k1 call wire (get k.vfs.calls call)) less)

    -- A reply is written.
    pub written_gone : Gone u k → Gone u (reply_written k unique wire).1
    written_gone gone = by_allocated k gone (Gone u (reply_written k unique wire).1)
        (λ left. by left (nat_eq (unique % 2) 1))
        (λ aborted empty. subst (Gone u) (sym (none_taken k unique wire empty)) gone)
      where
        odd : (o : Option Purpose) → Gone u (interrupt_reply_written k unique wire o).1
        odd None = gone
        odd (Some kept) = interrupt_gone wire gone

        even : Left u k.queues → (o : Option Purpose) → Gone u (request_reply_written k unique wire o).1
        even left None = gone
        even left (Some kept) = ended_gone kept (left.0, none_removed u (nat_eq unique) k.queues.requests left.1)

        by : Left u k.queues → (b : Bool) → Gone u (cond b (interrupt_reply_written k unique wire
            (waiting k.queues (unique - 1))) (request_reply_written k unique wire (waiting k.queues unique))).1
        by left true = odd (waiting k.queues (unique - 1))
        by left false = even left (waiting k.queues unique)
