-- The kernel goes on by a reply, by a read and by itself: what was read is there still, or is gone.
use Rattle.std.proofs.Common.{◌≡◌, ◌⊎◌, inl, inr, ℕ, ◌+◌, ◌-◌, ◌≤◌, ◌<◌, ◌%◌, Bool, true, false, true≢false, cond, List, Option, Some, None, drop, nat_eq, nat_lt, slice_get, refl, ap, sym, subst, ◌∙◌, arith}
use Rattle.std.specs.Map.{lookup}
use Rattle.std.specs.List.{list_any}
use Rattle.std.specs.Option.{option_map_or}
use Rattle.std.proofs.lemmas.Bool.{cases_eq, false≢true}
use Rattle.std.proofs.lemmas.Bool.Decides.{nat_tests}
use Rattle.fk_wire.specs.declared.opcode.Opcode.{Opcode}
use Rattle.fuse_spec.specs.declared.IntrEffect.{IntrEffect}
use Rattle.fuse_spec.specs.declared.InterruptReply.{InterruptReply}
use Rattle.fuse_spec.specs.declared.InterruptReplyEffect.{InterruptReplyEffect}
use Rattle.fuse_spec.specs.declared.InterruptReplyEffect.TheVariants.{QueuedAgain, TurnedOff, None as NoReplyEffect}
use Rattle.fuse_spec.specs.declared.Mark.{Mark}
use Rattle.fuse_spec.specs.declared.Mark.TheVariants as mark
use Rattle.fuse_spec.specs.declared.Opened.{Opened}
use Rattle.fuse_spec.specs.declared.Purpose.{Purpose}
use Rattle.fuse_spec.specs.declared.Purpose.TheVariants as purpose
use Rattle.fuse_spec.specs.declared.QueuedRequest.{QueuedRequest}
use Rattle.fuse_spec.specs.declared.WriteResult.{WriteResult}
use Rattle.fuse_spec.specs.Calls.Answers as answer
use Rattle.fuse_spec.specs.Calls.CallReplies.{call_replied}
use Rattle.fuse_spec.specs.Calls.Calls.{for_minor}
use Rattle.fuse_spec.specs.Calls.Vfs.{CallState, answered, asked}
use Rattle.fuse_spec.specs.Values.Maps.{get}
use Rattle.fuse_spec.specs.Files.Operations.{failed, files_in_reply}
use Rattle.fuse_spec.specs.Kernel.Kernel.{Kernel, after_use, is_for, is_live, kernel_aborted, kernel_mounted}
use Rattle.fuse_spec.specs.Kernel.Messages.{WireReply}
use Rattle.fuse_spec.specs.Kernel.QueueCalls.{after_interrupt_reply, after_reading, after_reply_effect, can_read_forgets, set_mark, waiting, without}
use Rattle.fuse_spec.specs.Kernel.Queues.{is_unread, mark_under, pending, request_under}
use Rattle.fuse_spec.specs.Kernel.Replies.{Use, ended_by, goes_with, interrupt_replied, interrupt_reply_of, interrupt_reply_written, is_agreement, judged, kernel_reply, looked_up, made_ready, replied, replied_to_call, reply_judged, reply_received, reply_written, request_reply_written, stale, unusable, usable, use_of_reply, without_stale}
use Rattle.fuse_spec.specs.Kernel.Signals.{reply_effect}
use Rattle.fuse_spec.proofs.QueueCounts.{key_count, lookup-no_key, lookup-remove_entry_other, lookup-set_mark_other}
use Rattle.fuse_theorem.specs.Numbering.{requests_for}
use Rattle.fuse_theorem.proofs.Answers.Answered.{Waits, waiting_is}
use Rattle.fuse_theorem.proofs.Calls.Advancing.{call_replied_alone}
use Rattle.fuse_theorem.proofs.Calls.CallNumbers.{begun_numbered, interrupt_replied_numbered, none_left, read_numbered, replied_numbered, without_numbered}
use Rattle.fuse_theorem.proofs.Calls.Finding.{other_is, same_is}
use Rattle.fuse_theorem.proofs.Requests.AskKept.{Follows, StillThere, advanced_follows, answered_follows, asks_same, begun_follows, then_follows, unmoved, used_follows}
use Rattle.fuse_theorem.proofs.Requests.Numbered.{CallsNumbered}
use Rattle.fk_kernel.specs.AwaitedReplies.{head_unique}
use Rattle.fk_kernel.specs.Picks.{after_pick}
use Rattle.fk_kernel.specs.declared.read.Pick.{Pick}
use Rattle.fk_kernel.specs.declared.read.Pick.TheVariants.{Interrupt, Forgets, Pending}
use Rattle.fk_drive.specs.KernelSteps.{ActsAlone, IsReplyTaken, mounts, begins, is_signalled, ticks, drops_name, evicts, aborts, gives_answer}
use Rattle.fk_drive.specs.Driving.{Driven, DriveStep, alone, reads, answers, writes}
use Rattle.fuse_device.specs.Transfers.{Transfer}
use Rattle.fk_drive_theorem.specs.TakenOnce.{mounts_alone, mounts_at}
use Rattle.fk_drive_theorem.proofs.NumbersGone.{begun_gone, ended_gone, left_gone, read_gone, signalled_gone, written_gone}
use Rattle.fk_drive_theorem.proofs.OneEach.{OneEach, one_removed}
use Rattle.fk_drive_theorem.proofs.Taken.{TakenAs, refused_whole, is_read, holds_as_taken}
use Rattle.fk_drive_theorem.proofs.WrittenCounted.{EmptyUnlessLive}
use Rattle.driven_sessions.proofs.Asking.{AwaitsOnly, goes_only, numbered_stable, only_stable, signalled_on}
use Rattle.driven_sessions.proofs.Numbers.{Each, Entry, IsRead, Passed, each_at, moves_passed, passed_stable}
use Rattle.driven_sessions.proofs.Steps.{alone_dead, alone_keeps, taken_dead, taken_keeps}
use Rattle.driven_sessions.proofs.InitNumbers.{picked_passed}

-- What was read is there still, or it had this number and is gone; what was gone stays so; and calls are numbered.
pub record Moves (v : ℕ) (k l : Kernel) : Type 0 where
  pub still : (u : ℕ) (r : QueuedRequest Purpose) → Each (IsRead u) k.queues.requests → request_under k.queues u ≡ Some r
      → is_unread r.mark ≡ false → StillThere k l u r ⊎ ((u ≡ v) × (request_under l.queues u ≡ None))
  pub gone : (u : ℕ) → u < k.queues.next → request_under k.queues u ≡ None → request_under l.queues u ≡ None
  pub numbered : CallsNumbered l

or_gone : (k l : Kernel) (u v : ℕ) (r : QueuedRequest Purpose) → StillThere k l u r ⊎ ((u ≡ v) × (request_under l.queues u ≡ None))
    → StillThere k l u r ⊎ (request_under l.queues u ≡ None)
or_gone k l u v r (inl still) = inl still
or_gone k l u v r (inr gone) = inr gone.1

moves_only : (o : Opcode) (u v : ℕ) (k l : Kernel) → u < k.queues.next → Each (IsRead u) k.queues.requests → Moves v k l
    → AwaitsOnly o u k → AwaitsOnly o u l
moves_only o u v k l low read moves only =
    goes_only o u k l read (λ r under was. or_gone k l u v r (moves.still u r read under was)) (moves.gone u low) only

same_moves : (v : ℕ) (k l : Kernel) → l.queues.requests ≡ k.queues.requests → l.vfs.calls ≡ k.vfs.calls
    → k.queues.next ≤ l.queues.next → CallsNumbered l → Moves v k l
same_moves v k l requests calls rises n = record {
  still = λ u r read under was. inl ((unmoved k l requests calls rises).still u r under was);
  gone = λ u low none. ap (lookup (nat_eq u)) requests ∙ none;
  numbered = n;
}

-- ---- a reply to a request

replied_follows : (k : Kernel) (call : ℕ) (wire : WireReply) (o : Option (CallState Opened))
    → requests_for call k.queues ≡ 0 → Follows k (replied_to_call k call wire o).1
replied_follows k call wire None none = unmoved k k refl refl (omega arith)
replied_follows k call wire (Some state) none = by (goes_with (asked state) wire)
  where
    stale_follows : Follows k (without_stale k wire)
    stale_follows = unmoved k (without_stale k wire) refl refl (omega arith)

    judged_follows : (x : WireReply) (u : Use) → Follows k (judged (without_stale k wire) call state x u)
    judged_follows x usable =
        let k1 = record (without_stale k wire) { nodes = looked_up k.nodes (files_in_reply x) } in
        let next = call_replied k.vfs call state (kernel_reply (asked state) x) in
        then_follows k k1 (judged (without_stale k wire) call state x usable) (unmoved k k1 refl refl (omega arith))
        (advanced_follows k1 call k.vfs.next_call next none (call_replied_alone k.vfs call state (kernel_reply (asked state) x)))
    judged_follows x unusable = then_follows k (without_stale k wire) _ stale_follows
        (answered_follows (without_stale k wire) call (answer.failed 5) none)
    judged_follows x (stale node) =
        let k1 = record (without_stale k wire) { vfs = answered k.vfs call (answer.failed 5) } in
        then_follows k k1 (judged (without_stale k wire) call state x (stale node))
        (then_follows k (without_stale k wire) k1 stale_follows (answered_follows (without_stale k wire) call (answer.failed 5) none))
        (unmoved k1 (judged (without_stale k wire) call state x (stale node)) refl refl (omega arith))

    by : (b : Bool) → Follows k (replied k call state b wire).1
    by true =
        let l = reply_received k call state wire in
        then_follows k l (after_use l state) (judged_follows (reply_judged k.nodes wire) (use_of_reply k.nodes wire))
        (used_follows l state)
    by false =
        let l = record k { vfs = answered k.vfs call (answer.failed 5) } in
        then_follows k l (after_use l state) (answered_follows k call (answer.failed 5) none) (used_follows l state)

module _ (k : Kernel) (one : OneEach k.queues) (n : CallsNumbered k) (unique : ℕ) (wire : WireReply) where
  abbrev ended : Kernel
  ended = record k { queues = without k.queues unique }

  ended_numbered : CallsNumbered ended
  ended_numbered = without_numbered k n unique

  -- it was allocated
  low : (r : QueuedRequest Purpose) → request_under k.queues unique ≡ Some r → unique < k.queues.next
  low r under = by (nat_lt unique k.queues.next) refl
    where
      by : (b : Bool) → nat_lt unique k.queues.next ≡ b → unique < k.queues.next
      by true is = grind (arith, nat_tests, is)
      by false is =
          let few : key_count unique k.queues.requests ≤ 0 =
          subst (λ (b : Bool). key_count unique k.queues.requests ≤ cond b 1 0) is (one unique) in
          absurd (cc (under, lookup-no_key unique k.queues.requests (omega (arith, few))))

  -- The request under the number ends, and the others go on.
  ends_moves : (l : Kernel) → Follows ended l → request_under l.queues unique ≡ None
      → ((u : ℕ) → u < k.queues.next → request_under k.queues u ≡ None → request_under l.queues u ≡ None)
      → CallsNumbered l → Moves unique k l
  ends_moves l follows absent gone numbered = record {
    still = λ u r read under was. elim (cases_eq u unique) [
      | inl e ↦ inr (e, ap (request_under l.queues) e ∙ absent)
      | inr ne ↦
          let x = follows.still u r (lookup-remove_entry_other u unique k.queues.requests (other_is u unique ne) ∙ under) was in
          inl (record {
            now = x.now;
            under = x.under;
            same_kept = x.same_kept;
            read = x.read;
            marked = x.marked;
            asks = x.asks ∙ asks_same k ended r.kept refl;
          })
    ];
    gone = gone;
    numbered = numbered;
  }

  ended_moves : (kept : Purpose) → Waits k.queues unique kept → is_live (ended_by ended kept wire).1.phase ≡ true
      → ((u : ℕ) → u < k.queues.next → request_under k.queues u ≡ None
      → request_under (ended_by ended kept wire).1.queues u ≡ None) → Moves unique k (ended_by ended kept wire).1
  ended_moves kept waits live gone = by kept waits live gone
      (ended_gone unique k unique wire kept (low waits.request waits.under, one_removed unique k.queues one)).none
    where
      by : (kept : Purpose) → Waits k.queues unique kept → is_live (ended_by ended kept wire).1.phase ≡ true
          → ((u : ℕ) → u < k.queues.next → request_under k.queues u ≡ None
          → request_under (ended_by ended kept wire).1.queues u ≡ None)
          → request_under (ended_by ended kept wire).1.queues unique ≡ None → Moves unique k (ended_by ended kept wire).1
      by purpose.Init waits live gone none = agreed (is_agreement wire) live gone none
        where
          agreed : (b : Bool) → is_live (cond b (made_ready ended wire) (kernel_aborted ended)).phase ≡ true
              → ((u : ℕ) → u < k.queues.next → request_under k.queues u ≡ None
              → request_under (cond b (made_ready ended wire) (kernel_aborted ended)).queues u ≡ None)
              → request_under (cond b (made_ready ended wire) (kernel_aborted ended)).queues unique ≡ None
              → Moves unique k (cond b (made_ready ended wire) (kernel_aborted ended))
          agreed true live gone none = ends_moves (made_ready ended wire)
              (unmoved ended (made_ready ended wire) refl refl (omega arith)) none gone
              (record { calls_below = ended_numbered.calls_below; one_request = ended_numbered.one_request })
          agreed false live gone none = absurd (false≢true live)
      by (purpose.Release o) waits live gone none =
          ends_moves ended (unmoved ended ended refl refl (omega arith)) none gone ended_numbered
      by (purpose.Call call) waits live gone none =
          let mine : is_for call waits.request.kept ≡ true =
          subst (λ (x : Purpose). is_for call x ≡ true) (sym waits.serves) (same_is call) in
          let left : requests_for call ended.queues ≡ 0 = none_left k n call unique waits.request waits.under mine in
          let l = (replied_to_call ended call wire (get k.vfs.calls call)).1 in
          ends_moves l (replied_follows ended call wire (get k.vfs.calls call) left) none gone
          (replied_numbered ended ended_numbered call wire (get k.vfs.calls call) refl left)

  -- ---- any reply

  written_moves : is_live (reply_written k unique wire).1.phase ≡ true → Moves unique k (reply_written k unique wire).1
  written_moves live = by (nat_eq (unique % 2) 1) live
      (λ u less none. (written_gone u k unique wire (left_gone u k (less, none))).none)
    where
      same_k : Moves unique k k
      same_k = same_moves unique k k refl refl (omega arith) n

      effects : (original : ℕ) (x : InterruptReplyEffect) → CallsNumbered (record k { queues = after_reply_effect k.queues original x })
          → Moves unique k (record k { queues = after_reply_effect k.queues original x })
      effects original QueuedAgain numbered =
          same_moves unique k (record k { queues = after_reply_effect k.queues original QueuedAgain }) refl refl (omega arith) numbered
      effects original TurnedOff numbered =
          same_moves unique k (record k { queues = after_reply_effect k.queues original TurnedOff }) refl refl (omega arith) numbered
      effects original NoReplyEffect numbered = same_k

      replies : (original : ℕ) (reply : InterruptReply) (o : Option Mark) → mark_under k.queues original ≡ o
          → CallsNumbered (record k { queues = after_interrupt_reply k.queues original reply })
          → Moves unique k (record k {
            queues = option_map_or (λ m. after_reply_effect k.queues original
                (reply_effect reply m (list_any (nat_eq original) k.queues.interrupts) k.queues.interrupts_off)) o k.queues;
          })
      replies original reply None at numbered = same_k
      replies original reply (Some m) at numbered = effects original
          (reply_effect reply m (list_any (nat_eq original) k.queues.interrupts) k.queues.interrupts_off)
          (subst (λ (o : Option Mark). CallsNumbered (record k {
            queues = option_map_or (λ m. after_reply_effect k.queues original
                (reply_effect reply m (list_any (nat_eq original) k.queues.interrupts) k.queues.interrupts_off)) o k.queues;
          })) at numbered)

      interrupts : (x : WireReply) → Moves unique k (interrupt_replied k (unique - 1) x).1
      interrupts (failed errno) = replies (unique - 1) (interrupt_reply_of errno) (mark_under k.queues (unique - 1)) refl
          (interrupt_replied_numbered k n (unique - 1) (interrupt_reply_of errno))
      interrupts x = same_k

      odd : (o : Option Purpose) → Moves unique k (interrupt_reply_written k unique wire o).1
      odd None = same_k
      odd (Some kept) = interrupts wire

      even : (o : Option Purpose) → waiting k.queues unique ≡ o → is_live (request_reply_written k unique wire o).1.phase ≡ true
          → ((u : ℕ) → u < k.queues.next → request_under k.queues u ≡ None
          → request_under (request_reply_written k unique wire o).1.queues u ≡ None)
          → Moves unique k (request_reply_written k unique wire o).1
      even None waits alive gone = same_k
      even (Some kept) waits alive gone = ended_moves kept (waiting_is k.queues unique kept waits) alive gone

      by : (b : Bool) → is_live (cond b (interrupt_reply_written k unique wire (waiting k.queues (unique - 1)))
          (request_reply_written k unique wire (waiting k.queues unique))).1.phase ≡ true
          → ((u : ℕ) → u < k.queues.next → request_under k.queues u ≡ None
          → request_under (cond b (interrupt_reply_written k unique wire (waiting k.queues (unique - 1)))
          (request_reply_written k unique wire (waiting k.queues unique))).1.queues u ≡ None)
          → Moves unique k (cond b (interrupt_reply_written k unique wire (waiting k.queues (unique - 1)))
          (request_reply_written k unique wire (waiting k.queues unique))).1
      by true alive gone = odd (waiting k.queues (unique - 1))
      by false alive gone = even (waiting k.queues unique) refl alive gone

-- ---- the kernel by itself

pub alone_moves : (v : ℕ) (old new : Kernel) (acts : ActsAlone old new) → mounts_alone acts ≡ 0 → is_live new.phase ≡ true
    → OneEach old.queues → CallsNumbered old → Moves v old new
alone_moves v old new (mounts may) none live one n = absurd (omega (arith, none))
alone_moves v old new (begins call may) none live one n =
    let c = for_minor old.lists_files call in record {
      still = λ u r read under was. inl ((begun_follows old n c).still u r under was);
      gone = λ u low none. (begun_gone u old c (left_gone u old (low, none))).none;
      numbered = begun_numbered old n c;
    }
alone_moves v old new (is_signalled call fatal effect q may is) none live one n =
    subst (λ (r : IntrEffect × Kernel). Moves v old r.1) is.signalled (
    let on = signalled_on old one n call is.state fatal is.unanswered in record {
      still = λ u r read under was. inl (on.follows.still u r under was);
      gone = λ u low none. (signalled_gone u old call is.state fatal (left_gone u old (low, none))).none;
      numbered = on.numbered;
    }
    )
alone_moves v old new (ticks ms may) none live one n =
    same_moves v old new refl refl (omega arith) (record { calls_below = n.calls_below; one_request = n.one_request })
alone_moves v old new (drops_name directory name may) none live one n =
    same_moves v old new refl refl (omega arith) (record { calls_below = n.calls_below; one_request = n.one_request })
alone_moves v old new (evicts node counted may there) none live one n =
    same_moves v old new refl refl (omega arith) (record { calls_below = n.calls_below; one_request = n.one_request })
alone_moves v old new (aborts may) none live one n = absurd (false≢true live)
alone_moves v old new (gives_answer call) none live one n =
    same_moves v old new refl refl (omega arith) (record { calls_below = n.calls_below; one_request = n.one_request })

-- ---- a read

pub picked_moves : (v : ℕ) (k : Kernel) (pick : Pick) → CallsNumbered k → Moves v k (record k { queues = after_pick k.queues pick })
picked_moves v k Interrupt n = same_moves v k (record k { queues = after_pick k.queues Interrupt }) refl refl (omega arith)
    (record { calls_below = n.calls_below; one_request = n.one_request })
picked_moves v k (Forgets count) n = by (can_read_forgets k.queues count)
  where
    by : (b : Bool) → Moves v k (record k {
      queues = cond b (record k.queues { forgets = drop count k.queues.forgets; next = k.queues.next + 2 }) k.queues;
    })
    by true = same_moves v k (record k {
      queues = record k.queues { forgets = drop count k.queues.forgets; next = k.queues.next + 2 };
    }) refl refl (omega arith) (record { calls_below = n.calls_below; one_request = n.one_request })
    by false = same_moves v k k refl refl (omega arith) n
picked_moves v k (Pending place) n = by (slice_get (pending k.queues) place) refl
    (λ u low none. (read_gone u k place (left_gone u k (low, none))).none)
  where
    marked : (e : Entry) → slice_get (pending k.queues) place ≡ Some e → (m : Mark) (l : Kernel)
        → l.queues.requests ≡ set_mark e.0 k.queues.requests m → l.vfs.calls ≡ k.vfs.calls
        → ((u : ℕ) → u < k.queues.next → request_under k.queues u ≡ None → request_under l.queues u ≡ None)
        → CallsNumbered l → Moves v k l
    marked e at m l requests calls gone numbered = record {
      still = λ u r read under was.
          let seen = each_at (IsRead u) (λ x. is_unread x.1.mark) k.queues.requests place e read at in
          let apart : nat_eq u e.0 ≡ false = differs (is_unread e.1.mark) (nat_eq u e.0) seen.0 seen.1 in
          inl (record {
            now = r;
            under = ap (lookup (nat_eq u)) requests ∙ lookup-set_mark_other u e.0 k.queues.requests m apart ∙ under;
            same_kept = refl;
            read = was;
            marked = λ h. h;
            asks = asks_same k l r.kept calls;
          });
      gone = gone;
      numbered = numbered;
    }
      where
        differs : (x b : Bool) → x ≡ true → (b ≡ true → x ≡ false) → b ≡ false
        differs x true unread read = absurd (true≢false (sym unread ∙ read refl))
        differs x false unread read = refl

    by : (o : Option Entry) → slice_get (pending k.queues) place ≡ o
        → ((u : ℕ) → u < k.queues.next → request_under k.queues u ≡ None → request_under
        (option_map_or (λ e. after_reading k.queues e.0 e.1.mark) o k.queues) u ≡ None)
        → Moves v k (record k { queues = option_map_or (λ e. after_reading k.queues e.0 e.1.mark) o k.queues })
    by None at gone = same_moves v k k refl refl (omega arith) n
    by (Some e) at gone = read_as e.1.mark gone (read_numbered k n (Some e))
      where
        read_as : (m : Mark) → ((u : ℕ) → u < k.queues.next → request_under k.queues u ≡ None
            → request_under (after_reading k.queues e.0 m) u ≡ None) → CallsNumbered (record k { queues = after_reading k.queues e.0 m })
            → Moves v k (record k { queues = after_reading k.queues e.0 m })
        read_as mark.Unread gone numbered = marked e at mark.Read
            (record k { queues = after_reading k.queues e.0 mark.Unread }) refl refl gone numbered
        read_as mark.Flagged gone numbered = marked e at mark.Interrupted
            (record k { queues = after_reading k.queues e.0 mark.Flagged }) refl refl gone numbered
        read_as mark.Read gone numbered = same_moves v k k refl refl (omega arith) n
        read_as mark.Interrupted gone numbered = same_moves v k k refl refl (omega arith) n

-- ---- bytes as a reply

module _ (old : Kernel) (bytes : List ℕ) (result : WriteResult) (new : Kernel) (taken : IsReplyTaken old bytes result new)
    (live : is_live new.phase ≡ true) (one : OneEach old.queues) (n : CallsNumbered old) where
  pub moved : (o : Opcode) (wire : WireReply) → reply_written old (head_unique bytes) wire ≡ (result, new)
      → Moves (head_unique bytes) old new
  moved o wire same =
      let to : (reply_written old (head_unique bytes) wire).1 ≡ new = ap (λ (r : WriteResult × Kernel). r.1) same in
      subst (Moves (head_unique bytes) old) to (written_moves old one n (head_unique bytes) wire (ap (λ (k : Kernel). is_live k.phase) to ∙ live))

  taken_numbered : CallsNumbered new
  taken_numbered = holds_as_taken old bytes result new taken (CallsNumbered new) (numbered_stable new) by
    where
      by : TakenAs old bytes result new → CallsNumbered new
      by (refused_whole refused no_entry same) = subst CallsNumbered (sym same) n
      by (is_read o wire awaits means same) = (moved o wire same).numbered

  taken_only : (o : Opcode) (u : ℕ) → u < old.queues.next → Each (IsRead u) old.queues.requests → AwaitsOnly o u old
      → AwaitsOnly o u new
  taken_only o u low read only = holds_as_taken old bytes result new taken (AwaitsOnly o u new) (only_stable o u new) by
    where
      by : TakenAs old bytes result new → AwaitsOnly o u new
      by (refused_whole refused no_entry same) = subst (AwaitsOnly o u) (sym same) only
      by (is_read p wire awaits means same) = moves_only o u (head_unique bytes) old new low read (moved p wire same) only

-- ---- steps

-- The calls of a live kernel are numbered.
abbrev pub WellNumbered : Kernel → Type 0
WellNumbered k = is_live k.phase ≡ true → CallsNumbered k

mounted_numbered : (k : Kernel) → CallsNumbered (kernel_mounted k)
mounted_numbered k = record { calls_below = λ c le. refl; one_request = λ c. omega arith }

-- What was true of a live kernel is used, or it was dead, and stays so.
pub by_live : {P : Type 0} (k : Kernel) → (is_live k.phase ≡ true → P) → (is_live k.phase ≡ false → P) → P
by_live {P} k alive dead = by (is_live k.phase) refl
  where
    by : (b : Bool) → is_live k.phase ≡ b → P
    by true is = alive is
    by false is = dead is

-- The number was passed, and awaits a reply to this opcode alone.
abbrev pub Knows : Opcode → ℕ → Kernel → Type 0
Knows o u k = is_live k.phase ≡ true → Passed u k.queues × AwaitsOnly o u k

module _ (old new : Kernel) (one : OneEach old.queues) (empty : EmptyUnlessLive old) (well : WellNumbered old) where
  alone_well : (acts : ActsAlone old new) → mounts_alone acts ≡ 0 → WellNumbered new
  alone_well acts none live = by_live old (λ alive. (alone_moves 0 old new acts none live one (well alive)).numbered)
      (λ dead. absurd (true≢false (sym live ∙ alone_dead old new acts none dead)))

  alone_knows : (o : Opcode) (u : ℕ) (acts : ActsAlone old new) → mounts_alone acts ≡ 0 → Knows o u old → Knows o u new
  alone_knows o u acts none knows live = by_live old (λ alive.
      let was = knows alive in
      let low = was.0 in (
        alone_keeps (Passed u) (passed_stable u) (moves_passed u) old new acts none (λ l. (knows l).0) live,
        moves_only o u 0 old new low.low low.read (alone_moves 0 old new acts none live one (well alive)) was.1,
      )) (λ dead. absurd (true≢false (sym live ∙ alone_dead old new acts none dead)))

  taken_well : (bytes : List ℕ) (result : WriteResult) → IsReplyTaken old bytes result new → WellNumbered new
  taken_well bytes result taken live = by_live old (λ alive. taken_numbered old bytes result new taken live one (well alive))
      (λ dead. absurd (true≢false (sym live ∙ taken_dead old bytes result new taken empty dead)))

  taken_knows : (o : Opcode) (u : ℕ) (bytes : List ℕ) (result : WriteResult) → IsReplyTaken old bytes result new
      → Knows o u old → Knows o u new
  taken_knows o u bytes result taken knows live = by_live old (λ alive.
      let was = knows alive in
      let low = was.0 in (
        taken_keeps (Passed u) (passed_stable u) (moves_passed u) old bytes result new taken empty (λ l. (knows l).0) live,
        taken_only old bytes result new taken live one (well alive) o u low.low low.read was.1,
      )) (λ dead. absurd (true≢false (sym live ∙ taken_dead old bytes result new taken empty dead)))

module _ (k : Kernel) (pick : Pick) (well : WellNumbered k) where
  picked_well : WellNumbered (record k { queues = after_pick k.queues pick })
  picked_well live = (picked_moves 0 k pick (well live)).numbered

  picked_knows : (o : Opcode) (u : ℕ) → Knows o u k → Knows o u (record k { queues = after_pick k.queues pick })
  picked_knows o u knows live =
      let was = knows live in
      let low = was.0 in (
        picked_passed u k.queues pick low,
        moves_only o u 0 k (record k { queues = after_pick k.queues pick }) low.low low.read (picked_moves 0 k pick (well live)) was.1,
      )

-- ---- a step

module _ (old : Driven) (one : OneEach old.kernel.queues) (empty : EmptyUnlessLive old.kernel) (well : WellNumbered old.kernel)
  where
    pub step_well : (log : List Transfer) (new : Driven) → DriveStep old log new → WellNumbered new.kernel
    step_well log new (alone k (mounts may)) live = mounted_numbered old.kernel
    step_well log new (alone k acts) live = alone_well old.kernel k one empty well acts refl live
    step_well log new (reads idles pick may request is) live = picked_well old.kernel pick well live
    step_well log new (answers request error turn bytes written result k taken) live =
        taken_well old.kernel k one empty well bytes result taken live
    step_well log new (writes idles frame rest there handed on result k taken log' coming left turn release) live =
        taken_well old.kernel k one empty well handed result taken live
    step_well log new step live = well live

    pub step_knows : (log : List Transfer) (new : Driven) (step : DriveStep old log new) → mounts_at step ≡ 0 → (o : Opcode) (u : ℕ)
        → Knows o u old.kernel → Knows o u new.kernel
    step_knows log new (alone k acts) none o u knows live = alone_knows old.kernel k one empty well o u acts none knows live
    step_knows log new (reads idles pick may request is) none o u knows live = picked_knows old.kernel pick well o u knows live
    step_knows log new (answers request error turn bytes written result k taken) none o u knows live =
        taken_knows old.kernel k one empty well o u bytes result taken knows live
    step_knows log new (writes idles frame rest there handed on result k taken log' coming left turn release) none o u knows live =
        taken_knows old.kernel k one empty well o u handed result taken knows live
    step_knows log new step none o u knows live = knows live
