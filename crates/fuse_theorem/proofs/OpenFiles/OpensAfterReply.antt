-- As the kernel takes a reply, what the copy carries is opened or refused.
use Rattle.fuse_spec.specs.Values.Numbers.{init_flags}
use Rattle.fuse_theorem.proofs.Refining.JudgedReplies.{received_is}
use Rattle.fuse_theorem.specs.Conditions.{IsUsable}
use Rattle.std.proofs.Common.{◌≡◌, ℕ, ◌+◌, ◌-◌, ◌≤◌, Bool, true, false, true≢false, cond, List, Option, Some, None, nat_eq, is_some, slice_get, option_map, refl, ap, sym, subst, ◌∙◌, arith}
use Rattle.std.specs.Prelude.{◌%◌, sum_by}
use Rattle.std.specs.List.{list_any}
use Rattle.std.specs.Option.{option_map_or}
use Rattle.fuse_spec.specs.declared.InterruptReply.{InterruptReply}
use Rattle.fuse_spec.specs.declared.InterruptReplyEffect.{InterruptReplyEffect}
use Rattle.fuse_spec.specs.declared.InterruptReplyEffect.TheVariants.{QueuedAgain, TurnedOff, None as NoReplyEffect}
use Rattle.fuse_spec.specs.declared.Mark.{Mark}
use Rattle.fuse_spec.specs.declared.Mark.TheVariants as mark
use Rattle.fuse_spec.specs.declared.Opened.{Opened}
use Rattle.fuse_spec.specs.declared.Purpose.{Purpose}
use Rattle.fuse_spec.specs.declared.Purpose.TheVariants as purpose
use Rattle.fuse_spec.specs.declared.QueuedRequest.{QueuedRequest}
use Rattle.fuse_spec.specs.declared.WriteResult.{WriteResult}
use Rattle.fuse_spec.specs.declared.WriteResult.TheVariants.{Accepted, NoEntry, Invalid}
use Rattle.fuse_spec.specs.Calls.Answers as answer
use Rattle.fuse_spec.specs.Calls.CallReplies.{call_replied}
use Rattle.fuse_spec.specs.Claim.Counts.{opens_in, refused}
use Rattle.fuse_spec.specs.Values.Maps.{get}
use Rattle.fuse_spec.specs.Kernel.Messages.{RequestBody, init, asks, release, WireReply}
use Rattle.fuse_spec.specs.Files.Operations.{lookup, created, opened, agreed, done, failed, files_in_reply}
use Rattle.fuse_spec.specs.Calls.Vfs.{CallState, walking, doing, using, asked, answered}
use Rattle.fuse_spec.specs.Kernel.Queues.{QueueState, is_unread, pending, request_under, mark_under}
use Rattle.fuse_spec.specs.Kernel.QueueCalls.{after_reading, after_read_pending, after_reply_effect, after_interrupt_reply, pending_at, waiting, with_mark, with_interrupt, without}
use Rattle.fuse_spec.specs.Kernel.Signals.{reply_effect}
use Rattle.fuse_spec.specs.Kernel.Kernel.{Kernel, is_live, asked_by, body_of, kernel_aborted, after_use}
use Rattle.fuse_spec.specs.Kernel.Replies.{kernel_reply, looked_up, usable, goes_with, is_empty_reply, is_init_reply, is_agreement, write_result_of, judged, replied, replied_to_call, ended_by, request_reply_written, interrupt_reply_written, interrupt_replied, interrupt_reply_of, reply_written, made_ready}
use Rattle.fuse_spec.proofs.QueueCounts.{key_count, lookup-found}
use Rattle.fuse_theorem.specs.OpenNumbers.{OpensApart, released_for, released_by}
use Rattle.fuse_theorem.specs.Numbering.{requests_for}
use Rattle.fuse_theorem.proofs.Calls.Finding.{filtered}
use Rattle.fuse_theorem.proofs.Lookups.LookupsAfterReply.{unanswered}
use Rattle.fuse_theorem.proofs.Lists.MapSums.{worth}
use Rattle.fuse_theorem.proofs.Lists.OpenSums.{has_handle, kernel_sum, pending_sum}
use Rattle.fuse_theorem.proofs.OpenFiles.OpensApart.{call_apart, call_below}
use Rattle.fuse_theorem.proofs.Calls.OpenSteps.{gained, gained_by, gained_counts, replied_steps}
use Rattle.fuse_theorem.proofs.OpenFiles.OpensKept.{KeepsOpen, unmoved, advanced_keeps, used_keeps, answered_keeps}
use Rattle.fuse_theorem.proofs.Refining.Queuing.{All-at}
use Rattle.fuse_theorem.proofs.OpenFiles.ReleasesPending.{ended_sum, marked_sum}

-- ---- a pending request is read

-- What is read is released by its request on the link.
pub read_sum : (k : Kernel) → ((u : ℕ) → key_count u k.queues.requests ≤ 1) → (place unique : ℕ) (kept : Purpose) (body : RequestBody)
    → pending_at k.queues place ≡ Some (unique, kept) → body_of k kept ≡ Some body → (f : Opened → ℕ)
    → kernel_sum f (record k { queues = after_read_pending k.queues place }) + sum_by f (released_by body)
    ≡ kernel_sum f k
read_sum k once place unique kept body there says f =
    let moved = by (slice_get (pending k.queues) place) refl there in
    omega (arith, moved)
  where
    -- the request asks what it is for
    same_release : (x : Purpose) → body_of k x ≡ Some body → sum_by f (released_by body) ≡ sum_by f (released_for x)
    same_release purpose.Init e = let is : init init_flags ≡ body =
        cc (e) in ap (λ (b : RequestBody). sum_by f (released_by b)) (sym is)
    same_release (purpose.Release o) e = let is : release o ≡ body =
        cc (e) in ap (λ (b : RequestBody). sum_by f (released_by b)) (sym is)
    same_release (purpose.Call call) e = of_call (get k.vfs.calls call) e
      where
        of_call : (o : Option (CallState Opened)) → asked_by o ≡ Some body → sum_by f (released_by body) ≡ 0
        of_call None is = absurd (cc (is))
        of_call (Some state) is = let same : asks (asked state) ≡ body =
            cc (is) in ap (λ (b : RequestBody). sum_by f (released_by b)) (sym same)

    read_one : (e : ℕ × QueuedRequest Purpose) → request_under k.queues e.0 ≡ Some e.1 → is_unread e.1.mark ≡ true
        → (m : Mark) → e.1.mark ≡ m → pending_sum f (after_reading k.queues e.0 m) + sum_by f (released_for e.1.kept)
        ≡ pending_sum f k.queues
    read_one e under unread mark.Unread is =
        let same = marked_sum f k.queues (with_mark k.queues e.0 mark.Read) e.0 mark.Read e.1 under refl in
        let here = ap (λ (b : Bool). cond b (sum_by f (released_for e.1.kept)) 0) unread in
        omega (arith, same, here)
    read_one e under unread mark.Flagged is =
        let same = marked_sum f k.queues (with_interrupt
        (with_mark k.queues e.0 mark.Interrupted) e.0) e.0 mark.Interrupted e.1 under refl in
        let here = ap (λ (b : Bool). cond b (sum_by f (released_for e.1.kept)) 0) unread in
        omega (arith, same, here)
    read_one e under unread mark.Read is = absurd (true≢false (sym unread ∙ ap is_unread is))
    read_one e under unread mark.Interrupted is = absurd (true≢false (sym unread ∙ ap is_unread is))

    by : (o : Option (ℕ × QueuedRequest Purpose)) → slice_get (pending k.queues) place ≡ o
        → option_map {U = ℕ × Purpose} (λ (e : ℕ × QueuedRequest Purpose). (e.0, e.1.kept)) o ≡ Some (unique, kept)
        → pending_sum f (option_map_or (λ e. after_reading k.queues e.0 e.1.mark) o k.queues) + sum_by f
        (released_by body) ≡ pending_sum f k.queues
    by None at e = absurd (cc)
    by (Some x) at e =
        let both : ◌≡◌ {A = ℕ × Purpose} (x.0, x.1.kept) (unique, kept) = cc (e) in
        let unread = All-at (λ (d : ℕ × QueuedRequest Purpose). is_unread d.1.mark ≡ true) (pending k.queues) place x
        (filtered (λ (d : ℕ × QueuedRequest Purpose). is_unread d.1.mark) k.queues.requests) at in
        let moved = read_one x (lookup-found
        (λ (d : ℕ × QueuedRequest Purpose). is_unread d.1.mark) k.queues.requests place x at
        (once x.0)) unread x.1.mark refl in
        let same : sum_by f (released_by body) ≡ sum_by f (released_for x.1.kept) =
        same_release x.1.kept (ap (λ (y : ℕ × Purpose). body_of k y.1) both ∙ says) in
        omega (arith, moved, same)

-- ---- a request ends

-- One that waits was read, so that no RELEASE of it is pending.
pub ended_keeps : (k : Kernel) → OpensApart k.vfs k.closing → (unique : ℕ) (kept : Purpose)
    → waiting k.queues unique ≡ Some kept → KeepsOpen k (record k { queues = without k.queues unique }) None
ended_keeps k old unique kept waits = by (request_under k.queues unique) refl waits
  where
    read_one : (r : QueuedRequest Purpose) → request_under k.queues unique ≡ Some r → (b : Bool)
        → is_unread r.mark ≡ b → cond b None (Some r.kept) ≡ Some kept
        → KeepsOpen k (record k { queues = without k.queues unique }) None
    read_one r under true unread e = absurd (cc (e))
    read_one r under false unread e = record {
      sums = λ f.
          let gone = ended_sum f k.queues (without k.queues unique) unique r under refl in
          let nothing = ap (λ (b : Bool). cond b (sum_by f (released_for r.kept)) 0) unread in
          omega (arith, gone, nothing);
      apart = old;
    }

    by : (o : Option (QueuedRequest Purpose)) → request_under k.queues unique ≡ o
        → option_map_or (λ r. cond (is_unread r.mark) None (Some r.kept)) o None ≡ Some kept
        → KeepsOpen k (record k { queues = without k.queues unique }) None
    by None under e = absurd (cc (e))
    by (Some r) under e = read_one r under (is_unread r.mark) refl e

-- ---- a reply is taken

-- What the copy carries is opened, or refused. P is what holds of the file that is opened.
pub record ReceivesOpens (P : Opened → Type 0) (k : Kernel) (wire : WireReply)
    (taken : WriteResult × Kernel) : Type 0 where
  pub opens : Option Opened
  pub keeps : KeepsOpen k taken.1 opens
  pub counts : (fh : ℕ) → worth (has_handle fh) opens + refused taken.0 (opens_in fh wire) ≡ opens_in fh wire
  pub fits : (o : Opened) → opens ≡ Some o → P o

module _ (P : Opened → Type 0) where
  -- The copy is refused.
  refuses : (k l : Kernel) (wire : WireReply) (result : WriteResult) → KeepsOpen k l None
      → ((n : ℕ) → refused result n ≡ n) → ReceivesOpens P k wire (result, l)
  refuses k l wire result keeps all = record {
    opens = None;
    keeps = keeps;
    counts = λ fh. let whole = all (opens_in fh wire) in omega (arith, whole);
    fits = λ o e. absurd (cc (e));
  }

  -- The copy carries nothing.
  carries_nothing : (k l : Kernel) (wire : WireReply) (result : WriteResult) → KeepsOpen k l None
      → ((fh : ℕ) → opens_in fh wire ≡ 0) → ReceivesOpens P k wire (result, l)
  carries_nothing k l wire result keeps none = record {
    opens = None;
    keeps = keeps;
    counts = λ fh.
        let nothing = none fh in
        let nothing_refused : refused result (opens_in fh wire) ≡ 0 =
        ap (refused result) nothing ∙ refused_none result in
        omega (arith, nothing, nothing_refused);
    fits = λ o e. absurd (cc (e));
  }
    where
      refused_none : (r : WriteResult) → refused r 0 ≡ 0
      refused_none Accepted = refl
      refused_none NoEntry = refl
      refused_none Invalid = refl

  -- ---- a reply to a call

  module _ (k : Kernel) (old : OpensApart k.vfs k.closing) (call : ℕ) (state : CallState Opened)
      (there : get k.vfs.calls call ≡ Some state) (wire : WireReply) where
    -- what a reply that goes with the operation opens is what it carries
    state_counts : (fh : ℕ) (s : CallState Opened) → goes_with (asked s) wire ≡ true
        → worth (has_handle fh) (gained s (kernel_reply (asked s) wire)) ≡ opens_in fh wire
    state_counts fh (walking d word words plan) goes = by wire goes
      where
        by : (x : WireReply) → goes_with (lookup d word) x ≡ true → 0 ≡ opens_in fh x
        by (created g valid n) e = absurd (true≢false (sym e))
        by (opened n) e = absurd (true≢false (sym e))
        by x e = refl
    state_counts fh (doing operation) goes = gained_counts fh operation wire goes
    state_counts fh (using open_call operation) goes = gained_counts fh operation wire goes

    state_fits : ((o : Opened) → gained_by (asked state) (kernel_reply (asked state) wire) ≡ Some o → P o)
        → (o : Opened) → gained state (kernel_reply (asked state) wire) ≡ Some o → P o
    state_fits each o = by state each
      where
        by : (s : CallState Opened) → ((x : Opened) → gained_by (asked s) (kernel_reply (asked s) wire) ≡ Some x → P x)
            → gained s (kernel_reply (asked s) wire) ≡ Some o → P o
        by (walking d word words plan) all e = absurd (cc (e))
        by (doing operation) all e = all o e
        by (using open_call operation) all e = all o e

    goes_received : IsUsable k.nodes wire → goes_with (asked state) wire ≡ true
        → ((o : Opened) → gained_by (asked state) (kernel_reply (asked state) wire) ≡ Some o → P o)
        → ReceivesOpens P k wire (replied k call state true wire)
    goes_received used goes each = subst (λ (l : Kernel). ReceivesOpens P k wire (Accepted, after_use l state))
        (sym (received_is k call state wire used)) learns
      where
        learns : ReceivesOpens P k wire (Accepted, after_use (judged k call state wire usable) state)
        learns =
            let knows = record k { nodes = looked_up k.nodes (files_in_reply wire) } in
            let reply = kernel_reply (asked state) wire in
            let none = call_apart k.vfs k.closing old call state there in
            let low = call_below k.vfs k.closing old call state there in
            let l = judged k call state wire usable in
            let first = advanced_keeps knows old call none.0 none.1 low (call_replied k.vfs call state reply)
            (gained state reply) (replied_steps k.vfs call state reply) in
            let second = used_keeps l first.apart state in
            record {
              opens = gained state reply;
              keeps = record {
                sums = λ f. let a = first.sums f in let b = second.sums f in
                    omega (arith, a, b);
                apart = second.apart;
              };
              counts = λ fh. let all = state_counts fh state goes in omega (arith, all);
              fits = state_fits each;
            }

    replied_received : IsUsable k.nodes wire → (goes_with (asked state) wire ≡ true → (o : Opened)
        → gained_by (asked state) (kernel_reply (asked state) wire) ≡ Some o → P o)
        → ReceivesOpens P k wire (replied k call state (goes_with (asked state) wire) wire)
    replied_received used each = by (goes_with (asked state) wire) refl
      where
        by : (b : Bool) → goes_with (asked state) wire ≡ b → ReceivesOpens P k wire (replied k call state b wire)
        by true goes = goes_received used goes (each goes)
        by false goes = refuses k (after_use (record k {
          vfs =
              answered k.vfs call (answer.failed 5);
        }) state) wire Invalid
            (answered_keeps k old call state there (answer.failed 5)) (λ n. refl)

  -- ---- any reply

  module _ (k : Kernel) (old : OpensApart k.vfs k.closing)
      (one_request : (call : ℕ) → requests_for call k.queues ≤ cond (is_some (get k.vfs.calls call)) 1 0) (unique : ℕ)
      (wire : WireReply) (used : IsUsable k.nodes wire)
      (each : nat_eq (unique % 2) 1 ≡ false → (call : ℕ) (state : CallState Opened)
      → waiting k.queues unique ≡ Some (purpose.Call call) → get k.vfs.calls call ≡ Some state
      → goes_with (asked state) wire ≡ true → (o : Opened)
      → gained_by (asked state) (kernel_reply (asked state) wire) ≡ Some o → P o) where
    abbrev ended : Kernel
    ended = record k { queues = without k.queues unique }

    init_received : KeepsOpen k (made_ready ended wire) None
        → ReceivesOpens P k wire (write_result_of (is_init_reply wire), made_ready ended wire)
    init_received keeps = by wire
      where
        by : (x : WireReply) → ReceivesOpens P k x (write_result_of (is_init_reply x), made_ready ended wire)
        by (agreed major minor flags) = carries_nothing k _ (agreed major minor flags) Accepted keeps (λ fh. refl)
        by (failed errno) = carries_nothing k _ (failed errno) Accepted keeps (λ fh. refl)
        by x = refuses k _ x Invalid keeps (λ n. refl)

    release_received : KeepsOpen k ended None → ReceivesOpens P k wire (write_result_of (is_empty_reply wire), ended)
    release_received keeps = by wire
      where
        by : (x : WireReply) → ReceivesOpens P k x (write_result_of (is_empty_reply x), ended)
        by done = carries_nothing k ended done Accepted keeps (λ fh. refl)
        by (failed errno) = carries_nothing k ended (failed errno) Accepted keeps (λ fh. refl)
        by x = refuses k ended x Invalid keeps (λ n. refl)

    ended_received : nat_eq (unique % 2) 1 ≡ false → (kept : Purpose) → waiting k.queues unique ≡ Some kept
        → is_live (ended_by ended kept wire).1.phase ≡ true → ReceivesOpens P k wire (ended_by ended kept wire)
    ended_received is_even purpose.Init waits live = by (is_agreement wire) live
      where
        by : (b : Bool) → is_live (cond b (made_ready ended wire) (kernel_aborted ended)).phase ≡ true
            → ReceivesOpens P k wire (
              write_result_of (is_init_reply wire),
              cond b (made_ready ended wire) (kernel_aborted ended),
            )
        by true still = let keeps = ended_keeps k old unique purpose.Init waits in
            init_received (record { sums = keeps.sums; apart = keeps.apart })
        by false still = absurd (true≢false (sym still))
    ended_received is_even (purpose.Release o) waits live = release_received (ended_keeps k old unique (purpose.Release o) waits)
    ended_received is_even (purpose.Call call) waits live = by (get k.vfs.calls call) refl
      where
        by : (o : Option (CallState Opened)) → get k.vfs.calls call ≡ o
            → ReceivesOpens P k wire (replied_to_call ended call wire o)
        by None none = absurd (unanswered k one_request call unique waits none)
        by (Some state) there =
            let first = ended_keeps k old unique (purpose.Call call) waits in
            let reply_received = replied_received ended old call state there wire used
            (each is_even call state waits there) in
            let second = reply_received.keeps in
            record {
              opens = reply_received.opens;
              keeps = record {
                sums = λ f. let a = first.sums f in
                    let b = second.sums f in omega (arith, a, b);
                apart = second.apart;
              };
              counts = reply_received.counts;
              fits = reply_received.fits;
            }

    pub written_received : is_live (reply_written k unique wire).1.phase ≡ true
        → ReceivesOpens P k wire (reply_written k unique wire)
    written_received = by (nat_eq (unique % 2) 1) refl
      where
        same_table : (q : QueueState Purpose) → q.requests ≡ k.queues.requests
            → KeepsOpen k (record k { queues = q }) None
        same_table q same = record {
          sums = λ f. let moved =
              ap (λ (es : List (ℕ × QueuedRequest Purpose)). pending_sum f (record k.queues { requests = es })) same in
              omega (arith, moved);
          apart = old;
        }

        effects : (original : ℕ) (x : InterruptReplyEffect)
            → (after_reply_effect k.queues original x).requests ≡ k.queues.requests
        effects original QueuedAgain = refl
        effects original TurnedOff = refl
        effects original NoReplyEffect = refl

        reply_same : (original : ℕ) (reply : InterruptReply) (o : Option Mark)
            → (option_map_or (λ m. after_reply_effect k.queues original
            (reply_effect reply m (list_any
            (nat_eq original) k.queues.interrupts) k.queues.interrupts_off)) o k.queues).requests ≡ k.queues.requests
        reply_same original reply None = refl
        reply_same original reply (Some m) = effects original
            (reply_effect reply m (list_any (nat_eq original) k.queues.interrupts) k.queues.interrupts_off)

        interrupts : (x : WireReply) → ReceivesOpens P k x (interrupt_replied k (unique - 1) x)
        interrupts (failed errno) =
            carries_nothing k _ (failed errno) Accepted (same_table
            (after_interrupt_reply k.queues (unique - 1) (interrupt_reply_of errno))
            (reply_same (unique - 1) (interrupt_reply_of errno) (mark_under k.queues (unique - 1)))) (λ fh. refl)
        interrupts done = carries_nothing k k done Accepted (unmoved k old) (λ fh. refl)
        interrupts x = refuses k k x Invalid (unmoved k old) (λ n. refl)

        odd : (o : Option Purpose) → ReceivesOpens P k wire (interrupt_reply_written k unique wire o)
        odd None = refuses k k wire NoEntry (unmoved k old) (λ n. refl)
        odd (Some kept) = interrupts wire

        even : nat_eq (unique % 2) 1 ≡ false → (o : Option Purpose) → waiting k.queues unique ≡ o
            → is_live (request_reply_written k unique wire o).1.phase ≡ true
            → ReceivesOpens P k wire (request_reply_written k unique wire o)
        even is_even None waits live = refuses k k wire NoEntry (unmoved k old) (λ n. refl)
        even is_even (Some kept) waits live = ended_received is_even kept waits live

        by : (b : Bool) → nat_eq (unique % 2) 1 ≡ b → is_live
            (cond b (interrupt_reply_written k unique wire (waiting k.queues (unique - 1)))
            (request_reply_written k unique wire (waiting k.queues unique))).1.phase ≡ true
            → ReceivesOpens P k wire (cond b (interrupt_reply_written k unique wire (waiting k.queues (unique - 1)))
            (request_reply_written k unique wire (waiting k.queues unique)))
        by true tie live = odd (waiting k.queues (unique - 1))
        by false tie live = even tie (waiting k.queues unique) refl live
