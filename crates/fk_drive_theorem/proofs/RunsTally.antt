-- What a run gathered of a node's lookups is what the kernel counts, has to forget and forgot.
use Rattle.std.proofs.Common.{Result, Err, length, slice_get, ◌≡◌, ◌≢◌, ℕ, ◌+◌, ◌≤◌, Bool, true, false, true≢false, not, cond, List, [], ◌∷◌, Option, Some, None, drop, take, refl, ap, sym, subst, ◌∙◌, arith}
use Rattle.std.specs.Prelude.{◌&&◌, nat_eq, nat_le, nat_lt}
use Rattle.std.specs.Option.{option_map_or}
use Rattle.std.proofs.lemmas.List.Sums.{sum_by_push, sum_by-take-drop}
use Rattle.fuse_spec.specs.declared.Counted.{Counted}
use Rattle.fuse_spec.specs.declared.IntrEffect.{IntrEffect}
use Rattle.fuse_spec.specs.declared.Opened.{Opened}
use Rattle.fuse_spec.specs.declared.Purpose.{Purpose}
use Rattle.fuse_spec.specs.declared.Purpose.TheVariants as purpose
use Rattle.fuse_spec.specs.declared.Refusal.{Refusal}
use Rattle.fuse_spec.specs.declared.Refusal.TheVariants.{Full, NotReady}
use Rattle.fuse_spec.specs.declared.WriteResult.{WriteResult}
use Rattle.fuse_spec.specs.declared.WriteResult.TheVariants.{Accepted, NoEntry, Invalid}
use Rattle.fuse_spec.specs.Calls.Calls.{Call, for_minor}
use Rattle.fuse_spec.specs.Calls.Vfs.{CallState}
use Rattle.fuse_spec.specs.Claim.Counts.{counted, times_named}
use Rattle.fuse_spec.specs.Kernel.Kernel.{Kernel, asked_by, body_of, call_begun, call_put, call_signalled, evicted, forgets_read, forgets_singly, is_live}
use Rattle.fuse_spec.specs.Kernel.Messages.{Forget, Request, RequestBody, WireReply}
use Rattle.fuse_spec.specs.Kernel.QueueCalls.{after_read_forgets, can_read_forgets}
use Rattle.fuse_spec.specs.Kernel.Queues.{QueueState, pending}
use Rattle.fuse_spec.specs.Kernel.Refusals.{is_ready, refusal_in, unless, when_live}
use Rattle.fuse_spec.specs.Kernel.Replies.{reply_written}
use Rattle.fuse_spec.specs.Server.Server.{forgets_of, forgotten}
use Rattle.fuse_spec.specs.Values.Maps.{get}
use Rattle.fuse_spec.specs.Values.Numbers.{max_calls}
use Rattle.fuse_spec.specs.World.Worlds.{forget_body}
use Rattle.fuse_theorem.proofs.Calls.CallsContinue.{begun_goes_on, signalled_goes_on}
use Rattle.fuse_theorem.proofs.Lookups.CountsStay.{begun_same, signalled_same, read_same}
use Rattle.fuse_theorem.proofs.Lookups.RowCounts.{evicted_count}
use Rattle.fuse_theorem.proofs.Requests.NumbersStay.{aborted_if_ready}
use Rattle.fk_wire.specs.declared.opcode.Opcode.{Opcode}
use Rattle.fk_wire.proofs.OneReply.{decoded_reply_is}
use Rattle.fuse_frames.specs.ReplyTies.{framed_by, said_in}
use Rattle.fuse_device.specs.Transfers.{Transfer}
use Rattle.fk_kernel.specs.AwaitedReplies.{Says, IsNoReply, ReadsReply, said, unsaid, Awaited, reply_to, awaited, head_unique}
use Rattle.fk_kernel.specs.Picks.{IsPicked, after_pick, pick_refusal}
use Rattle.fk_kernel.specs.Refused.{begin_refusal, within_counters}
use Rattle.fk_kernel.proofs.RepliesTaken.{opcode_in}
use Rattle.fk_kernel.specs.declared.read.Pick.{Pick}
use Rattle.fk_kernel.specs.declared.read.Pick.TheVariants.{Interrupt, Forgets, Pending}
use Rattle.fk_drive.specs.Driving.{Driven, DriveStep, Drives, first_driven, alone, reads, answers, writes, nothing, next}
use Rattle.fk_drive.specs.KernelSteps.{ActsAlone, IsReplyTaken, mounts, begins, is_signalled, ticks, drops_name, evicts, aborts, gives_answer}
use Rattle.fk_drive_theorem.specs.Tallies.{ForgottenAsGathered, Tally, no_lookups, tally_alone, tally_at, tally_of, tally_written, times_said, where_accepted}
use Rattle.fk_drive_theorem.proofs.Stable.{Stable, same_number, is_empty}
use Rattle.fk_drive_theorem.proofs.NumbersGone.{begun_aborted}
use Rattle.fk_drive_theorem.proofs.RepliesCounted.{lookups, same_gains}
use Rattle.fk_drive_theorem.proofs.Taken.{TakenAs, refused_whole, is_read, holds_as_taken}
use Rattle.fk_drive_theorem.proofs.WrittenCounted.{EmptyUnlessLive, IsEmpty, written_empty, written_gains, wrong_refused}

-- What was gathered is what the kernel has and what it forgot; without a live mount it has nothing.
pub record Tallied (id : ℕ) (k : Kernel) (tally : Tally) : Type 0 where
  pub balance : lookups id k + tally.forgotten ≡ tally.gathered
  pub empty : EmptyUnlessLive k

tallied_stable : (id : ℕ) (k : Kernel) (tally : Tally) → Stable (Tallied id k tally)
tallied_stable id k tally s = record {
  balance = same_number _ _ (λ no. s (λ t. no t.balance));
  empty = λ dead. (
    is_empty k.nodes (λ no. s (λ t. no (t.empty dead).0)),
    is_empty k.queues.requests (λ no. s (λ t. no (t.empty dead).1)),
    is_empty k.queues.forgets (λ no. s (λ t. no (t.empty dead).2)),
  );
}

-- What bytes say is what is counted of them.
pub said_is : (o : Opcode) (bytes : List ℕ) (wire : WireReply) → Says o bytes wire → said_in o bytes ≡ wire
unfolding said_in
said_is o bytes wire says = ap (λ m. (framed_by m).wire) (decoded_reply_is o bytes says.says.message says.says.spells)
    ∙ says.says.says

-- What is accepted says something.
pub accepted_says : (old : Kernel) (bytes : List ℕ) (new : Kernel) → IsReplyTaken old bytes Accepted new → (o : Opcode)
    → awaited old (head_unique bytes) ≡ reply_to o → IsNoReply o bytes → ⊥
accepted_says old bytes new taken o is none = holds_as_taken old bytes Accepted new taken ⊥ (λ s. s (λ never. never)) by
  where
    by : TakenAs old bytes Accepted new → ⊥
    by (refused_whole refused no_entry same) = refused refl
    by (is_read p wire at (said x says) same) =
        none x (subst (λ (q : Opcode). Says q bytes x) (ap opcode_in (sym at ∙ is)) says)
    by (is_read p wire at (unsaid says) same) =
        wrong_refused old (head_unique bytes) p at (ap (λ (r : WriteResult × Kernel). r.0) same)

module _ (id : ℕ) (low : 2 ≤ id) where
  -- a kernel that has nothing
  emptied : (k : Kernel) → IsEmpty k → Tallied id k no_lookups
  emptied k is =
      let nodes = ap (λ m. counted (get m id)) is.0 in
      let forgets = ap (forgotten id) is.2 in
      record { balance = omega (arith, nodes, forgets); empty = λ dead. is }

  -- ---- replies

  module _ (old : Kernel) (bytes : List ℕ) (result : WriteResult) (tally : Tally) (was : Tallied id old tally) where
    abbrev more : Tally
    more = record tally {
      gathered = tally.gathered + where_accepted result (times_said id bytes (awaited old (head_unique bytes)));
    }

    -- in a mount that is live after it
    reply_written_is : (new : Kernel) → EmptyUnlessLive new
        → (is_live new.phase ≡ true → lookups id new + tally.forgotten ≡ more.gathered)
        → Tallied id new (tally_written id old bytes result new tally)
    reply_written_is new empty balance = by (is_live new.phase) refl
      where
        by : (b : Bool) → is_live new.phase ≡ b → Tallied id new (cond b more no_lookups)
        by true live = record { balance = balance live; empty = empty }
        by false dead = emptied new (empty dead)

    same_lookups : (new : Kernel) → lookups id new ≡ lookups id old
        → where_accepted result (times_said id bytes (awaited old (head_unique bytes))) ≡ 0
        → lookups id new + tally.forgotten ≡ more.gathered
    same_lookups new same none = let before = was.balance in omega (arith, before, same, none)

    refused_none : (r : WriteResult) (n : ℕ) → (r ≡ Accepted → ⊥) → where_accepted r n ≡ 0
    refused_none Accepted n refused = absurd (refused refl)
    refused_none NoEntry n refused = refl
    refused_none Invalid n refused = refl

    -- What is read of the bytes counts as what they say: bytes that say nothing are not accepted.
    read_times : (o : Opcode) (wire : WireReply) → awaited old (head_unique bytes) ≡ reply_to o
        → ReadsReply o bytes wire → (r : WriteResult) → (reply_written old (head_unique bytes) wire).0 ≡ r
        → where_accepted r (times_named id wire) ≡ where_accepted r (times_named id (said_in o bytes))
    read_times o wire is (said x says) r at =
        ap (λ (w : WireReply). where_accepted r (times_named id w)) (sym (said_is o bytes x says))
    read_times o wire is (unsaid none) r at =
        let refused : r ≢ Accepted = λ e. wrong_refused old (head_unique bytes) o is (at ∙ e) in
        refused_none r _ refused ∙ sym (refused_none r _ refused)

    taken_tallied : (new : Kernel) → IsReplyTaken old bytes result new
        → Tallied id new (tally_written id old bytes result new tally)
    taken_tallied new taken = holds_as_taken old bytes result new taken _ (tallied_stable id new _) by
      where
        by : TakenAs old bytes result new → Tallied id new (tally_written id old bytes result new tally)
        by (refused_whole refused no_entry same) = reply_written_is new (subst EmptyUnlessLive (sym same) was.empty)
            (λ live. same_lookups new (ap (lookups id) same) (refused_none result _ refused))
        by (is_read o wire is means same) =
            let after : (reply_written old (head_unique bytes) wire).1 ≡ new =
            ap (λ (r : WriteResult × Kernel). r.1) same in
            let results : (reply_written old (head_unique bytes) wire).0 ≡ result =
            ap (λ (r : WriteResult × Kernel). r.0) same in
            reply_written_is new (subst EmptyUnlessLive after (written_empty old (head_unique bytes) wire was.empty))
            (λ live.
            let gains : lookups id new ≡ lookups id old + where_accepted result (times_named id wire) =
            subst (λ (r : WriteResult × Kernel). lookups id r.1
            ≡ lookups id old + where_accepted r.0 (times_named id wire)) same
            (written_gains id low old (head_unique bytes) wire o is
            (subst (λ (k : Kernel). is_live k.phase ≡ true) (sym after) live)) in
            let times = read_times o wire is means result results in
            let counts : where_accepted result (times_said id bytes (awaited old (head_unique bytes)))
            ≡ where_accepted result (times_named id (said_in o bytes)) =
            ap (λ (a : Awaited). where_accepted result (times_said id bytes a)) is in
            let before = was.balance in
            omega (arith, before, gains, times, counts))

  -- ---- what the kernel does without its server

  -- what is asked of a live mount
  when_alive : {A : Type 0} (k : Kernel) (x : Result A Refusal) → refusal_in (when_live k x) ≡ None
      → is_live k.phase ≡ true
  when_alive {A} k x may = by (is_live k.phase) may
    where
      by : (b : Bool) → refusal_in (cond (not b) (Err NotReady) x) ≡ None → b ≡ true
      by true is = refl
      by false is = cc is

  alive : (k l : Kernel) → is_live k.phase ≡ true → l.phase ≡ k.phase → EmptyUnlessLive l
  alive k l live same dead = absurd (true≢false (sym live ∙ ap is_live (sym same) ∙ dead))

  begun_tallied : (k : Kernel) (call : Call) (tally : Tally) → begin_refusal k call ≡ None → Tallied id k tally
      → Tallied id (call_put k call) tally
  begun_tallied k call tally may was =
      let c = for_minor k.lists_files call in
      let same = begun_same k c in
      let none = same_gains id low k (call_begun k c) same in
      let before = was.balance in
      record {
        balance = omega (arith, none, before);
        empty = λ dead.
            let dead_before : is_live k.phase ≡ false = ap is_live (sym (begun_goes_on k c).phase) ∙ dead in
            let e = was.empty dead_before in (
              same.nodes ∙ e.0,
              ap (λ (q : QueueState Purpose). q.requests) (begun_aborted k c
                  (aborted_if_ready k.phase (ready (is_ready k.phase) may) dead_before)) ∙ e.1,
              same.forgets ∙ e.2,
            );
      }
    where
      ready : (b : Bool) → refusal_in (unless (not b) NotReady (unless (nat_le max_calls (length k.vfs.calls)) Full
          (within_counters (call_begun k (for_minor k.lists_files call))))) ≡ None → b ≡ true
      ready true is = refl
      ready false is = cc is

  evicted_tallied : (k : Kernel) (node : ℕ) (c : Counted) (tally : Tally) → get k.nodes node ≡ Some c
      → is_live k.phase ≡ true → Tallied id k tally → Tallied id (evicted k node c) tally
  evicted_tallied k node c tally there live was =
      let counts : counted (get k.nodes node) ≡ c.count = ap counted there in
      let gone = evicted_count k.nodes node id in
      let pushed = sum_by_push (λ (f : Forget). cond (nat_eq f.0 id) f.1 0) k.queues.forgets (node, c.count) in
      let same : cond (nat_eq node id) (counted (get k.nodes node)) 0 ≡ cond (nat_eq node id) c.count 0 =
      ap (λ (n : ℕ). cond (nat_eq node id) n 0) counts in
      let before = was.balance in
      record { balance = omega (arith, gone, pushed, same, before); empty = alive k (evicted k node c) live refl }

  alone_tallied : (old new : Kernel) (acts : ActsAlone old new) (tally : Tally) → Tallied id old tally
      → Tallied id new (tally_alone acts tally)
  alone_tallied old new (mounts may) tally was = record { balance = refl; empty = λ dead. absurd (true≢false dead) }
  alone_tallied old new (begins call may) tally was = begun_tallied old call tally may was
  alone_tallied old new (is_signalled call fatal effect q may is) tally was =
      let after = (call_signalled old call is.state fatal).1 in
      let none = same_gains id low old after (signalled_same old call is.state fatal) in
      let before = was.balance in
      subst (λ (r : IntrEffect × Kernel). Tallied id r.1 tally) is.signalled (record {
        balance = omega (arith, none, before);
        empty = alive old after (when_alive old _ may) (signalled_goes_on old call is.state fatal).phase;
      })
  alone_tallied old new (ticks ms may) tally was = record { balance = was.balance; empty = was.empty }
  alone_tallied old new (drops_name directory name may) tally was = record { balance = was.balance; empty = was.empty }
  alone_tallied old new (evicts node c may there) tally was =
      evicted_tallied old node c tally there (when_alive old _ may) was
  alone_tallied old new (aborts may) tally was = record { balance = refl; empty = λ dead. (refl, refl, refl) }
  alone_tallied old new (gives_answer call) tally was = record { balance = was.balance; empty = was.empty }

  -- ---- reads

  abbrev given_back : RequestBody → ℕ
  given_back body = forgotten id (forgets_of body)

  -- a request that is pending forgets nothing
  pending_forgets : (k : Kernel) (kept : Purpose) (body : RequestBody) → body_of k kept ≡ Some body
      → given_back body ≡ 0
  pending_forgets k purpose.Init body is = ap (λ (o : Option RequestBody). option_map_or given_back o 0) (sym is)
  pending_forgets k (purpose.Release opened) body is =
      ap (λ (o : Option RequestBody). option_map_or given_back o 0) (sym is)
  pending_forgets k (purpose.Call call) body is = by (get k.vfs.calls call) is
    where
      by : (o : Option (CallState Opened)) → asked_by o ≡ Some body → given_back body ≡ 0
      by None at = cc at
      by (Some state) at = ap (λ (o : Option RequestBody). option_map_or given_back o 0) (sym at)

  spelled : (fs : List Forget) → forgets_of (forget_body fs) ≡ fs
  spelled [] = refl
  spelled (f ∷ []) = refl
  spelled (f ∷ g ∷ fs) = refl

  -- what is read of the forgets leaves them
  forgets_leave : (k : Kernel) (count unique : ℕ) (fs : List Forget) → forgets_read k count ≡ Some (unique, fs)
      → forgotten id (after_read_forgets k.queues count).forgets + forgotten id fs ≡ forgotten id k.queues.forgets
  forgets_leave k count unique fs first =
      by (forgets_singly k.minor && nat_lt 1 count) (can_read_forgets k.queues count) first
    where
      by : (b c : Bool)
          → cond b None (cond {A = Option (ℕ × List Forget)} c (Some (k.queues.next, take count k.queues.forgets)) None)
          ≡ Some (unique, fs)
          → forgotten id (cond c (record k.queues { forgets = drop count k.queues.forgets; next = k.queues.next + 2 })
          k.queues).forgets + forgotten id fs ≡ forgotten id k.queues.forgets
      by true c is = cc is
      by false false is = cc is
      by false true is =
          let read : forgotten id (take count k.queues.forgets) ≡ forgotten id fs =
          ap (λ (o : Option (ℕ × List Forget)). option_map_or (λ r. forgotten id r.1) o 0) is in
          let parts = sum_by-take-drop (λ (f : Forget). cond (nat_eq f.0 id) f.1 0) k.queues.forgets count in
          omega (arith, read, parts)

  picked_balance : (k : Kernel) (pick : Pick) (request : Request) → IsPicked k pick request
      → forgotten id (after_pick k.queues pick).forgets + given_back request.body ≡ forgotten id k.queues.forgets
  picked_balance k Interrupt request is =
      let none = ap (λ (r : Request). given_back r.body) is.is in omega (arith, none)
  picked_balance k (Forgets count) request is =
      let body : given_back request.body ≡ forgotten id is.forgets =
      ap (λ (r : Request). given_back r.body) is.is ∙ ap (forgotten id) (spelled is.forgets) in
      let leave = forgets_leave k count request.unique is.forgets is.first in
      omega (arith, body, leave)
  picked_balance k (Pending place) request is =
      let none = pending_forgets k is.purpose request.body is.body in
      let same = ap (forgotten id) (read_same k.queues (slice_get (pending k.queues) place)) in
      omega (arith, none, same)

  picked_live : (k : Kernel) (pick : Pick) → pick_refusal k pick ≡ None → is_live k.phase ≡ true
  picked_live k Interrupt may = when_alive k _ may
  picked_live k (Forgets count) may = when_alive k _ may
  picked_live k (Pending place) may = when_alive k _ may

  picked_tallied : (k : Kernel) (pick : Pick) (request : Request) (tally : Tally) → pick_refusal k pick ≡ None
      → IsPicked k pick request → Tallied id k tally
      → Tallied id (record k { queues = after_pick k.queues pick })
      (record tally { forgotten = tally.forgotten + given_back request.body })
  picked_tallied k pick request tally may is was = record {
    balance =
        let moved = picked_balance k pick request is in
        let before = was.balance in
        omega (arith, moved, before);
    empty = alive k (record k { queues = after_pick k.queues pick }) (picked_live k pick may) refl;
  }

  -- ---- runs

  step_tallied : (old : Driven) (log : List Transfer) (new : Driven) (step : DriveStep old log new) (tally : Tally)
      → Tallied id old.kernel tally → Tallied id new.kernel (tally_at id step tally)
  step_tallied old log new (alone k acts) tally was = alone_tallied old.kernel k acts tally was
  step_tallied old log new (reads idle pick may request is) tally was =
      picked_tallied old.kernel pick request tally may is was
  step_tallied old log new (answers request error turn bytes written result k taken) tally was =
      taken_tallied old.kernel bytes result tally was k taken
  step_tallied old log new (writes idles frame rest there handed on result k taken went next_own left turn behind) tally was =
      taken_tallied old.kernel handed result tally was k taken
  step_tallied old log new step tally was = was

  -- A run from before the first mount keeps the tally.
  pub run_tallied : (asks_opendir : Bool) (log : List Transfer) (new : Driven)
      (run : Drives (first_driven asks_opendir) log new)
      → Tallied id new.kernel (tally_of id run)
  run_tallied asks_opendir log new nothing = record { balance = refl; empty = λ dead. (refl, refl, refl) }
  run_tallied asks_opendir log new (next before mid run last end step) =
      step_tallied mid last end step (tally_of id run) (run_tallied asks_opendir before mid run)

  pub run_forgets : (asks_opendir : Bool) (log : List Transfer) (new : Driven)
      (run : Drives (first_driven asks_opendir) log new)
      → ForgottenAsGathered id new.kernel (tally_of id run)
  run_forgets asks_opendir log new run =
      let whole = (run_tallied asks_opendir log new run).balance in
      record {
        balance = whole;
        never_more = omega (arith, whole);
        in_the_end = λ none left. let counts = ap counted none in omega (arith, whole, counts, left);
      }
