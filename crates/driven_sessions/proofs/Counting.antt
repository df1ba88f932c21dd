-- Each node that the kernel counts is counted at least as often in the session.
use Rattle.std.proofs.Common.{◌≡◌, inl, inr, ℕ, ℤ, ◌+◌, ◌-◌, ◌≤◌, ◌<◌, ◌%◌, ◌^◌, ◌==◌, Bool, true, false, cond, List, [], ◌∷◌, ◌++◌, Option, Some, None, nat_eq, nat_lt, length, refl, ap, sym, subst, ◌∙◌, arith, length-append, replicate, set}
use Rattle.std.proofs.lemmas.List.{length-replicate, length-set}
use Rattle.std.specs.Prelude.{negsuc, pos, ◌≤ℤ◌}
use Rattle.std.specs.Int.{cast_unsigned, w32}
use Rattle.std.specs.Borrow.{Bor}
use Rattle.std.proofs.lemmas.Bool.{false≢true}
use Rattle.std.proofs.lemmas.Bool.Decides.{nat_tests}
use Rattle.std.proofs.lemmas.Int.{ints}
use Rattle.fuse_device.specs.declared.device.DeviceEnd.{DeviceEnd}
use Rattle.fuse_device.specs.Transfers.{Transfer, received, stopped}
use Rattle.fuse_spec.specs.declared.Opened.{Opened}
use Rattle.fuse_spec.specs.declared.WriteResult.{WriteResult}
use Rattle.fuse_spec.specs.declared.WriteResult.TheVariants.{Accepted, Invalid, NoEntry}
use Rattle.fuse_spec.specs.Kernel.Kernel.{Kernel, is_live}
use Rattle.fuse_spec.specs.declared.Purpose.{Purpose}
use Rattle.fuse_spec.specs.Claim.Counts.{times_named}
use Rattle.fuse_spec.specs.Kernel.Messages.{Forget, Request, WireReply}
use Rattle.fuse_spec.specs.Kernel.QueueCalls.{waiting as queue_waiting}
use Rattle.fuse_spec.specs.Kernel.Queues.{request_under}
use Rattle.fuse_spec.proofs.QueueCounts.{key_count, lookup-no_key}
use Rattle.std.specs.Map.{lookup}
use Rattle.driven_sessions.proofs.Asking.{awaits, awaits_none}
use Rattle.driven_sessions.proofs.Numbers.{Entry}
use Rattle.fuse_spec.specs.Server.Server.{forgets_of, forgotten}
use Rattle.fuse_frames.specs.RequestTies.{SaysRequest}
use Rattle.fk_wire.specs.declared.opcode.Opcode.{Opcode}
use Rattle.fk_wire.specs.declared.opcode.Opcode.TheVariants as op
use Rattle.fk_wire.specs.Opcodes.{latest_minor}
use Rattle.fk_wire.specs.Replies.{empty_reply, kind_of_content, reply_kind}
use Rattle.fk_kernel.specs.AwaitedReplies.{Awaited, Says, awaited, awaited_by, awaited_by_interrupt, head_unique, reply_to, nothing as none_awaited}
use Rattle.fk_drive_frames.specs.Agreements.{IsHandedOn, IsOlderAgreement, agreement_on, raised}
use Rattle.fk_drive_frames.proofs.Agreements.{by_raised}
use Rattle.fk_drive_frames.specs.OwnRequests.{GivesError}
use Rattle.fk_drive.specs.Driving.{Driven, DriveStep, ReleasesBehind, SendsFrame, Turn, unopened, alone, reads, sends, opens, is_given, is_not_known, is_refused, is_garbled, sends_opened, answers, waits, sets_aside, writes, is_released, ends, releases, releases_none, with_result, at_end}
use Rattle.fk_drive.specs.KernelSteps.{ActsAlone, IsReplyTaken, mounts, aborts}
use Rattle.fk_drive_theorem.specs.TakenOnce.{mounts_alone, mounts_at}
use Rattle.fk_drive_theorem.specs.Tallies.{Tally, no_lookups, tally_alone, tally_at, tally_written, times_said, where_accepted}
use Rattle.fk_drive_theorem.proofs.OneEach.{OneEach}
use Rattle.fk_drive_theorem.proofs.WrittenCounted.{EmptyUnlessLive}
use Rattle.protocol_law.specs.Law.{Carries}
use Rattle.fuse_sessions.specs.declared.act.Act.{Act}
use Rattle.fuse_sessions.specs.declared.act.Taken.{Taken}
use Rattle.fuse_sessions.specs.declared.known.Known.{Known}
use Rattle.fuse_sessions.specs.declared.transfer.Transfer.{Transfer as Said}
use Rattle.fuse_sessions.specs.declared.transfer.Transfer.TheVariants as said
use Rattle.fuse_sessions.specs.Counts.{most_count}
use Rattle.fuse_sessions.specs.Frames.{AreActs, AreReadActs, AreRequestActs, Lead}
use Rattle.fuse_sessions.specs.Sessions.{Session}
use Rattle.driven_sessions.specs.Driven.{HaveAgreed}
use Rattle.driven_sessions.specs.Taken.{AreTaken, HasHeader, IsTaken, Outcome, all_aside, first_written, outcomes_after, waiting, written}
use Rattle.driven_sessions.specs.Transfers.{AreSaid}
use Rattle.driven_sessions.proofs.Doing.{request_does}
use Rattle.driven_sessions.proofs.Frames.{IsOwn, SaysForgets, frame_forgets, own_head}
use Rattle.driven_sessions.proofs.Gives.{gives}
use Rattle.driven_sessions.proofs.Heard.{Adds, heard_adds, judged_before}
use Rattle.driven_sessions.proofs.InitReplies.{says_headed}
use Rattle.driven_sessions.proofs.Lookups.{error_times, error_word, interrupt_times, short_times, taken_times}
use Rattle.driven_sessions.proofs.Never.{by_judged, ended_calm, written_is_calm}
use Rattle.driven_sessions.proofs.Outcomes.{GoOn, left_of}
use Rattle.driven_sessions.proofs.Owing.{Owes, aside_owes, first_owes, last_owes, map_owes}
use Rattle.driven_sessions.proofs.Replying.{step_knows}
use Rattle.driven_sessions.proofs.Spent.{held}
use Rattle.driven_sessions.proofs.Takes.{calm_takes, count_on, request_takes, takes}
use Rattle.driven_sessions.proofs.Telling.{Tells}

-- ---- how a session's count goes on

module _ (id : ℕ) where
  written_grows : (k : Known) (s : Session) (b : Bor (List ℕ)) (t : Taken) (acts : List Act) (later : Known)
      → AreActs k s (said.Written b t) acts later → most_count s id + gives id acts ≤ most_count (s ++ acts) id
  written_grows k s b t acts later are =
      let on = count_on id s acts in
      let none = calm_takes id acts (written_is_calm k s b t acts later are) in
      omega (arith, on, none)

  ended_grows : (k : Known) (s : Session) (acts : List Act) (later : Known) → AreActs k s said.Ended acts later
      → most_count s id ≤ most_count (s ++ acts) id
  ended_grows k s acts later are =
      let on = count_on id s acts in
      let none = calm_takes id acts (ended_calm k s acts later are) in
      omega (arith, on, none)

  sent_grows : (k : Known) (s : Session) (b : Bor (List ℕ)) (frame : List ℕ) → b.now ≡ frame → (n : ℕ)
      → SaysForgets (λ (fs : List Forget). forgotten id fs ≡ n) frame → (acts : List Act) (later : Known)
      → AreActs k s (said.Request b) acts later → most_count s id ≤ most_count (s ++ acts) id + n
  sent_grows k s b frame same n says acts later are =
      let on = count_on id s acts in
      let few : takes id acts ≤ n = by_judged (takes id acts ≤ n) k.unjudged (AreReadActs k s (said.Request b) acts later)
      (λ why. (acts ≡ []) × (later ≡ k))
      (λ judged does. request_takes id n k.agreed frame acts says (request_does k frame acts
      (subst (λ (l : List ℕ). AreRequestActs k l acts) same does.0)))
      (λ why unjudged none. let zero : takes id acts ≡ 0 = ap (takes id) none.0 in omega (arith, zero)) are in
      omega (arith, on, few)

  -- What is sent, or not, with one transfer.
  pub sends_grow : (k : Known) (s : Session) (frame : List ℕ) (n : ℕ)
      → SaysForgets (λ (fs : List Forget). forgotten id fs ≡ n) frame → (log : List Transfer) → SendsFrame frame log
      → (ts : List Said) → AreSaid log ts → (later : Known) (all : Session) → Lead k s ts later all
      → most_count s id ≤ most_count all id + n
  sends_grow k s frame n says log (with_result result) (said.Request b ∷ []) is later all (acts, known, are, leads) =
      let grows = sent_grows k s b frame is.0 n says acts known are in
      let same : most_count all id ≡ most_count (s ++ acts) id = ap (λ (x : Session). most_count x id) leads.1 in
      omega (arith, grows, same)
  sends_grow k s frame n says log (at_end end) (said.Ended ∷ []) is later all (acts, known, are, leads) =
      let grows = ended_grows k s acts known are in
      let same : most_count all id ≡ most_count (s ++ acts) id = ap (λ (x : Session). most_count x id) leads.1 in
      omega (arith, grows, same)
  sends_grow k s frame n says log went ts is later all leads = absurd search

  pub none_grows : (k : Known) (s : Session) (ts : List Said) → AreSaid [] ts → (later : Known) (all : Session)
      → Lead k s ts later all → most_count all id ≡ most_count s id
  none_grows k s [] is later all leads = ap (λ (x : Session). most_count x id) leads.1
  none_grows k s (t ∷ ts) is later all leads = absurd is

  pub received_grows : (k : Known) (s : Session) (frame : List ℕ) (ts : List Said) → AreSaid (received frame ∷ []) ts
      → (later : Known) (all : Session) → Lead k s ts later all → most_count s id ≤ most_count all id
  received_grows k s frame (said.Written b t ∷ []) is later all (acts, known, are, leads) =
      let grows = written_grows k s b t acts known are in
      let same : most_count all id ≡ most_count (s ++ acts) id = ap (λ (x : Session). most_count x id) leads.1 in
      omega (arith, grows, same)
  received_grows k s frame ts is later all leads = absurd search

  pub stopped_grows : (k : Known) (s : Session) (end : DeviceEnd) (ts : List Said)
      → AreSaid (stopped end ∷ []) ts → (later : Known) (all : Session) → Lead k s ts later all
      → most_count s id ≤ most_count all id
  stopped_grows k s end (said.Ended ∷ []) is later all (acts, known, are, leads) =
      let grows = ended_grows k s acts known are in
      let same : most_count all id ≡ most_count (s ++ acts) id = ap (λ (x : Session). most_count x id) leads.1 in
      omega (arith, grows, same)
  stopped_grows k s end ts is later all leads = absurd search

-- ---- what is kept

abbrev pub back_of : ℕ → Option Request → ℕ
back_of id None = 0
back_of id (Some r) = forgotten id (forgets_of r.body)

-- how many lookups the request that is held gives back
abbrev pub held_back : ℕ → Turn → ℕ
held_back id turn = back_of id (held turn)

-- The error of a directory that could not be opened is one.
abbrev pub IsFailing : Turn → Type 0
IsFailing (unopened r error) = (n : ℕ) × (error ≡ negsuc n)
IsFailing turn = Unit {0}

-- What was gathered, what is held and what frames that wait will add was given, but for what was forgotten.
pub record Counts (id count : ℕ) (t : Tally) (all now : List Outcome) (d : Driven) (s : Session) : Type 0 where
  pub owed : ℕ
  pub owes : Owes (Adds id count d.kernel) d.waiting now all owed
  pub balance : t.gathered + held_back id d.turn + owed ≤ most_count s id + t.forgotten
  pub failing : IsFailing d.turn

pub own_forgets : (id : ℕ) (frame : List ℕ) (unique : ℕ) → unique < 2 ^ 63 → IsOwn frame unique
    → SaysForgets (λ (fs : List Forget). forgotten id fs ≡ 0) frame
own_forgets id frame unique low own =
    let head = own_head frame unique low own in record {
      one = λ e. absurd (false≢true (sym head.2 ∙ e));
      many = λ e. absurd (false≢true (sym head.3 ∙ e));
    }

pub request_forgets : (id : ℕ) (frame : List ℕ) (r : Request) → SaysRequest frame r
    → SaysForgets (λ (fs : List Forget). forgotten id fs ≡ forgotten id (forgets_of r.body)) frame
request_forgets id frame r says =
    frame_forgets (λ (fs : List Forget). forgotten id fs ≡ forgotten id (forgets_of r.body)) frame r says refl

error_failing : (frame : List ℕ) (unique : ℕ) (error : ℤ) → GivesError frame unique error → (n : ℕ) × (error ≡ negsuc n)
error_failing frame unique (negsuc n) gives = (n, refl)
error_failing frame unique (pos n) gives = absurd (by n (omega (arith, ints, good)) gives.2.1 gives.2.2)
  where
    good : pos n ≤ℤ pos 0
    good = gives.1.0

    by : (n : ℕ) → n ≡ 0 → reply_kind latest_minor op.Open ≡ Some gives.2.0
        → kind_of_content empty_reply ≡ cond (cast_unsigned w32 (pos n) == 0) gives.2.0 (kind_of_content empty_reply) → ⊥
    by n zero is same =
        let here : kind_of_content empty_reply ≡ gives.2.0 =
        same ∙ ap (λ (m : ℕ). cond (cast_unsigned w32 (pos m) == 0) gives.2.0 (kind_of_content empty_reply)) zero in
        cc (is ∙ ap Some (sym here))

-- What is handed on for an older agreement is short.
pub raised_short : (frame handed : List ℕ) → IsOlderAgreement frame → handed ≡ raised frame → length handed ≤ 80
raised_short frame handed older same =
    subst (λ (l : List ℕ). length l ≤ 80) (sym same)
    (by_raised (λ l. length l ≤ 80) frame (short 15 40 (omega arith) (by older)) (short 31 80 (omega arith) (by older)))
  where
    short : (minor size : ℕ) → size ≤ 80 → length frame ≤ 80 → length (agreement_on minor size frame) ≤ 80
    short minor size most whole = omega (arith, long, most, whole)
      where
        long : length (agreement_on minor size frame) ≡ length frame + (size - length frame)
        long = length-set (set (frame ++ replicate (size - length frame) 0) 0 size) 20 minor
            ∙ length-set (frame ++ replicate (size - length frame) 0) 0 size
            ∙ length-append frame (replicate (size - length frame) 0)
            ∙ ap (λ (n : ℕ). length frame + n) (length-replicate (size - length frame) 0)

    by : IsOlderAgreement frame → length frame ≤ 80
    by (inl is) = let whole = is.whole in omega (arith, whole)
    by (inr (inl is)) = let whole = is.whole in omega (arith, whole)
    by (inr (inr is)) = let whole = is.whole in omega (arith, whole)

abbrev opcode_of_awaited : Awaited → Opcode
opcode_of_awaited none_awaited = op.Init
opcode_of_awaited (reply_to o) = o

-- What awaits a reply has a number of the kernel's, and the kernel is live.
pub awaited_low : (k : Kernel) → OneEach k.queues → EmptyUnlessLive k → k.queues.next ≤ 2 ^ 62 → (u : ℕ) (p : Opcode)
    → awaits k u ≡ reply_to p → (u < 2 ^ 62) × (is_live k.phase ≡ true)
awaited_low k one empty within u p at = (low (nat_lt u k.queues.next) refl (one u), live (is_live k.phase) refl)
  where
    some : request_under k.queues u ≡ None → ⊥
    some none = cc (at, awaits_none k u none)

    low : (b : Bool) → nat_lt u k.queues.next ≡ b → key_count u k.queues.requests ≤ cond b 1 0 → u < 2 ^ 62
    low true is few = grind (arith, nat_tests, is, within)
    low false is few = absurd (some (lookup-no_key u k.queues.requests (omega (arith, few))))

    live : (b : Bool) → is_live k.phase ≡ b → b ≡ true
    live true is = refl
    live false is = absurd (some (ap (λ (es : List Entry). lookup (nat_eq u) es) (empty is).1))

module _ (id : ℕ) (low : 2 ≤ id) (count : ℕ) (t : Tally) (all now : List Outcome) (old : Driven) (k : Known) (s : Session)
    (counts : Counts id count t all now old s) (tells : Tells count old s) (one : OneEach old.kernel.queues)
    (empty : EmptyUnlessLive old.kernel) (within : old.kernel.queues.next ≤ 2 ^ 62) (never : t.forgotten ≤ t.gathered) where
  step_adds : (log : List Transfer) (new : Driven) (step : DriveStep old log new) → count + mounts_at step ≤ 1 → (frame : List ℕ)
      (o : Outcome) (g : ℕ) → Adds id count old.kernel frame o g → Adds id (count + mounts_at step) new.kernel frame o g
  step_adds log new step few frame o g adds accepted headed even less =
      let was = adds accepted headed even less in
      let some = was.0 in (
        omega (arith, some),
        was.1,
        step_knows old one empty tells.well log new step (omega (arith, few, some)) was.1 (head_unique frame) was.2,
        was.3,
      )

  still_owes : (log : List Transfer) (new : Driven) (step : DriveStep old log new) → count + mounts_at step ≤ 1
      → GoOn (now ++ all_aside log) all
      → Owes (Adds id (count + mounts_at step) new.kernel) old.waiting (now ++ all_aside log) all counts.owed
  still_owes log new step few goes = map_owes (Adds id count old.kernel) (Adds id (count + mounts_at step) new.kernel)
      (step_adds log new step few) old.waiting (now ++ all_aside log) all counts.owed
      (aside_owes (Adds id count old.kernel) old.waiting log now all counts.owed counts.owes goes)

  -- Bytes are taken as a reply, which may end the mount.
  written_balance : (b : Bool) (x back owed most : ℕ) → t.gathered + x + back + owed ≤ most + t.forgotten
      → (cond b (record t { gathered = t.gathered + x }) no_lookups).gathered + back + owed
      ≤ most + (cond b (record t { gathered = t.gathered + x }) no_lookups).forgotten
  written_balance true x back owed most le = omega (arith, le)
  written_balance false x back owed most le = omega (arith, le, never)

  -- ---- the kernel by itself

  alone_counts : (l : Kernel) (acts : ActsAlone old.kernel l) → count + mounts_alone acts ≤ 1 → GoOn (now ++ []) all
      → Counts id (count + mounts_alone acts) (tally_alone acts t) all (now ++ []) (record old { kernel = l }) s
  alone_counts l (mounts may) few goes = record {
    owed = counts.owed;
    owes = still_owes [] (record old { kernel = l }) (alone l (mounts may)) few goes;
    balance = let was = counts.balance in omega (arith, was, never);
    failing = counts.failing;
  }
  alone_counts l (aborts may) few goes = record {
    owed = counts.owed;
    owes = still_owes [] (record old { kernel = l }) (alone l (aborts may)) few goes;
    balance = let was = counts.balance in omega (arith, was, never);
    failing = counts.failing;
  }
  alone_counts l acts few goes = record {
    owed = counts.owed;
    owes = still_owes [] (record old { kernel = l }) (alone l acts) few goes;
    balance = counts.balance;
    failing = counts.failing;
  }

  -- ---- a frame for the kernel

  -- It is received.
  received_counts : (frame : List ℕ) → count + 0 ≤ 1 → GoOn (now ++ waiting ∷ []) all → (ts : List Said)
      → AreSaid (received frame ∷ []) ts → (later : Known) (whole : Session) (leads : Lead k s ts later whole)
      → AreTaken k s ts later whole leads (left_of now all) → HaveAgreed Carries k s ts later whole leads
      → later.unjudged ≡ None
      → Counts id (count + 0) t all (now ++ waiting ∷ []) (record old { waiting = old.waiting ++ frame ∷ [] }) whole
  received_counts frame few goes (said.Written b u ∷ []) is later whole (acts, known, are, leads) taken agreed judged =
      let grows = written_grows id k s b u acts known are in
      let same : most_count whole id ≡ most_count (s ++ acts) id = ap (λ (x : Session). most_count x id) leads.1 in
      let was = counts.balance in
      let first : k.unjudged ≡ None =
      judged_before (said.Written b u ∷ []) k s later whole (acts, known, are, leads) judged in
      record {
        owed = counts.owed + gives id acts;
        owes = map_owes (Adds id count old.kernel) (Adds id (count + 0) old.kernel) (λ f o g adds accepted headed even less.
            let was = adds accepted headed even less in let some = was.0 in (omega (arith, some), was.1, was.2, was.3))
            (old.waiting ++ frame ∷ []) (now ++ waiting ∷ []) all (counts.owed + gives id acts)
            (last_owes (Adds id count old.kernel) old.waiting frame now all counts.owed (gives id acts) counts.owes goes
            (λ o more at. heard_adds id low count old k s tells agreed.0 first frame b is.0 u acts known are o
            (taken_first (left_of now all) o more at taken)));
        balance = omega (arith, was, grows, same);
        failing = counts.failing;
      }
    where
      taken_first : (os : List Outcome) (o : Outcome) (more : List Outcome) → os ≡ o ∷ more
          → AreTaken k s (said.Written b u ∷ []) later whole (acts, known, are, leads) os → IsTaken k s b.now u o
      taken_first os o more same taken = (subst (AreTaken k s (said.Written b u ∷ []) later whole (acts, known, are, leads)) same
          taken).0
  received_counts frame few goes ts is later whole leads taken agreed judged = absurd search

  -- It is written to the kernel.
  handed_times : (frame handed : List ℕ) → IsHandedOn frame handed → (result : WriteResult) (l : Kernel)
      → IsReplyTaken old.kernel handed result l → (g : ℕ) → Adds id count old.kernel frame (written result) g
      → where_accepted result (times_said id handed (awaited old.kernel (head_unique handed))) ≤ g
  handed_times frame handed on NoEntry l took g adds = omega arith
  handed_times frame handed on Invalid l took g adds = omega arith
  handed_times frame handed on Accepted l took g adds = taken_times id old.kernel handed Accepted l took g (each on)
    where
      each : IsHandedOn frame handed → (p : Opcode) → awaited old.kernel (head_unique handed) ≡ reply_to p → (wire : WireReply)
          → Says p handed wire → times_named id wire ≤ g
      each (inl (older, same)) p awaits_it wire says =
          let none = short_times id p handed wire says (raised_short frame handed older same) in omega (arith, none)
      each (inr (other, same)) p awaits_it wire says = by (nat_eq (head_unique handed % 2) 1) refl awaits_it
        where
          bytes_same : head_unique handed ≡ head_unique frame
          bytes_same = ap head_unique same

          odd : (w : Option Purpose) → awaited_by_interrupt w ≡ reply_to p → times_named id wire ≤ g
          odd None none = absurd (cc none)
          odd (Some kept) is =
              let interrupt : p ≡ op.Interrupt = sym (ap opcode_of_awaited is) in
              let none = interrupt_times id handed wire (subst (λ (q : Opcode). Says q handed wire) interrupt says) in
              omega (arith, none)

          even : head_unique handed % 2 ≡ 0 → awaits old.kernel (head_unique handed) ≡ reply_to p → times_named id wire ≤ g
          even is at =
              let found = awaited_low old.kernel one empty within (head_unique handed) p at in
              let told = adds refl (subst HasHeader same (says_headed handed p wire says)) (ap (λ (n : ℕ). n % 2) (sym bytes_same) ∙ is)
              (subst (λ (n : ℕ). n < 2 ^ 62) bytes_same found.0) in
              let opcode : p ≡ told.1 = (told.2 found.1).1 p (ap (awaits old.kernel) (sym bytes_same) ∙ at) in
              told.3 wire (subst (λ (l : List ℕ). Says told.1 l wire) same
              (subst (λ (q : Opcode). Says q handed wire) opcode says))

          by : (b : Bool) → nat_eq (head_unique handed % 2) 1 ≡ b
              → cond b (awaited_by_interrupt (queue_waiting old.kernel.queues (head_unique handed - 1)))
              (awaited_by old.kernel (queue_waiting old.kernel.queues (head_unique handed))) ≡ reply_to p
              → times_named id wire ≤ g
          by true is at = odd (queue_waiting old.kernel.queues (head_unique handed - 1)) at
          by false is at = even (grind (arith, nat_tests, is)) at

  -- RELEASEDIR forgets nothing.
  released_grows : (frame : List ℕ) (log : List Transfer) (coming : ℕ) (left : List (ℕ × Opened)) (turn : Turn)
      → ReleasesBehind frame old.next old.directories log coming left turn → (ts : List Said) → AreSaid log ts → (later : Known)
      (whole : Session) → Lead k s ts later whole
      → (most_count s id ≤ most_count whole id) × (held_back id turn ≡ 0) × IsFailing turn
  released_grows frame log coming left turn (releases head below before after directory is apart bytes own log' went) ts said later
      whole leads =
      let most = sends_grow id k s bytes 0 (own_forgets id bytes old.next below (inr (directory, own))) log went ts said later whole
      leads in
      (omega (arith, most), refl, tt)
  released_grows frame log coming left turn (releases_none unlisted) ts said later whole leads =
      let most = none_grows id k s ts said later whole leads in (omega (arith, most), refl, tt)

  written_counts : (frame : List ℕ) (rest : List (List ℕ)) → old.waiting ≡ frame ∷ rest → (handed : List ℕ) → IsHandedOn frame handed
      → (result : WriteResult) (l : Kernel) → IsReplyTaken old.kernel handed result l
      → ((f : List ℕ) (o : Outcome) (g : ℕ) → Adds id count old.kernel f o g → Adds id (count + 0) l f o g)
      → GoOn (first_written result now) all → (log : List Transfer) (coming : ℕ) (left : List (ℕ × Opened)) (turn : Turn)
      → ReleasesBehind frame old.next old.directories log coming left turn → (ts : List Said) → AreSaid log ts → (later : Known)
      (whole : Session) → Lead k s ts later whole
      → Counts id (count + 0) (tally_written id old.kernel handed result l t) all (first_written result now) (record old {
        kernel = l;
        waiting = rest;
        next = coming;
        directories = left;
        turn = turn;
      }) whole
  written_counts frame rest there handed on result l took adds goes log coming left turn release ts is later whole leads =
      let first = first_owes (Adds id count old.kernel) frame rest result now all counts.owed
      (subst (λ (f : List (List ℕ)). Owes (Adds id count old.kernel) f now all counts.owed) there counts.owes) goes in
      let few = handed_times frame handed on result l took first.adds first.such in
      let grows = released_grows frame log coming left turn release ts is later whole leads in
      let most = grows.0 in
      let none = grows.1 in
      let was = counts.balance in
      let sum = first.sum in
      record {
        owed = first.left;
        owes = map_owes (Adds id count old.kernel) (Adds id (count + 0) l) adds rest (first_written result now) all first.left first.owes;
        balance = written_balance (is_live l.phase) (where_accepted result (times_said id handed (awaited old.kernel (head_unique handed))))
            (held_back id turn) first.left (most_count whole id) (omega (arith, was, few, most, none, sum));
        failing = grows.2;
      }

  -- ---- with a transfer

  module _ (ts : List Said) (later : Known) (whole : Session) (leads : Lead k s ts later whole) where
    -- Nothing is owed more, and the session counts on.
    aside_counts : (log : List Transfer) (new : Driven) (step : DriveStep old log new) → count + mounts_at step ≤ 1
        → GoOn (now ++ all_aside log) all → new.waiting ≡ old.waiting → (tally : Tally)
        → tally.gathered + held_back id new.turn + counts.owed ≤ most_count whole id + tally.forgotten → IsFailing new.turn
        → Counts id (count + mounts_at step) tally all (now ++ all_aside log) new whole
    aside_counts log new step few goes same tally balance failing = record {
      owed = counts.owed;
      owes = subst (λ (l : List (List ℕ)). Owes (Adds id (count + mounts_at step) new.kernel) l (now ++ all_aside log) all counts.owed)
          (sym same) (still_owes log new step few goes);
      balance = balance;
      failing = failing;
    }

    pub step_counts : (log : List Transfer) (new : Driven) (step : DriveStep old log new) → count + mounts_at step ≤ 1
        → GoOn (outcomes_after step now) all → AreSaid log ts → AreTaken k s ts later whole leads (left_of now all)
        → HaveAgreed Carries k s ts later whole leads → later.unjudged ≡ None
        → Counts id (count + mounts_at step) (tally_at id step t) all (outcomes_after step now) new whole
    step_counts log new (alone l acts) few goes is taken agreed judged =
        let most = none_grows id k s ts is later whole leads in
        let was = alone_counts l acts few goes in
        let balance = was.balance in
        record { owed = was.owed; owes = was.owes; balance = omega (arith, balance, most); failing = was.failing }
    step_counts log new (reads idles pick may request picked_one) few goes is taken agreed judged =
        let most = none_grows id k s ts is later whole leads in
        let was = counts.balance in
        aside_counts log new (reads idles pick may request picked_one) few goes refl _ (omega (arith, was, most)) tt
    step_counts log new (sends request turn unlisted frame says log' went) few goes is taken agreed judged =
        let most = sends_grow id k s frame (forgotten id (forgets_of request.body)) (request_forgets id frame request says.says) log went ts
        is later whole leads in
        let was = counts.balance in
        let back : held_back id old.turn ≡ forgotten id (forgets_of request.body) = ap (held_back id) turn in
        aside_counts log new (sends request turn unlisted frame says log' went) few goes refl t (omega (arith, was, most, back)) tt
    step_counts log new (sends_opened request fh turn frame says handle log' went) few goes is taken agreed judged =
        let most = sends_grow id k s frame (forgotten id (forgets_of request.body)) (request_forgets id frame request says.says) log went ts
        is later whole leads in
        let was = counts.balance in
        let back : held_back id old.turn ≡ forgotten id (forgets_of request.body) = ap (held_back id) turn in
        aside_counts log new (sends_opened request fh turn frame says handle log' went) few goes refl t
        (omega (arith, was, most, back)) tt
    step_counts log new (opens request turn asks below node lists frame own log' went) few goes is taken agreed judged =
        let most = sends_grow id k s frame 0 (own_forgets id frame old.next below (inl (node, own))) log went ts is later whole leads in
        let was = counts.balance in
        let back : held_back id old.turn ≡ forgotten id (forgets_of request.body) = ap (held_back id) turn in
        aside_counts log new (opens request turn asks below node lists frame own log' went) few goes refl t
        (omega (arith, was, most, back)) tt
    step_counts log new (is_given request unique node turn frame fh gives) few goes is taken agreed judged =
        let most = received_grows id k s frame ts is later whole leads in
        let was = counts.balance in
        let back : held_back id old.turn ≡ forgotten id (forgets_of request.body) = ap (held_back id) turn in
        aside_counts log new (is_given request unique node turn frame fh gives) few goes refl t (omega (arith, was, most, back)) tt
    step_counts log new (is_not_known request unique node turn frame gives) few goes is taken agreed judged =
        let most = received_grows id k s frame ts is later whole leads in
        let was = counts.balance in
        let back : held_back id old.turn ≡ forgotten id (forgets_of request.body) = ap (held_back id) turn in
        aside_counts log new (is_not_known request unique node turn frame gives) few goes refl t (omega (arith, was, most, back)) tt
    step_counts log new (is_refused request unique node turn frame error other gives) few goes is taken agreed judged =
        let most = received_grows id k s frame ts is later whole leads in
        let was = counts.balance in
        let back : held_back id old.turn ≡ forgotten id (forgets_of request.body) = ap (held_back id) turn in
        aside_counts log new (is_refused request unique node turn frame error other gives) few goes refl t
        (omega (arith, was, most, back)) (error_failing frame unique error gives)
    step_counts log new (is_garbled request unique node turn frame head under gives) few goes is taken agreed judged =
        let most = received_grows id k s frame ts is later whole leads in
        let was = counts.balance in
        let back : held_back id old.turn ≡ forgotten id (forgets_of request.body) = ap (held_back id) turn in
        aside_counts log new (is_garbled request unique node turn frame head under gives) few goes refl t
        (omega (arith, was, most, back)) (4, refl)
    step_counts log new (answers request error turn bytes reply result l took) few goes is taken agreed judged =
        let most = none_grows id k s ts is later whole leads in
        let was = counts.balance in
        let fails = subst IsFailing turn counts.failing in
        let none : where_accepted result (times_said id bytes (awaited old.kernel (head_unique bytes))) ≤ 0 =
        taken_times id old.kernel bytes result l took 0 (λ p at wire says. error_times id p bytes wire says
        (error_word (record { unique = request.unique; error = error; content = empty_reply }) bytes fails.0 fails.1 reply)) in
        aside_counts log new (answers request error turn bytes reply result l took) few goes refl _
        (written_balance (is_live l.phase) (where_accepted result (times_said id bytes (awaited old.kernel (head_unique bytes)))) 0
        counts.owed (most_count whole id) (omega (arith, was, most, none))) tt
    step_counts log new (waits frame own_one) few goes is taken agreed judged = received_counts frame few goes ts is later whole leads
        taken agreed judged
    step_counts log new (sets_aside frame other) few goes is taken agreed judged =
        let most = received_grows id k s frame ts is later whole leads in
        let was = counts.balance in
        aside_counts log new (sets_aside frame other) few goes refl t (omega (arith, was, most)) counts.failing
    step_counts log new (writes idles frame rest there handed on result l took log' coming left turn release) few goes is taken agreed
        judged = written_counts frame rest there handed on result l took (step_adds log new
        (writes idles frame rest there handed on result l took log' coming left turn release) few) goes log' coming left turn release ts
        is later whole leads
    step_counts log new (is_released unique turn frame head same) few goes is taken agreed judged =
        let most = received_grows id k s frame ts is later whole leads in
        let was = counts.balance in
        aside_counts log new (is_released unique turn frame head same) few goes refl t (omega (arith, was, most)) tt
    step_counts log new (ends end) few goes is taken agreed judged =
        let most = stopped_grows id k s end ts is later whole leads in
        let was = counts.balance in
        aside_counts log new (ends end) few goes refl t (omega (arith, was, most)) counts.failing
